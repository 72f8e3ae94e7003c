use Rattle.std.proofs.Common.{[], ◌∷◌, codes}
use Rattle.std.specs.List.{enumerate_from}
use Rattle.std.proofs.lemmas.Result.{on_ok_weaker}
use Rattle.json.specs.Token.{begin_object, end_object}
use Rattle.json.specs.Tree.{items_tokens}
use Rattle.csdf_json.specs.Lines.{list_tokens}
use Rattle.csdf_answers.specs.Described.{actor_names}
use Rattle.csdf_answers.specs.Objects.{actor_items}
use Rattle.csdf_json.proofs.LineLemmas.{wrote_four}
use Rattle.csdf_answers.proofs.object.put_repetition.Goals as goal

pub returns-clause-tokens : goal.returns-clause-tokens
returns-clause-tokens c =
    let found = c.args.found.now in
    let items = actor_items found.vector.r.items found.vector.q.items (enumerate_from 0 (actor_names found.graph.actors)) in
    on_ok_weaker c.end_object.result
    (λ e. wrote_four c.args.writer.now.tokens (begin_object ∷ []) (list_tokens (codes "repetition")) (items_tokens items) (end_object ∷ []) _ _ _ _
    c.in_ok-begin_object.ensures.ok c.in_ok-open_list.ensures.tokens c.in_ok-put_actors.ensures.tokens e)
    c.end_object.ensures.ok
