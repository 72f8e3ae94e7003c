use Rattle.std.proofs.Common.{[], ◌∷◌, codes, true}
use Rattle.std.proofs.lemmas.Result.{on_ok_weaker}
use Rattle.json.specs.Token.{begin_object, end_object}
use Rattle.csdf_json.specs.Lines.{flag_tokens, number_tokens}
use Rattle.csdf_json.proofs.LineLemmas.{wrote_five}
use Rattle.csdf_answers.proofs.object.put_check.Goals as goal

pub returns-clause-tokens : goal.returns-clause-tokens
returns-clause-tokens c =
    on_ok_weaker c.end_object.result
    (λ e. wrote_five c.args.writer.now.tokens (begin_object ∷ []) (flag_tokens (codes "consistent") true) (number_tokens (codes "actors") c.args.actors) (number_tokens (codes "channels") c.args.channels) (end_object ∷ []) _ _ _ _ _
    c.in_ok-begin_object.ensures.ok c.in_ok-put_flag.ensures.tokens c.in_ok-put_number.ensures.tokens c.in_ok-put_number-2.ensures.tokens e)
    c.end_object.ensures.ok
