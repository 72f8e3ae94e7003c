use Rattle.std.proofs.Common.{[], ◌∷◌, codes}
use Rattle.std.proofs.lemmas.Result.{on_ok_weaker}
use Rattle.json.specs.Token.{begin_object, end_object}
use Rattle.csdf_json.specs.Lines.{number_tokens, text_tokens}
use Rattle.csdf_json.proofs.LineLemmas.{wrote_four}
use Rattle.csdf_told.proofs.flow_report.put_clipped.Goals as goal

pub returns-clause-tokens : goal.returns-clause-tokens
returns-clause-tokens c =
    on_ok_weaker c.end_object.result
    (λ e. wrote_four c.args.writer.now.tokens (begin_object ∷ []) (text_tokens (codes "sink") c.args.name.now) (number_tokens (codes "tokens") c.args.count)
    (end_object ∷ []) _ _ _ _ c.in_ok-begin_object.ensures.ok c.in_ok-put_text.ensures.tokens c.in_ok-put_number.ensures.tokens e)
    c.end_object.ensures.ok
