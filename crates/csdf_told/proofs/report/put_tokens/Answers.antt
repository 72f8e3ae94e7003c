use Rattle.std.proofs.Common.{codes}
use Rattle.std.proofs.lemmas.Result.{on_ok_weaker}
use Rattle.csdf_json.specs.Lines.{number_tokens}
use Rattle.csdf_told.proofs.ReportLemmas.{wrote_three}
use Rattle.csdf_told.proofs.report.put_tokens.Goals as goal

pub returns-clause-tokens : goal.returns-clause-tokens
returns-clause-tokens c =
    let r = c.args.report.now in
    on_ok_weaker c.put_number-3.result
    (λ e. wrote_three c.args.writer.now.tokens (number_tokens (codes "written") r.written) (number_tokens (codes "taken") r.taken)
    (number_tokens (codes "held") r.held) _ _ _ c.in_ok-put_number.ensures.tokens c.in_ok-put_number-2.ensures.tokens e)
    c.put_number-3.ensures.tokens
