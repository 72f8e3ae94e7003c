use Rattle.std.proofs.Common.{codes}
use Rattle.std.proofs.lemmas.Result.{on_ok_weaker}
use Rattle.csdf_json.specs.Lines.{flag_tokens, number_tokens}
use Rattle.csdf_told.proofs.ReportLemmas.{wrote_three}
use Rattle.csdf_told.proofs.flow_report.put_room.Goals as goal

pub returns-clause-tokens : goal.returns-clause-tokens
returns-clause-tokens c =
    let r = c.args.report.now in
    let t = c.args.total.now in
    on_ok_weaker c.put_flag.result
    (λ e. wrote_three c.args.writer.now.tokens (number_tokens (codes "peak") t.peak) (number_tokens (codes "capacity") r.capacity)
    (flag_tokens (codes "open") r.is_open) _ _ _ c.in_ok-put_number.ensures.tokens c.in_ok-put_number-2.ensures.tokens e)
    c.put_flag.ensures.tokens
