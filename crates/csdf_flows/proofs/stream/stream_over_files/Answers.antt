use Rattle.std.proofs.Common.{inr}
use Rattle.csdf_answers.proofs.ToldLemmas.{if_err_fault}
use Rattle.csdf_words.specs.CommandLine.{folders_view, stream_view}
use Rattle.csdf_flows.proofs.StreamLemmas.{stops_files, stops_writing}
use Rattle.csdf_flows.proofs.stream.stream_over_files.Goals as goal

pub returns-in_err-report-clause-stopped : goal.returns-in_err-report-clause-stopped
returns-in_err-report-clause-stopped g c =
    let fault = c.in_err-report.field-0.0 in
    if_err_fault _ fault _ c.from_residual-in_err-report.ensures.1
    (inr (inr (stops_files (stream_view c.args.order) (folders_view c.args.folders) _ _ _ _ _ c.in_ok-accepted.accepted c.in_ok-accepted.ensures.accepted fault
    c.in_err-report.ensures.stopped)))

pub returns-clause-stopped : goal.returns-clause-stopped
returns-clause-stopped g c =
    inr (inr (stops_writing (stream_view c.args.order) (folders_view c.args.folders) _ _ _ _ _ c.in_ok-accepted.accepted c.in_ok-accepted.ensures.accepted
    c.in_ok-report.report.items c.in_ok-report.ensures.flows c.in-Err.ensures.marked))
