use Rattle.std.proofs.Common.{arith, length, map}
use Rattle.std.proofs.lemmas.List.{length-map}
use Rattle.csdf_answers.proofs.ToldLemmas.{if_err_fault}
use Rattle.csdf_words.specs.CommandLine.{stream_view}
use Rattle.csdf_flows.specs.Flows.{flow_file_view}
use Rattle.csdf_flows.proofs.StreamLemmas.{given_up, not_kept}
use Rattle.csdf_flows.proofs.stream.flow_made.Goals as goal

pub returns-in_err-keep_all-in-Ok-clause-stopped : goal.returns-in_err-keep_all-in-Ok-clause-stopped
returns-in_err-keep_all-in-Ok-clause-stopped g c =
    let fault = c.in_err-keep_all-in-Ok.field-0.0 in
    if_err_fault _ fault _ c.from_residual.ensures.1
    (not_kept (stream_view c.args.order) c.args.accepted (map flow_file_view c.args.files.now) _ _ fault _ c.in-Ok.report.items c.in-Ok.ensures.flows
    c.in_err-keep_all-in-Ok.ensures.unkept)

pub returns-in-Err-clause-stopped : goal.returns-in-Err-clause-stopped
returns-in-Err-clause-stopped g c =
    let files = map flow_file_view c.args.files.now in
    given_up (stream_view c.args.order) c.args.accepted files _ _ (length c.flow_over.new.outlets) c.in-Err.fault _ _ _
    (omega (arith, length-map c.args.files.now flow_file_view, c.requires.files, c.flow_over.auto.outlets))
    c.in-Err.ensures.stopped c.give_up.ensures
