use Rattle.std.proofs.Common.{List, ◌++◌, map, ap, ◌∙◌}
use Rattle.json.specs.Tree.{json_tokens}
use Rattle.csdf_model.specs.Graph.{Channel, channel_view}
use Rattle.csdf_floor.specs.Report.{names_of}
use Rattle.csdf_told.specs.Reports.{report_object}
use Rattle.csdf_told.proofs.ReportLemmas.{report_shallow}
use Rattle.csdf_told.proofs.report.report_object.Goals as goal

pub returns : goal.returns
returns c =
    let names = names_of c.args.graph.now.channels in
    let value = report_object names c.args.ending c.args.reports.now in
    let seen = ap (λ (cs : List Channel). json_tokens (report_object (names_of cs) c.args.ending c.args.reports.now)) c.channels.ensures.value in
    c.line_of.ensures value (report_shallow names c.args.ending c.args.reports.now)
    (c.in_ok-put_report.ensures.tokens ∙ ap (λ ts. ts ++ json_tokens (report_object (names_of (map channel_view c.channels.result.now)) c.args.ending c.args.reports.now)) c.json_writer-writer.ensures.tokens ∙ seen)
