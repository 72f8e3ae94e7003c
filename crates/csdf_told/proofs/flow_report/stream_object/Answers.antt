use Rattle.std.proofs.Common.{◌++◌, ap, ◌∙◌}
use Rattle.json.specs.Tree.{json_tokens}
use Rattle.csdf_told.specs.Reports.{stream_object}
use Rattle.csdf_told.proofs.ReportLemmas.{stream_shallow}
use Rattle.csdf_told.proofs.flow_report.stream_object.Goals as goal

pub returns : goal.returns
returns c =
    let value = stream_object c.args.graph.now c.args.totals.now c.args.end.now in
    c.line_of.ensures value (stream_shallow c.args.graph.now c.args.totals.now c.args.end.now)
    (c.in_ok-put_stream.ensures.tokens ∙ ap (λ ts. ts ++ json_tokens value) c.json_writer-writer.ensures.tokens)
