use Rattle.std.proofs.Common.{map, ◌∙◌}
use Rattle.csdf_model.specs.Graph.{channel_view}
use Rattle.csdf_floor.specs.Report.{names_of}
use Rattle.csdf_told.proofs.ReportLemmas.{channel_next}
use Rattle.csdf_told.proofs.report.put_channels.Goals as goal

pub loop-number-preserved : goal.loop-number-preserved
loop-number-preserved c = (
  channel_next (names_of (map channel_view c.args.channels.now)) c.args.reports.now c.loop-number.number _ _ _ _ _ c.loop-number-test.true
      c.channel_name.ensures c.in_ok-put_channel.ensures.tokens c.loop-number.invariant.0,
  c.in_ok-put_channel.ensures.before ∙ c.loop-number.invariant.1,
)
