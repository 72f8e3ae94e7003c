use Rattle.csdf_run.proofs.Totalling.{added_none, added_next, added_all}
use Rattle.csdf_run.proofs.totals.add_report.Goals as goal

pub loop-channel-init : goal.loop-channel-init
loop-channel-init c = added_none c.args.totals.now c.args.report.now c.requires

pub loop-channel-preserved : goal.loop-channel-preserved
loop-channel-preserved c =
    added_next c.loop-channel.channel c.args.totals.now c.args.report.now c.loop-channel.totals _ _ _ c.loop-channel-test.true c.loop-channel.invariant
    c.added.ensures

pub returns : goal.returns
returns c =
    added_all c.loop-channel.channel c.args.totals.now c.args.report.now c.loop-channel.totals c.loop-channel-test.false c.loop-channel.invariant
