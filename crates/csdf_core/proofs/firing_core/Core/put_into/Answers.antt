use Rattle.std.proofs.Common.{ap, ◌∙◌}
use Rattle.csdf_core.specs.declared.side.Side.TheVariants.{Output}
use Rattle.csdf_core.specs.Step.{count}
use Rattle.csdf_core.proofs.SideLemmas.{total_is}
use Rattle.csdf_core.proofs.firing_core.Core.put_into.Goals as goal

pub returns : goal.returns
returns c =
    let fired = c.fired-fired.ensures.value ∙ ap (count c.args.self.now.now) c.producer.ensures.value in
    let told = c.given.ensures.value ∙ total_is Output c.self.inside.plan.channels c.fired-fired.result c.args.channel (rw (← c.self.view_is) at c.requires) in
    rw (← fired) (rw (← c.self.view_is) told)
