use Rattle.std.proofs.lemmas.Grind.{common_steps}
use Rattle.std.proofs.Common.{◌<◌, length, arith}
use Rattle.csdf_core.proofs.CoreLemmas.{producer_within}
use Rattle.csdf_core.proofs.firing_core.Core.close_refusal.Goals as goal

pub stage-requires : goal.stage-requires
stage-requires c =
    let there : c.args.channel < length c.self.inside.plan.channels = omega (arith, c.self.inside.opens.ok.0, c.self.invariant.sound.fit.opened) in
    let within = producer_within (length c.self.inside.plan.sources) c.self.inside.plan.channels c.args.channel
    c.self.invariant.sound.playable.ends there in
    rw (← c.self.view_is) (omega (arith, within, c.producer-producer.ensures))

pub returns : goal.returns
returns c = grind (arith, common_steps)
