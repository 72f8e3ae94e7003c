use Rattle.std.proofs.Common.{length, arith}
use Rattle.csdf_core.proofs.CoreLemmas.{consumer_within}
use Rattle.csdf_core.proofs.firing_core.Core.consumer.Goals as goal

pub returns-clause-within : goal.returns-clause-within
returns-clause-within c =
    rw (← c.self.view_is) (let within = consumer_within (length c.self.inside.plan.sources) c.self.inside.plan.channels c.args.channel
    c.self.invariant.sound.playable.ends (rw (← c.self.view_is) at c.requires) in omega (arith, within, c.consumer.ensures))
