use Rattle.std.proofs.Common.{get_or, length, sym, arith}
use Rattle.csdf_core.proofs.CoreLemmas.{none_needed}
use Rattle.csdf_core.proofs.firing_core.Core.need.Goals as goal

pub returns-then-actor-actors-clause-value : goal.returns-then-actor-actors-clause-value
returns-then-actor-actors-clause-value c =
    rw (← c.self.view_is) (sym (none_needed (length c.self.inside.plan.sources) c.args.actor (get_or c.self.inside.nexts.counts.items c.args.actor 0)
    c.self.inside.plan.channels c.self.invariant.sound.playable.ends (omega arith)))
