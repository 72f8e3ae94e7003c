use Rattle.std.proofs.Common.{arith}
use Rattle.csdf_core.proofs.PhaseLemmas.{phases_finished}
use Rattle.csdf_core.proofs.nexts.Nexts.advance.Goals as goal

pub returns-clause-phases : goal.returns-clause-phases
returns-clause-phases c =
    phases_finished c.args.plan.now c.args.self.now.counts.items c.args.self.now.phases.items c.args.actor c.turn_ahead-next.result.firing
    c.turn_ahead-next.result.phase c.requires.phases c.requires.actor (let e = c.requires.counted in omega (arith, e, c.requires.actor))
    c.turn_ahead-next.ensures.in_phase c.turn_ahead-next.ensures.low
