use Rattle.std.proofs.Common.{◌+◌, subst, sym}
use Rattle.csdf_core.specs.Phases.{IsInPhase}
use Rattle.csdf_core.proofs.PhaseLemmas.{turned_last, turned_other}
use Rattle.csdf_core.proofs.turn.turn_after.Goals as goal
use Rattle.csdf_core.proofs.turn.turn_after.Goals.{then-next-phases, else-next-phases}

pub returns-clause-in_phase : goal.returns-clause-in_phase
returns-clause-in_phase c = elim c.if-next-phases.branch [
  | then-next-phases w ↦ subst (λ n. IsInPhase c.args.plan.now.channels c.args.actor (c.args.turn.firing + 1) n) (sym w.phase-is)
      (turned_last c.args.plan.now.channels c.args.actor c.args.turn.firing c.args.turn.phase c.phases-phases.result c.requires.in_phase
      c.phases-phases.ensures.phases w.if-next-phases.true)
  | else-next-phases w ↦ subst (λ n. IsInPhase c.args.plan.now.channels c.args.actor (c.args.turn.firing + 1) n) (sym w.phase-is)
      (turned_other c.args.plan.now.channels c.args.actor c.args.turn.firing c.args.turn.phase c.phases-phases.result c.requires.in_phase
      c.phases-phases.ensures.phases w.if-next-phases.false)
]
