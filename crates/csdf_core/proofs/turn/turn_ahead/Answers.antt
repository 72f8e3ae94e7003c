use Rattle.std.proofs.Common.{◌+◌, ℕ, subst, sym}
use Rattle.csdf_core.specs.Phases.{IsInPhase}
use Rattle.csdf_core.proofs.PhaseLemmas.{turned_by}
use Rattle.csdf_core.proofs.turn.turn_ahead.Goals as goal

pub returns-clause-in_phase : goal.returns-clause-in_phase
returns-clause-in_phase c =
    subst (λ (p : ℕ). IsInPhase c.args.plan.now.channels c.args.actor (c.args.turn.firing + c.args.n) p) (sym c.remainder.ensures)
    (turned_by c.args.plan.now.channels c.args.actor c.args.turn.firing c.args.turn.phase c.args.n c.phases-phases.result c.requires.in_phase
    c.phases-phases.ensures.phases)
