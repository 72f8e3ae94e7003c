use Rattle.std.proofs.Common.{◌*◌, ℕ, ap, sym, ◌∙◌}
use Rattle.csdf_core.specs.Phases.{HasPhases}
use Rattle.csdf_core.specs.Step.{count}
use Rattle.csdf_core.proofs.OnePhase.{needs_times}
use Rattle.csdf_floor.proofs.book.Book.needed.Goals as goal

pub returns-clause-all : goal.returns-clause-all
returns-clause-all c =
    let has : HasPhases c.self.inside.core.plan.channels c.args.actor 1 = rw (← c.self.view_is) at c.requires.phases in
    rw (← c.self.view_is) (ap (λ (x : ℕ). c.args.n * x) c.need.ensures.value
    ∙ sym (needs_times c.self.inside.core.plan.channels c.args.actor has (count c.self.inside.core.now c.args.actor) c.args.n))
