use Rattle.std.proofs.Common.{◌∙◌, sym}
use Rattle.csdf_model.specs.Graph.{phases_of}
use Rattle.csdf_analysis.proofs.FiringLemmas.{phase_last, phase_next}
use Rattle.csdf_analysis.proofs.net.Net.phase_after.Goals as goal

pub returns-then-next-phases : goal.returns-then-next-phases
returns-then-next-phases c = phase_last c.args.phase (phases_of c.args.self.now.actors c.args.actor) (c.if-next-phases.true ∙ c.phases-phases.ensures)

pub returns-else-next-phases : goal.returns-else-next-phases
returns-else-next-phases c = phase_next c.args.phase (phases_of c.args.self.now.actors c.args.actor) c.requires.phase
    (λ e. c.if-next-phases.false (e ∙ sym c.phases-phases.ensures))
