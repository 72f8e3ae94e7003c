use Rattle.std.proofs.Common.{Ok, ap, subst}
use Rattle.csdf_floor.specs.Floor.{FloorView, IsStartAnswer, start_refusal}
use Rattle.csdf_crew.specs.Looking.{SharedView}
use Rattle.csdf_crew.proofs.monitor.Shared.start.Goals as goal

pub returns-in-Ok-clause-answer : goal.returns-in-Ok-clause-answer
returns-in-Ok-clause-answer g c =
    subst (λ (f : FloorView). IsStartAnswer {T = Unit {0}} (start_refusal f c.args.claim.actor c.args.claim.firing) (Ok tt))
    (ap (λ (s : SharedView). s.floor) c.self.view_is) c.in-Ok.ensures.answer
