use Rattle.std.proofs.Common.{Err, Ok, ap, subst}
use Rattle.csdf_floor.specs.Floor.{FloorView, IsStartAnswer, start_refusal}
use Rattle.csdf_crew.specs.Looking.{SharedView}
use Rattle.csdf_crew.specs.Workers.{Block}
use Rattle.csdf_crew.proofs.StartAnswers.{start_answer_as, start_answer_made}
use Rattle.csdf_crew.proofs.monitor.Shared.make.Goals as goal

pub returns-in-Err-clause-answer : goal.returns-in-Err-clause-answer
returns-in-Err-clause-answer g c =
    subst (λ (f : FloorView). IsStartAnswer {T = Block} (start_refusal f c.args.claim.actor c.args.claim.firing) (Err c.in-Err.fault))
    (ap (λ (s : SharedView). s.floor) c.self.view_is)
    (start_answer_as (start_refusal c.self.inside.floor c.args.claim.actor c.args.claim.firing) c.in-Err.fault c.in-Err.ensures.answer)

pub returns-in-Ok-clause-answer : goal.returns-in-Ok-clause-answer
returns-in-Ok-clause-answer g c =
    let block : Block = record { claim = c.args.claim; count = c.in-Ok.count } in
    subst (λ (f : FloorView). IsStartAnswer {T = Block} (start_refusal f c.args.claim.actor c.args.claim.firing) (Ok block))
    (ap (λ (s : SharedView). s.floor) c.self.view_is)
    (start_answer_made (start_refusal c.self.inside.floor c.args.claim.actor c.args.claim.firing) c.in-Ok.count block c.in-Ok.ensures.answer)
