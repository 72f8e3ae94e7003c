use Rattle.std.proofs.lemmas.Grind.{common_steps}
use Rattle.std.proofs.Common.{◌≡◌, List, get_or, None, ap, ◌∙◌, arith, rules}
use Rattle.std.specs.Prelude.{option_map}
use Rattle.csdf_core.specs.Moves.{Begin}
use Rattle.csdf_core.specs.Step.{refusal}
use Rattle.csdf_floor.specs.declared.fault.StartFault.TheVariants.{Refused}
use Rattle.csdf_core.proofs.Booked.{can_begin}
use Rattle.csdf_floor.specs.Floor.{start_refusal}
use Rattle.csdf_core.specs.declared.stage.Stage.{Stage}
use Rattle.csdf_core.specs.declared.stage.Stage.TheVariants.{Idle}
use Rattle.csdf_core.proofs.Runs.{on_err}
use Rattle.csdf_floor.proofs.Floors.{MayStart, accepted_of, may_start}
use Rattle.csdf_floor.proofs.MadeFloors.{between_made, not_over}
use Rattle.csdf_floor.proofs.floor.Floor.make_with.Goals as goal

pub invariant_of-self-2 : goal.invariant_of-self-2
invariant_of-self-2 c =
    let accepted : refusal c.self.inside.book.shown.core.plan c.self.inside.book.shown.core.now (Begin c.args.actor) ≡ None =
    accepted_of _ c.in_ok-n.n c.in_ok-n.ensures.answer in
    let none : start_refusal c.self.inside.book.shown c.args.actor c.args.firing ≡ None =
    (rw (← c.self.view_is) at (c.place_fault.ensures.none c.in_default.is)) ∙ ap (option_map Refused) accepted in
    let may : MayStart c.self.inside.book.shown c.args.actor c.args.firing = may_start c.self.inside.book.shown c.args.actor c.args.firing none in
    let can = can_begin c.self.inside.book.shown.core.plan c.self.inside.book.shown.core.now c.args.actor may.accepted in
    between_made c.self.inside.book.shown c.make_many_from.new.self.shown c.close_outputs.new.self.shown c.args.actor c.in_ok-n.n _
    c.self.invariant can.idle (not_over c.self.inside.book.shown.core.plan c.self.inside.book.shown.core.now c.args.actor may.accepted)
    c.in_ok-n.ensures.made c.close_outputs.ensures.closed

pub returns-clause-gone : goal.returns-clause-gone
returns-clause-gone c = grind (arith, common_steps)

pub invariant_of-self : goal.invariant_of-self
invariant_of-self c = grind (arith, common_steps)

pub close_outputs-requires-clause-exists : goal.close_outputs-requires-clause-exists
close_outputs-requires-clause-exists c = grind (arith, common_steps)

pub returns-clause-none : goal.returns-clause-none
returns-clause-none c = grind (arith, common_steps)

pub close_outputs-requires-clause-room : goal.close_outputs-requires-clause-room
close_outputs-requires-clause-room c = grind (arith, common_steps)

pub make_many_from-requires-clause-exists : goal.make_many_from-requires-clause-exists
make_many_from-requires-clause-exists c = grind (arith, common_steps)

pub returns-clause-answer : goal.returns-clause-answer
returns-clause-answer c = grind (arith, common_steps)

pub returns-in_err-n-clause-unchanged : goal.returns-in_err-n-clause-unchanged
returns-in_err-n-clause-unchanged c = on_err _ _ (c.in_err-n.ensures.unchanged ∙ c.self.view_is)

pub close_outputs-requires-clause-idle : goal.close_outputs-requires-clause-idle
close_outputs-requires-clause-idle c =
    let accepted : refusal c.self.inside.book.shown.core.plan c.self.inside.book.shown.core.now (Begin c.args.actor) ≡ None =
    accepted_of _ c.in_ok-n.n c.in_ok-n.ensures.answer in
    ap (λ (ss : List Stage). get_or ss c.args.actor Idle) c.in_ok-n.ensures.made.stages
    ∙ (can_begin c.self.inside.book.shown.core.plan c.self.inside.book.shown.core.now c.args.actor accepted).idle

pub returns-then-most-eq0-clause-answer : goal.returns-then-most-eq0-clause-answer
returns-then-most-eq0-clause-answer c = search rules
