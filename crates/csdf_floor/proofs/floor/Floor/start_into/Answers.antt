use Rattle.std.proofs.lemmas.Grind.{common_steps}
use Rattle.std.proofs.Common.{rules, ◌≡◌, ◌≤◌, ℕ, List, get_or, None, ap, ap₂, sym, subst, ◌∙◌, arith}
use Rattle.csdf_floor.specs.Floor.{FloorView, IsBetween, start_refusal}
use Rattle.csdf_core.specs.Plan.{Plan}
use Rattle.csdf_core.specs.Rows.{need}
use Rattle.csdf_core.proofs.Booked.{can_begin}
use Rattle.csdf_floor.specs.Making.{amount_of}
use Rattle.csdf_floor.specs.Work.{Work, program}
use Rattle.csdf_floor.proofs.Floors.{MayStart, may_start, between_taken}
use Rattle.csdf_floor.proofs.floor.Floor.start_into.Goals as goal
use Rattle.csdf_floor.proofs.floor.Floor.start_into.Goals.{In_ok-make_room}

module _ (c : In_ok-make_room) where
  may : MayStart c.make_room.new.self.shown c.args.actor c.args.firing
  may =
      let none : start_refusal c.args.self.now c.args.actor c.args.firing ≡ None = sym c.start_refusal.ensures ∙ c.in_default.is in
      subst (λ (f : FloorView). MayStart f c.args.actor c.args.firing) (sym (c.in_ok-make_room.ensures.shown ∙ c.self.view_is))
      (may_start c.args.self.now c.args.actor c.args.firing none)

pub take-requires-clause-accepted : goal.take-requires-clause-accepted
take-requires-clause-accepted c = (may (goal.at.take-requires-clause-accepted c).In_ok-make_room).accepted

pub invariant_of-self-2 : goal.invariant_of-self-2
invariant_of-self-2 c =
    let at : goal.In_ok-make_room = (goal.at.invariant_of-self-2 c).In_ok-make_room in
    between_taken c.make_room.new.self c.take.new.self c.args.actor c.args.firing
    (subst (λ (f : FloorView). IsBetween f.core.plan f.core.now) (sym c.in_ok-make_room.ensures.shown) c.self.invariant) (may at) c.take.ensures.taken

pub returns-clause-ready : goal.returns-clause-ready
returns-clause-ready c = record {
  few_counts = c.in_ok-counts_into.ensures.few;
  small_counts = c.in_ok-counts_into.ensures.small;
  few_inputs = c.fill.ensures.few;
  filter_in_range = c.kernel.ensures.in_range;
}

pub returns-clause-firing : goal.returns-clause-firing
returns-clause-firing c = search rules

pub returns-clause-job : goal.returns-clause-job
returns-clause-job c = search rules

pub returns-in-Some-clause-job_stays : goal.returns-in-Some-clause-job_stays
returns-in-Some-clause-job_stays c = search rules

pub invariant_of-self : goal.invariant_of-self
invariant_of-self c = grind (arith, common_steps)

pub make_room-requires-clause-exists : goal.make_room-requires-clause-exists
make_room-requires-clause-exists c = grind (arith, common_steps)

pub returns-clause-job_stays : goal.returns-clause-job_stays
returns-clause-job_stays c = grind (arith, common_steps)

pub reserve_inputs-requires : goal.reserve_inputs-requires
reserve_inputs-requires c = grind (arith, common_steps)

pub returns-clause-answer : goal.returns-clause-answer
returns-clause-answer c = grind (arith, common_steps)

pub make_room-requires-clause-idle : goal.make_room-requires-clause-idle
make_room-requires-clause-idle c =
    let none : start_refusal c.args.self.now c.args.actor c.args.firing ≡ None = sym c.start_refusal.ensures ∙ c.in_default.is in
    let may : MayStart c.args.self.now c.args.actor c.args.firing = may_start c.args.self.now c.args.actor c.args.firing none in
    rw (← c.self.view_is) at (can_begin c.args.self.now.core.plan c.args.self.now.core.now c.args.actor may.accepted).idle

pub take-requires-clause-room : goal.take-requires-clause-room
take-requires-clause-room c = c.in_ok-make_room.ensures.room

pub fill-requires-clause-buffer : goal.fill-requires-clause-buffer
fill-requires-clause-buffer c =
    let taken = c.take.ensures.taken in
    taken.buffer ∙ c.in_ok-make_room.ensures.room.buffer
    ∙ ap₂ (λ (ns : List ℕ) (u : Plan). need c.args.actor (get_or ns c.args.actor 0) u.channels) (sym taken.counts) (sym taken.plan)

pub fill-requires-clause-room : goal.fill-requires-clause-room
fill-requires-clause-room c =
    let shown = c.make_room.ensures.shown in
    let work = c.take.ensures.taken.gone.work ∙ ap (λ (f : FloorView). f.work) shown in
    let counts = c.take.ensures.taken.counts ∙ ap (λ (f : FloorView). f.core.now.counts) shown in
    subst (λ (n : ℕ). n ≤ c.reserve_inputs.new.into.capacity)
    (sym (ap₂ (λ (w : Work) (ns : List ℕ). amount_of (program w) c.args.actor (get_or ns c.args.actor 0)) work counts)) c.in_ok-reserve_inputs.ensures.room

pub returns-clause-gone : goal.returns-clause-gone
returns-clause-gone c = rw (c.make_room.ensures.shown, c.self.view_is) at c.take.ensures.taken.gone
