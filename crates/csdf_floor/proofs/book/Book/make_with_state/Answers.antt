use Rattle.std.proofs.Common.{◌≡◌, ◌≤◌, ◌+◌, ◌*◌, ℕ, Bool, true, false, ap, subst, sym, ◌∙◌, arith}
use Rattle.std.specs.Prelude.{OnOk}
use Rattle.std.proofs.lemmas.Nat.{mul-le}
use Rattle.csdf_core.specs.Feedback.{IsFeedback}
use Rattle.csdf_core.specs.Plan.{Plan}
use Rattle.csdf_core.specs.Rows.{need}
use Rattle.csdf_core.specs.Step.{count}
use Rattle.csdf_floor.specs.Floor.{FloorView}
use Rattle.csdf_floor.specs.Making.{HasMade, made_moves}
use Rattle.csdf_floor.specs.Work.{program}
use Rattle.csdf_floor.proofs.Makings.{on_ok}
use Rattle.csdf_floor.proofs.LoopMakings.{needs_both}
use Rattle.csdf_floor.proofs.book.Book.make_with_state.Goals as goal

pub overflow_add-long-2 : goal.overflow_add-long-2
overflow_add-long-2 c =
    let k : ℕ = count c.self.inside.core.now c.args.actor in
    let told : IsFeedback (program c.self.inside.work).plan c.args.actor c.args.feedback =
    subst (λ (u : Plan). IsFeedback u c.args.actor c.args.feedback) c.self.invariant.kept.plan (rw (← c.self.view_is) at c.requires.feedback) in
    let needed = c.need.ensures.value ∙ ap (λ (u : Plan). need c.args.actor k u.channels) c.self.invariant.kept.plan
    ∙ needs_both (program c.self.inside.work) c.args.actor c.args.feedback told k in
    let few = c.need.ensures.small in
    let n = c.ranges.n.fits in
    let most = mul-le c.args.n c.args.feedback.each 4294967296 8192 (omega (arith, n)) (omega (arith, needed, few)) in
    omega (arith, most, needed, few)

pub own_values_into-requires-clause-can : goal.own_values_into-requires-clause-can
own_values_into-requires-clause-can c = rw c.make_room_for.ensures.shown c.requires.can

pub fire-requires-clause-exists : goal.fire-requires-clause-exists
fire-requires-clause-exists c = rw (c.own_values_into.ensures.shown, c.make_room_for.ensures.shown) c.requires.can.there

pub fire-requires-clause-can : goal.fire-requires-clause-can
fire-requires-clause-can c = rw (c.own_values_into.ensures.shown, c.make_room_for.ensures.shown) c.requires.fires

-- an actor that is no sink keeps nothing
not_sink : (b : Bool) → b ≡ false → b ≡ true → ⊥
not_sink b other is = absurd (let both : false ≡ true = sym other ∙ is in cc)

pub fire-requires-clause-sink : goal.fire-requires-clause-sink
fire-requires-clause-sink c =
    rw (c.own_values_into.ensures.shown, c.make_room_for.ensures.shown) (λ yes. absurd (not_sink _ c.requires.other yes))

pub fire-requires-clause-values : goal.fire-requires-clause-values
fire-requires-clause-values c =
    rw (c.own_values_into.ensures.shown, c.as_slice.ensures)
    (record { own = c.in_ok-own_values_into.ensures.values; kept = λ yes. absurd (not_sink _ (rw c.make_room_for.ensures.shown c.requires.other) yes) })

pub own_values_into-requires-clause-feedback : goal.own_values_into-requires-clause-feedback
own_values_into-requires-clause-feedback c = rw c.make_room_for.ensures.shown c.requires.feedback

pub own_values_into-requires-clause-buffer : goal.own_values_into-requires-clause-buffer
own_values_into-requires-clause-buffer c =
    rw (c.make_room_for.ensures.shown, ← c.self.view_is, ← c.need.ensures.value) c.in_ok-make_room_for.ensures.buffer

pub returns-clause-made : goal.returns-clause-made
returns-clause-made c =
    let same : c.own_values_into.new.self.shown ≡ c.args.self.now.shown =
    c.own_values_into.ensures.shown ∙ c.make_room_for.ensures.shown in
    subst (λ (f : FloorView). OnOk c.fire.result (HasMade f c.fire.new.self.shown c.args.actor c.args.n (made_moves f c.args.actor c.args.n))) same
    c.fire.ensures.made

pub make_room_for-requires-clause-idle : goal.make_room_for-requires-clause-idle
make_room_for-requires-clause-idle c = c.requires.can.idle

pub returns-clause-room : goal.returns-clause-room
returns-clause-room c = on_ok c.fire.result _ _
    (λ (e : c.own_values_into.new.self.room ≤ c.fire.new.self.room + 4 * c.args.n).
    omega (arith, e, c.own_values_into.ensures.room, c.in_ok-make_room_for.ensures.room)) c.fire.ensures.room
