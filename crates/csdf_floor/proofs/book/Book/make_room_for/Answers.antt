use Rattle.std.proofs.Common.{◌≡◌, ◌≤◌, ◌+◌, ◌*◌, ℕ, OnOk, length, ◌∙◌, arith, subst}
use Rattle.std.proofs.lemmas.Result.{on_ok_weaker}
use Rattle.csdf_core.specs.Ports.{outputs_at}
use Rattle.csdf_core.specs.Rows.{gift}
use Rattle.csdf_core.specs.Step.{count}
use Rattle.csdf_floor.proofs.book.Book.make_room_for.Goals as goal

pub overflow_mul-n : goal.overflow_mul-n
overflow_mul-n c = omega (arith, c.ranges.n.fits)

pub overflow_add-n : goal.overflow_add-n
overflow_add-n c = omega (arith, c.ranges.n.fits, c.output_count-closes.ensures.few)

pub returns-clause-shown : goal.returns-clause-shown
returns-clause-shown c = c.reserve.ensures.shown ∙ c.reserve_copy.ensures.shown ∙ c.reserve_taken.ensures.shown ∙ c.fit_length.ensures.shown

pub returns-clause-buffer : goal.returns-clause-buffer
returns-clause-buffer c = on_ok_weaker c.reserve.result
    (λ _. rw (c.reserve.ensures.reads, c.reserve_copy.ensures.reads, c.reserve_taken.ensures.reads) c.in_ok-fit_length.ensures.buffer)
    c.reserve.ensures.room

pub returns-clause-sink : goal.returns-clause-sink
returns-clause-sink c = on_ok_weaker c.reserve.result
    (λ _. rw (c.reserve.ensures.rooms, c.reserve_copy.ensures.rooms, ← c.fit_length.ensures.shown) c.in_ok-reserve_taken.ensures.sink)
    c.reserve.ensures.room

pub returns-clause-width : goal.returns-clause-width
returns-clause-width c =
    let each : c.gives-each.result ≡ gift c.args.actor (count c.args.self.now.shown.core.now c.args.actor) c.args.self.now.shown.core.plan.channels =
    rw (← c.fit_length.ensures.shown, ← c.reserve_taken.ensures.shown, ← c.self.view_is) c.gives-each.ensures.sum in
    on_ok_weaker c.reserve.result (λ _. rw (c.reserve.ensures.width, ← each) c.in_ok-reserve_copy.ensures.width) c.reserve.ensures.room

pub returns-clause-room : goal.returns-clause-room
returns-clause-room c =
    let closes : c.output_count-closes.result ≡ length (outputs_at c.args.self.now.shown.core.plan.channels c.args.actor) =
    rw (← c.fit_length.ensures.shown, ← c.reserve_taken.ensures.shown) c.output_count-closes.ensures.value in
    subst (λ (n : ℕ). OnOk c.reserve.result (4 * c.args.n + n ≤ c.reserve.new.self.room)) closes c.reserve.ensures.room

pub returns-clause-greater : goal.returns-clause-greater
returns-clause-greater c =
    omega (arith, c.fit_length.ensures.room, c.reserve_taken.ensures.room, c.reserve_copy.ensures.room, c.reserve.ensures.greater)

pub output_count-closes-requires : goal.output_count-closes-requires
output_count-closes-requires c = rw (c.reserve_taken.ensures.shown, c.fit_length.ensures.shown) c.requires.exists
