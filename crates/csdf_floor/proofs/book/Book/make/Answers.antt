use Rattle.std.proofs.Common.{◌≡◌, subst, ◌∙◌, arith}
use Rattle.std.proofs.lemmas.Grind.{common_steps}
use Rattle.csdf_floor.specs.Inside.{BookView}
use Rattle.csdf_floor.specs.Work.{program}
use Rattle.csdf_floor.proofs.Makings.{can_idle, kept_values}
use Rattle.csdf_floor.proofs.book.Book.make.Goals as goal

pub make_room_for-requires-clause-idle : goal.make_room_for-requires-clause-idle
make_room_for-requires-clause-idle c =
    can_idle c.args.self.now.shown.core.plan c.args.self.now.shown.core.now c.args.actor c.args.block.firings c.requires.some c.requires.block.can

pub peek-requires-clause-exists : goal.peek-requires-clause-exists
peek-requires-clause-exists c = rw c.in_ok-make_room_for.ensures.shown c.requires.exists

pub peek-requires-clause-can : goal.peek-requires-clause-can
peek-requires-clause-can c = rw c.in_ok-make_room_for.ensures.shown c.requires.block.can

pub peek-requires-clause-held : goal.peek-requires-clause-held
peek-requires-clause-held c = rw c.in_ok-make_room_for.ensures.shown c.requires.held

pub peek-requires-clause-buffer : goal.peek-requires-clause-buffer
peek-requires-clause-buffer c = grind (arith, common_steps, c.requires.block.needed)

pub block_values_into-requires-clause-exists : goal.block_values_into-requires-clause-exists
block_values_into-requires-clause-exists c = rw (c.peek.ensures.shown, c.in_ok-make_room_for.ensures.shown) c.requires.exists

pub block_values_into-requires-clause-can : goal.block_values_into-requires-clause-can
block_values_into-requires-clause-can c = rw (c.peek.ensures.shown, c.in_ok-make_room_for.ensures.shown) c.requires.block.can

pub block_values_into-requires-clause-given : goal.block_values_into-requires-clause-given
block_values_into-requires-clause-given c = rw (c.peek.ensures.shown, c.in_ok-make_room_for.ensures.shown) c.requires.block.given

pub block_values_into-requires-clause-buffer : goal.block_values_into-requires-clause-buffer
block_values_into-requires-clause-buffer c = grind (arith, common_steps, c.requires.block.needed)

pub fire-requires-clause-exists : goal.fire-requires-clause-exists
fire-requires-clause-exists c = rw (c.peek.ensures.shown, c.in_ok-make_room_for.ensures.shown) c.requires.exists

pub fire-requires-clause-can : goal.fire-requires-clause-can
fire-requires-clause-can c = rw (c.peek.ensures.shown, c.in_ok-make_room_for.ensures.shown) c.requires.block.can

pub fire-requires-clause-sink : goal.fire-requires-clause-sink
fire-requires-clause-sink c = grind (arith, common_steps, c.requires.block.needed)

pub fire-requires-clause-values : goal.fire-requires-clause-values
fire-requires-clause-values c =
    let plan : c.peek.new.self.shown.core.plan ≡ (program c.peek.new.self.shown.work).plan =
    subst (λ (b : BookView). b.shown.core.plan ≡ (program b.shown.work).plan) c.self.view_is c.self.invariant.kept.plan in
    kept_values c.peek.new.self.shown c.args.actor c.args.block.firings _ c.as_slice.result.now plan
    (rw (c.peek.ensures.shown, c.in_ok-make_room_for.ensures.shown)
    (c.peek.ensures.buffer ∙ c.in_ok-make_room_for.ensures.buffer ∙ c.requires.block.needed))
    (rw c.peek.ensures.shown c.peek.ensures.read) (c.as_slice.ensures ∙ c.in_ok-block_values_into.ensures)

pub returns-clause-made : goal.returns-clause-made
returns-clause-made c = rw (← c.in_ok-make_room_for.ensures.shown, ← c.peek.ensures.shown) c.fire.ensures.made
