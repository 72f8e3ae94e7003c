use Rattle.std.proofs.lemmas.Grind.{common_steps}
use Rattle.std.proofs.Common.{◌≡◌, ◌<◌, List, [], length, set, get_or, ap, sym, subst, ◌∙◌, arith}
use Rattle.std.specs.Prelude.{ℤ}
use Rattle.std.specs.Vec.{with_items}
use Rattle.std.proofs.lemmas.List.{with_items_is, length-map, length-set, get_or-set_same}
use Rattle.csdf_core.specs.Blocks.{AreReadEach}
use Rattle.csdf_core.specs.Step.{count}
use Rattle.csdf_floor.specs.Work.{feeds_in}
use Rattle.csdf_floor.proofs.Books.{book_resized, fetch_length}
use Rattle.csdf_floor.proofs.Makings.{can_idle}
use Rattle.csdf_floor.proofs.Works.{item_at}
use Rattle.csdf_floor.proofs.book.Book.peek.Goals as goal
use Rattle.csdf_floor.proofs.book.Book.peek.Goals.{After-peek}

pub invariant_of-self : goal.invariant_of-self
invariant_of-self c = book_resized _ c.self.inside.reads.items c.args.actor _ c.self.invariant
    (can_idle c.self.inside.core.plan c.self.inside.core.now c.args.actor c.args.n c.requires.some (rw (← c.self.view_is) at c.requires.can))

module _ (c : After-peek) where
  within : c.args.actor < length c.self.inside.reads.items
  within =
      let there : c.args.actor < length c.self.inside.core.plan.sources = rw (← c.self.view_is) at c.requires.exists in
      omega (arith, there, c.self.invariant.each_actor, length-map c.self.inside.reads.items (λ v. v.items))

  items : (with_items c.index_mut-buffer.result.now c.peek.new.into).items ≡ c.peek.new.into
  items = with_items_is c.index_mut-buffer.result.now c.peek.new.into (c.peek.auto.into ∙ c.as_mut_slice.ensures.len)

pub returns-clause-buffer : goal.returns-clause-buffer
returns-clause-buffer c =
    let at : After-peek = (goal.at.returns-clause-buffer c).After-peek in
    rw (← c.self.view_is) (fetch_length c.self.inside.reads.items c.index_mut-buffer.result.now (with_items c.index_mut-buffer.result.now c.peek.new.into)
    c.args.actor (within at) c.index_mut-buffer.ensures.value (ap length (items at) ∙ c.peek.auto.into ∙ ap length c.as_mut_slice.ensures.value))

pub returns-clause-read : goal.returns-clause-read
returns-clause-read c =
    let at : After-peek = (goal.at.returns-clause-read c).After-peek in
    let lists = set c.self.inside.reads.items c.args.actor (with_items c.index_mut-buffer.result.now c.peek.new.into) in
    let long = length-set c.self.inside.reads.items c.args.actor (with_items c.index_mut-buffer.result.now c.peek.new.into) in
    let low = within at in
    let held : c.peek.new.into ≡ get_or (feeds_in lists) c.args.actor [] = sym (items at)
    ∙ item_at lists c.args.actor (with_items c.index_mut-buffer.result.now c.peek.new.into) (omega (arith, long, low))
    (sym (get_or-set_same c.self.inside.reads.items c.args.actor (with_items c.index_mut-buffer.result.now c.peek.new.into)
    (with_items c.index_mut-buffer.result.now c.peek.new.into) low)) in
    rw (← c.self.view_is) (subst (λ (ts : List ℤ). AreReadEach c.self.inside.core.plan c.self.inside.core.now c.args.actor
    (count c.self.inside.core.now c.args.actor) c.args.n ts) held (c.peek.ensures.each (rw (← c.self.view_is) at c.requires.held)))

pub peek-requires-clause-all : goal.peek-requires-clause-all
peek-requires-clause-all c = grind (arith, common_steps)

pub peek-requires-clause-can : goal.peek-requires-clause-can
peek-requires-clause-can c = grind (arith, common_steps)

pub index_mut-buffer-requires : goal.index_mut-buffer-requires
index_mut-buffer-requires c = grind (arith, common_steps)

pub returns-clause-shown : goal.returns-clause-shown
returns-clause-shown c = grind (arith, common_steps)
