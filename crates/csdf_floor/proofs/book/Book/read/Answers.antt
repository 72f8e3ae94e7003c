use Rattle.std.proofs.lemmas.Grind.{common_steps}
use Rattle.std.specs.Global.{Vec}
use Rattle.std.specs.Prelude.{ℤ, Ok}
use Rattle.std.specs.Vec.{with_items}
use Rattle.std.proofs.Common.{◌≡◌, ◌<◌, ◌++◌, List, [], length, get_or, set, cond, ap, subst, sym, ◌∙◌, arith, Bool}
use Rattle.std.proofs.lemmas.List.{length-map, with_items_is}
use Rattle.csdf_core.specs.Shows.{Follows}
use Rattle.csdf_core.specs.Moves.{Read}
use Rattle.csdf_floor.proofs.Books.{book_fetch, fetch_length, fetch_tokens, next_is, sinks_each, sinks_after, read_there}
use Rattle.csdf_floor.proofs.book.Book.read.Goals as goal
use Rattle.csdf_floor.proofs.book.Book.read.Goals.{After-append_where}

pub append_where-requires-clause-exists : goal.append_where-requires-clause-exists
append_where-requires-clause-exists c = omega (
  arith,
  sinks_each _ _ _ _ _ c.self.invariant,
  read_there c.self.inside.core.plan c.self.inside.core.now c.args.actor (rw (← c.self.view_is) at c.requires.accepted),
)

-- what the buffer holds, and what the sinks took
module _ (c : After-append_where) where
  abbrev buffer : Vec ℤ
  buffer = with_items c.index_mut-buffer.result.now c.read_tested.new.into

  items : buffer.items ≡ c.read_tested.new.into
  items = with_items_is c.index_mut-buffer.result.now c.read_tested.new.into
      (omega (arith, c.read_tested.ensures.whole, ap length c.deref_mut.ensures.value, c.deref_mut.ensures.len))

  step : Follows c.self.inside.core c.read_tested.new.self (Read c.args.actor) (Ok buffer.items)
  step = subst (λ (ts : List ℤ). Follows c.self.inside.core c.read_tested.new.self (Read c.args.actor) (Ok ts)) (sym items) c.read_tested.ensures.step

  took : c.append_where.new.self.lists ≡ sinks_after c.self.inside.work c.self.inside.sinks.lists c.args.actor buffer.items
  took =
      c.append_where.ensures
      ∙ ap (λ (b : Bool). cond b (set c.self.inside.sinks.lists c.args.actor (get_or c.self.inside.sinks.lists c.args.actor [] ++ c.deref.result.now))
      c.self.inside.sinks.lists) c.is_sink-is_sink.ensures
      ∙ ap (sinks_after c.self.inside.work c.self.inside.sinks.lists c.args.actor) c.deref.ensures.value

pub invariant_of-self : goal.invariant_of-self
invariant_of-self c =
    let at : After-append_where = (goal.at.invariant_of-self c).After-append_where in
    book_fetch c.self.inside.work c.self.inside.core c.read_tested.new.self c.self.inside.journal.moves c.note_read.new.self.moves c.self.inside.sinks.lists
    c.append_where.new.self.lists c.self.inside.reads.items (buffer at) c.args.actor
    (rw (← c.self.view_is) at c.requires.accepted) c.self.invariant (step at) c.note_read.ensures.moves (took at)

pub returns : goal.returns
returns c =
    let at : After-append_where = (goal.at.returns c).After-append_where in
    let there = read_there c.self.inside.core.plan c.self.inside.core.now c.args.actor (rw (← c.self.view_is) at c.requires.accepted) in
    let lt : c.args.actor < length c.self.inside.reads.items =
    omega (arith, there, c.self.invariant.each_actor, length-map c.self.inside.reads.items (λ v. v.items)) in
    let whole : length (buffer at).items ≡ length c.index_mut-buffer.result.now.items =
    omega (arith, ap length (items at), c.read_tested.ensures.whole, ap length c.deref_mut.ensures.value) in
    record {
      next = rw (← c.self.view_is) (next_is _ _ _ c.self.inside.journal c.note_read.new.self (Read c.args.actor) _ _ _ _ _ c.self.invariant
          (step at) c.note_read.ensures.moves c.note_read.ensures.room c.note_read.ensures.keeps);
      width = rw (← c.self.view_is) c.note_read.ensures.width;
      buffer = rw (← c.self.view_is) (fetch_length c.self.inside.reads.items c.index_mut-buffer.result.now (buffer at) c.args.actor lt
          c.index_mut-buffer.ensures.value whole);
      tokens = fetch_tokens c.self.inside.work c.self.inside.core c.read_tested.new.self c.self.inside.journal.moves c.note_read.new.self.moves
          c.self.inside.sinks.lists c.append_where.new.self.lists c.self.inside.reads.items (buffer at) c.args.actor
          (rw (← c.self.view_is) at c.requires.accepted) c.self.invariant (step at) c.note_read.ensures.moves (took at);
    }

pub index_mut-buffer-requires : goal.index_mut-buffer-requires
index_mut-buffer-requires c = grind (arith, common_steps)

pub read_tested-requires-clause-accepted : goal.read_tested-requires-clause-accepted
read_tested-requires-clause-accepted c = grind (arith, common_steps)

pub read_tested-requires-clause-whole : goal.read_tested-requires-clause-whole
read_tested-requires-clause-whole c = grind (arith, common_steps)

pub is_sink-is_sink-requires : goal.is_sink-is_sink-requires
is_sink-is_sink-requires c = grind (arith, common_steps)

pub append_where-requires-clause-room : goal.append_where-requires-clause-room
append_where-requires-clause-room c = grind (arith, common_steps)

pub note_read-requires : goal.note_read-requires
note_read-requires c = grind (arith, common_steps)
