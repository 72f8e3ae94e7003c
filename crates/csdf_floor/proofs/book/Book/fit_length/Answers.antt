use Rattle.std.proofs.lemmas.Grind.{common_steps}
use Rattle.std.proofs.Common.{◌<◌, length, sym, arith}
use Rattle.std.proofs.lemmas.List.{length-map}
use Rattle.csdf_floor.proofs.Books.{book_resized}
use Rattle.csdf_floor.proofs.Works.{buffer_fits}
use Rattle.csdf_floor.proofs.book.Book.fit_length.Goals as goal

pub invariant_of-self : goal.invariant_of-self
invariant_of-self c = book_resized _ c.self.inside.reads.items c.args.actor c.resize.new.self c.self.invariant (rw (← c.self.view_is) at c.requires.idle)

pub returns-clause-buffer : goal.returns-clause-buffer
returns-clause-buffer c =
    let lt : c.args.actor < length c.self.inside.reads.items =
    (let there = rw (← c.self.view_is) at c.requires.exists in
    omega (arith, there, c.self.invariant.each_actor, length-map c.self.inside.reads.items (λ v. v.items))) in
    buffer_fits c.resize.result c.self.inside.reads.items c.args.actor c.args.needed _
    c.resize.new.self lt c.resize.ensures.len (sym c.resize.new.self.ok.0)

pub returns-clause-shown : goal.returns-clause-shown
returns-clause-shown c = grind (arith, common_steps)

pub returns-clause-rooms : goal.returns-clause-rooms
returns-clause-rooms c = grind (arith, common_steps)

pub returns-clause-room : goal.returns-clause-room
returns-clause-room c = grind (arith, common_steps)

pub index_mut-requires : goal.index_mut-requires
index_mut-requires c = grind (arith, common_steps)
