use Rattle.std.proofs.Common.{List, ap, sym, subst, ◌∙◌}
use Rattle.csdf_core.specs.Moves.{Move}
use Rattle.csdf_floor.specs.Inside.{IsBook}
use Rattle.csdf_floor.specs.Work.{Work, feeds_in, program}
use Rattle.csdf_floor.proofs.Books.{book_opened, floor_of}
use Rattle.csdf_floor.proofs.book.Book.open.Goals as goal

pub invariant_of-result : goal.invariant_of-result
invariant_of-result c =
    let w : Work = c.new.result in
    let b = c.requires.blank in
    subst (λ (ms : List Move). IsBook (floor_of c.args.blank.journal.keeps w c.args.blank.core ms c.args.blank.sinks.lists) (feeds_in c.args.blank.reads.items))
    (sym b.journal)
    (book_opened w c.args.blank.core c.args.blank.sinks.lists (feeds_in c.args.blank.reads.items) c.new.ensures.work
    (b.plan ∙ sym (ap (λ (x : Work). (program x).plan) c.new.ensures.value)) b.shows b.peaks b.sinks b.reads)

pub returns-clause-opening : goal.returns-clause-opening
returns-clause-opening c = c.requires.blank.shows.same
