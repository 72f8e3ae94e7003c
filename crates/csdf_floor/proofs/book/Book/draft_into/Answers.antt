use Rattle.std.proofs.Common.{refl}
use Rattle.csdf_floor.proofs.book.Book.draft_into.Goals as goal

pub draft_plain-requires-clause-held : goal.draft_plain-requires-clause-held
draft_plain-requires-clause-held c = rw (← c.self.view_is) (c.if-holds.ensures.holds.0 refl)
