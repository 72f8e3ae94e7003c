use Rattle.std.proofs.Common.{◌≡◌, ℕ, ◌+◌, ◌/◌, ◌<◌, get_or}
use Rattle.std.specs.Mem.Slots.{slots_items}
use Rattle.csdf_claims.specs.declared.place.Entry.{Entry}
use Rattle.csdf_claims.proofs.board.first_missing.Given as goal

abbrev pub invariant-loop-i : goal.invariant-loop-i
invariant-loop-i l = (k : ℕ) (d : Entry) → k < l.i → (get_or l.entries k d).finished ≡ get_or (slots_items l.closed.words) (k + 1) 0 / 2
