use Rattle.std.proofs.Common.{◌≡◌, ℕ, ◌<◌, ◌≤◌, get_or}
use Rattle.csdf_claims.specs.declared.place.Entry.{Entry}
use Rattle.csdf_claims.specs.Face.{joined_entry}
use Rattle.csdf_claims.proofs.board.add_entries.Given as goal

abbrev pub invariant-loop-i : goal.invariant-loop-i
invariant-loop-i l =
    ((k : ℕ) (d : Entry) → k < l.i → get_or l.entries k d ≡ joined_entry (get_or l.initial.entries k d) (get_or l.others k d))
    × ((k : ℕ) (d : Entry) → l.i ≤ k → get_or l.entries k d ≡ get_or l.initial.entries k d)
