use Rattle.std.proofs.Common.{◌≡◌, ℕ, ◌<◌, get_or}
use Rattle.csdf_claims.specs.declared.place.Entry.{Entry}
use Rattle.csdf_claims.proofs.board.write_totals.Given as goal

abbrev pub invariant-loop-i : goal.invariant-loop-i
invariant-loop-i l = (k : ℕ) (d : Entry) → k < l.i → get_or l.totals k 0 ≡ (get_or l.entries k d).finished
