use Rattle.std.proofs.Common.{◌≡◌, ◌+◌, ◌↔◌, ◌<◌, ℕ, get_or}
use Rattle.csdf_pool.proofs.rows.is_row.Given as goal

abbrev pub invariant-loop-i : goal.invariant-loop-i
invariant-loop-i l = (l.differ ≡ 0) ↔ ((k : ℕ) → k < l.i → get_or l.links (l.at + k) 0 ≡ l.at + k + 1)
