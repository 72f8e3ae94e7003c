use Rattle.std.proofs.Common.{◌≤◌, ◌-◌}
use Rattle.csdf_pool.specs.Rows.{IsRow}
use Rattle.csdf_pool.proofs.rows.row_length.Given as goal

abbrev pub invariant-loop-length : goal.invariant-loop-length
invariant-loop-length l = record { reached : l.length ≤ l.most; row : IsRow l.links l.at l.length }

abbrev pub decreases-loop-length : goal.decreases-loop-length
decreases-loop-length l = l.most - l.length
