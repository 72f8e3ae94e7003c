use Rattle.std.proofs.Common.{ℕ, ◌<◌, None}
use Rattle.std.specs.Prelude.{slice_index_or}
use Rattle.csdf_analysis.specs.Relief.{HasNoRelief}
use Rattle.csdf_analysis.proofs.calls.relief.first_relief.Given as goal

abbrev pub invariant-loop-wait : goal.invariant-loop-wait
invariant-loop-wait l = (a : ℕ) → a < l.wait-index → HasNoRelief l.graph.channels l.vector.q.items (slice_index_or l.waits a None)
