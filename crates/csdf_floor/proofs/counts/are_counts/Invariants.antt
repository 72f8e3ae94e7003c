use Rattle.std.proofs.Common.{◌≡◌, take, map}
use Rattle.csdf_core.specs.Ports.{give_at}
use Rattle.csdf_floor.proofs.counts.are_counts.Given as goal

abbrev pub invariant-loop-i : goal.invariant-loop-i
invariant-loop-i l = take l.i l.counts ≡ take l.i (map (give_at l.core.plan.channels l.turn.firing) l.outputs)
