use Rattle.std.proofs.Common.{map, take}
use Rattle.csdf_model.specs.Graph.{channel_view}
use Rattle.csdf_analysis.specs.Repetition.{HaveRoom}
use Rattle.csdf_analysis.proofs.calls.repetition.check_capacities.Given as goal

abbrev pub invariant-loop-place : goal.invariant-loop-place
invariant-loop-place l = HaveRoom l.q (take l.place (map channel_view l.channels))
