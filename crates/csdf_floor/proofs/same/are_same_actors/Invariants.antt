use Rattle.std.proofs.Common.{◌≡◌, map, take}
use Rattle.csdf_model.specs.Graph.{actor_view}
use Rattle.csdf_floor.proofs.same.are_same_actors.Given as goal

abbrev pub invariant-loop-i : goal.invariant-loop-i
invariant-loop-i l = take l.i (map actor_view l.fn.left) ≡ take l.i (map actor_view l.fn.right)
