use Rattle.std.proofs.Common.{◌≡◌, map, take}
use Rattle.csdf_model.specs.Graph.{channel_view}
use Rattle.csdf_floor.proofs.same.are_same_channels.Given as goal

abbrev pub invariant-loop-i : goal.invariant-loop-i
invariant-loop-i l = take l.i (map channel_view l.fn.left) ≡ take l.i (map channel_view l.fn.right)
