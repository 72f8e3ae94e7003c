use Rattle.std.proofs.Common.{◌≡◌, ◌-◌, ◌++◌, take, drop, length, replicate, pos, option_map}
use Rattle.csdf_graph.specs.Tree.{all_some}
use Rattle.csdf_graph.specs.Ranges.{signed_within}
use Rattle.csdf_graph.proofs.ranges.padded.Given as goal

abbrev pub invariant-loop-i : goal.invariant-loop-i
invariant-loop-i l = record {
  len : length l.weights ≡ 16;
  rest : drop l.i l.weights ≡ replicate (16 - l.i) (pos 0);
  so_far : option_map (λ zs. take l.i l.weights ++ zs) (all_some (signed_within 15) (drop l.i l.numbers)) ≡ all_some (signed_within 15) l.numbers;
}
