use Rattle.std.proofs.Common.{◌≡◌, ◌++◌, drop, option_map}
use Rattle.csdf_graph.specs.Tree.{all_some}
use Rattle.csdf_graph.specs.Ranges.{signed_within}
use Rattle.csdf_graph.proofs.ranges.tokens_of.Given as goal

abbrev pub invariant-loop-number : goal.invariant-loop-number
invariant-loop-number l = option_map (λ ns. l.tokens.items ++ ns) (all_some (signed_within 31) (drop l.number-index l.numbers))
    ≡ all_some (signed_within 31) l.numbers
