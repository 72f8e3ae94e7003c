use Rattle.std.proofs.Common.{◌≡◌, ◌++◌, drop, option_map}
use Rattle.csdf_graph.specs.Tree.{all_some}
use Rattle.csdf_graph.specs.Ranges.{number_within}
use Rattle.csdf_graph.proofs.ranges.numbers_within.Given as goal

abbrev pub invariant-loop-number : goal.invariant-loop-number
invariant-loop-number l = option_map (λ ns. l.within.items ++ ns) (all_some (number_within l.low l.high) (drop l.number-index l.numbers))
    ≡ all_some (number_within l.low l.high) l.numbers
