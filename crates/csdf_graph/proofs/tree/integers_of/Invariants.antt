use Rattle.std.proofs.Common.{◌≡◌, ◌++◌, drop, option_map, map}
use Rattle.toml.specs.Data.{as_integer}
use Rattle.toml.specs.View.{view}
use Rattle.csdf_graph.specs.Tree.{all_some}
use Rattle.csdf_graph.proofs.tree.integers_of.Given as goal

abbrev pub invariant-loop-value : goal.invariant-loop-value
invariant-loop-value l = option_map (λ zs. l.integers.items ++ zs) (all_some as_integer (map view (drop l.value-index l.values)))
    ≡ all_some as_integer (map view l.values)
