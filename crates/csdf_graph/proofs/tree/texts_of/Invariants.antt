use Rattle.std.proofs.Common.{◌≡◌, ◌++◌, drop, option_map, map}
use Rattle.toml.specs.Data.{as_str}
use Rattle.toml.specs.View.{view}
use Rattle.csdf_graph.specs.Tree.{all_some}
use Rattle.csdf_graph.proofs.tree.texts_of.Given as goal

abbrev pub invariant-loop-value : goal.invariant-loop-value
invariant-loop-value l = option_map (λ ts. map (λ t. t.now) l.texts.items ++ ts) (all_some as_str (map view (drop l.value-index l.values)))
    ≡ all_some as_str (map view l.values)
