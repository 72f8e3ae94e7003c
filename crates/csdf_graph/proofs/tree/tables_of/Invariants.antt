use Rattle.std.proofs.Common.{◌≡◌, ◌++◌, drop, option_map, map}
use Rattle.toml.specs.Data.{as_table}
use Rattle.toml.specs.View.{view, table_view}
use Rattle.csdf_graph.specs.Tree.{all_some}
use Rattle.csdf_graph.proofs.tree.tables_of.Given as goal

abbrev pub invariant-loop-value : goal.invariant-loop-value
invariant-loop-value l = option_map (λ ts. map (λ t. table_view t.now) l.tables.items ++ ts) (all_some as_table (map view (drop l.value-index l.values)))
    ≡ all_some as_table (map view l.values)
