use Rattle.std.proofs.Common.{map, option_map, sym, ap, ◌∙◌}
use Rattle.std.proofs.lemmas.List.{map_push}
use Rattle.toml.specs.Data.{as_table}
use Rattle.toml.specs.View.{view, table_view}
use Rattle.csdf_graph.proofs.TreeLemmas.{left_more, left_none, all_some-goes_on, all_some-stops, all_some-ends}
use Rattle.csdf_graph.proofs.tree.tables_of.Goals as goal

pub returns-in-None : goal.returns-in-None
returns-in-None c =
    sym (all_some-stops as_table _ _ _ c.loop-value.invariant (view c.value-item.result) _
    (left_more view c.args.values.now c.loop-value.value-index c.value-item.result c.loop-value-test.true c.value-item.is)
    (sym c.as_table.ensures ∙ ap (option_map (λ t. table_view t.now)) c.in-None.is))

pub loop-value-preserved : goal.loop-value-preserved
loop-value-preserved c =
    all_some-goes_on as_table _ _ _ c.loop-value.invariant (view c.value-item.result) _ (table_view c.in-Some.table.now) _
    (left_more view c.args.values.now c.loop-value.value-index c.value-item.result c.loop-value-test.true c.value-item.is)
    (sym c.as_table.ensures ∙ ap (option_map (λ t. table_view t.now)) c.in-Some.is)
    (ap (map (λ t. table_view t.now)) c.in_ok-push-in-Some.ensures.items ∙ map_push (λ t. table_view t.now) c.loop-value.tables.items c.in-Some.table)

pub returns : goal.returns
returns c = sym (all_some-ends as_table _ _ _ c.loop-value.invariant (left_none view c.args.values.now c.loop-value.value-index c.loop-value-test.false))
