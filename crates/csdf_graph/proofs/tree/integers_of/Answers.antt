use Rattle.std.proofs.Common.{rules, sym, ◌∙◌}
use Rattle.std.proofs.lemmas.Int.{to_z-of_z}
use Rattle.toml.specs.Data.{as_integer}
use Rattle.toml.specs.View.{view}
use Rattle.csdf_graph.proofs.TreeLemmas.{left_more, left_none, all_some-goes_on, all_some-stops, all_some-ends}
use Rattle.csdf_graph.proofs.tree.integers_of.Goals as goal
use mir.Val.{SFits}
use mir.Syntax.{w64}

pub returns-in-None : goal.returns-in-None
returns-in-None c =
    sym (all_some-stops as_integer _ _ _ c.loop-value.invariant (view c.value-item.result) _
    (left_more view c.args.values.now c.loop-value.value-index c.value-item.result c.loop-value-test.true c.value-item.is)
    (sym c.as_integer.ensures ∙ c.in-None.is))

pub loop-value-preserved : goal.loop-value-preserved
loop-value-preserved c =
    let fits : SFits w64 c.in-Some.integer = search rules in
    all_some-goes_on as_integer _ _ _ c.loop-value.invariant (view c.value-item.result) _ c.in-Some.integer _
    (left_more view c.args.values.now c.loop-value.value-index c.value-item.result c.loop-value-test.true c.value-item.is)
    (sym c.as_integer.ensures ∙ c.in-Some.is)
    (rw (to_z-of_z w64 c.in-Some.integer fits) at c.in_ok-push-in-Some.ensures.items)

pub returns : goal.returns
returns c = sym (all_some-ends as_integer _ _ _ c.loop-value.invariant (left_none view c.args.values.now c.loop-value.value-index c.loop-value-test.false))
