use Rattle.std.proofs.Common.{◌+◌, map, subst, sym, ◌∙◌}
use Rattle.std.proofs.lemmas.List.{length-map, with_items_is}
use Rattle.csdf_model.specs.Graph.{channel_view}
use Rattle.csdf_explain.specs.Distances.{AreDistances, Spreads}
use Rattle.csdf_explain.proofs.DistanceLemmas.{Found, found_all, found_on}
use Rattle.csdf_explain.proofs.way.distances_from.Goals as goal

pub loop-count-preserved : goal.loop-count-preserved
loop-count-preserved c =
    subst (Found (map channel_view c.args.channels.now) c.args.actors c.args.start (c.loop-count.count + 1))
    (sym (with_items_is c.loop-count.distances c.spread.new.distances (c.spread.ensures.length ∙ c.deref_mut.ensures.len)))
    (found_on (map channel_view c.args.channels.now) c.args.actors c.args.start c.loop-count.count c.deref_mut.result.now c.spread.new.distances
    (subst (Found (map channel_view c.args.channels.now) c.args.actors c.args.start c.loop-count.count) (sym c.deref_mut.ensures.value) c.loop-count.invariant)
    c.spread.ensures.length
    (subst (λ m. Spreads (map channel_view c.args.channels.now) m c.loop-count.count c.deref_mut.result.now c.spread.new.distances)
    (sym (length-map c.args.channels.now channel_view)) c.spread.ensures.spreads) (c.spread.ensures.fewer c.loop-count-test.true))

pub returns : goal.returns
returns c =
    subst (AreDistances (map channel_view c.args.channels.now) c.args.start)
    (sym (with_items_is c.loop-count.distances c.spread.new.distances (c.spread.ensures.length ∙ c.deref_mut.ensures.len)))
    (found_all (map channel_view c.args.channels.now) c.args.actors c.args.start c.loop-count.count c.deref_mut.result.now c.spread.new.distances
    (subst (Found (map channel_view c.args.channels.now) c.args.actors c.args.start c.loop-count.count) (sym c.deref_mut.ensures.value) c.loop-count.invariant)
    (subst (λ m. Spreads (map channel_view c.args.channels.now) m c.loop-count.count c.deref_mut.result.now c.spread.new.distances)
    (sym (length-map c.args.channels.now channel_view)) c.spread.ensures.spreads) (c.spread.ensures.same c.loop-count-test.false))
