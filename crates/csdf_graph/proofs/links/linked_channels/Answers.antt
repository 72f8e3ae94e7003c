use Rattle.std.proofs.Common.{◌≡◌, [], map, string_bytes, arith}
use Rattle.std.proofs.lemmas.List.{nil_from_length}
use Rattle.csdf_model.specs.Graph.{channel_view}
use Rattle.csdf_graph.specs.Ranges.{ranged_view}
use Rattle.csdf_graph.specs.Links.{linked_at}
use Rattle.csdf_graph.proofs.PassLemmas.{stands_on, stands_still}
use Rattle.csdf_graph.proofs.links.linked_channels.Goals as goal

pub loop-place-preserved : goal.loop-place-preserved
loop-place-preserved c =
    let steps = c.in-Some.ensures.steps in
    rw (steps.2) (stands_on (linked_at (map string_bytes c.args.names.now.keys)) ranged_view channel_view c.loop-place.place-iterator.count c.in-Some.channel _ _
    steps.0.0 _ _ _ _ c.loop-place.invariant (rw (steps.1) at c.channel_linked.ensures) c.one_more-linked.ensures)

pub returns : goal.returns
returns c =
    let steps = c.in-None.ensures.steps in
    let rest = c.loop-place.place-iterator.iter.rest in
    let none : rest.items ≡ [] = nil_from_length rest.items (omega (arith, rest.ok.0, steps.0.0)) in
    stands_still (linked_at (map string_bytes c.args.names.now.keys)) ranged_view channel_view c.loop-place.place-iterator.count _ none _ _
    c.loop-place.invariant
