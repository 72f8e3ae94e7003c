use Rattle.std.proofs.Common.{◌≡◌, ◌≤◌, ◌+◌, suc, length, List, ℕ, Option, ap, sym, subst, ◌∙◌, arith}
use Rattle.std.specs.Prelude.{IfSome}
use Rattle.std.proofs.lemmas.List.{length-map}
use Rattle.csdf_model.specs.Graph.{Channel, channel_view}
use Rattle.csdf_model.specs.WellFormed.{IsCapacity}
use Rattle.csdf_analysis.specs.Repetition.{IsWithin, full_capacity}
use Rattle.csdf_analysis.specs.Room.{capacity_with_room}
use Rattle.csdf_analysis.proofs.GrantLemmas.{graph_first, graph_more, graph_last, granted, placed, count_of, within_at, full_at, roomy_graph}
use Rattle.csdf_analysis.proofs.room.give_room.Goals as goal

pub loop-number-init : goal.loop-number-init
loop-number-init c = graph_first c.args.vector.now.q.items c.args.periods c.args.graph.now

pub bounds-channels-number : goal.bounds-channels-number
bounds-channels-number c =
    let same = count_of c.args.vector.now.q.items c.args.periods c.loop-number.number c.args.graph.now c.loop-number.graph c.channels-number-end.result.now
    c.channels.result.now c.loop-number.invariant c.channels-number-end.ensures.value c.channels.ensures.value in
    omega (arith, same, c.loop-number-test.true)

pub capacity_with_room-capacity-requires-clause-channel :
    goal.capacity_with_room-capacity-requires-clause-channel
capacity_with_room-capacity-requires-clause-channel c =
    let g = c.args.graph.now in
    let x = c.index-channels-number.result in
    let p = placed c.args.vector.now.q.items c.args.periods c.loop-number.number g c.loop-number.graph c.channels-number-end.result.now c.channels.result.now
    x c.loop-number.invariant c.channels-number-end.ensures.value c.channels.ensures.value c.loop-number-test.true c.index-channels-number.is in
    subst (λ (ks : List ℕ). IsWithin (length ks) (channel_view x)) (sym c.deref.ensures.value)
    (within_at g c.args.vector.now.r.items c.args.vector.now.q.items c.loop-number.number (channel_view x) c.channels-number-end.ensures.well_formed
    c.requires.vector p.first)

pub capacity_with_room-capacity-requires-clause-full :
    goal.capacity_with_room-capacity-requires-clause-full
capacity_with_room-capacity-requires-clause-full c =
    let g = c.args.graph.now in
    let x = c.index-channels-number.result in
    let p = placed c.args.vector.now.q.items c.args.periods c.loop-number.number g c.loop-number.graph c.channels-number-end.result.now c.channels.result.now
    x c.loop-number.invariant c.channels-number-end.ensures.value c.channels.ensures.value c.loop-number-test.true c.index-channels-number.is in
    subst (λ (ks : List ℕ). full_capacity ks (channel_view x) ≤ 65535) (sym c.deref.ensures.value)
    (full_at g c.args.vector.now.r.items c.args.vector.now.q.items c.loop-number.number (channel_view x) c.requires.vector p.first)

pub give_capacity-requires-clause-exists : goal.give_capacity-requires-clause-exists
give_capacity-requires-clause-exists c =
    (placed c.args.vector.now.q.items c.args.periods c.loop-number.number c.args.graph.now c.loop-number.graph c.channels-number-end.result.now
    c.channels.result.now c.index-channels-number.result c.loop-number.invariant c.channels-number-end.ensures.value c.channels.ensures.value
    c.loop-number-test.true c.index-channels-number.is).inside

pub give_capacity-requires-clause-fits : goal.give_capacity-requires-clause-fits
give_capacity-requires-clause-fits c =
    let g = c.args.graph.now in
    let q = c.args.vector.now.q.items in
    let x = c.index-channels-number.result in
    let p = placed q c.args.periods c.loop-number.number g c.loop-number.graph c.channels-number-end.result.now c.channels.result.now
    x c.loop-number.invariant c.channels-number-end.ensures.value c.channels.ensures.value c.loop-number-test.true c.index-channels-number.is in
    let b : c.capacity_with_room-capacity.result ≡ capacity_with_room q c.args.periods (channel_view x) = c.capacity_with_room-capacity.ensures
    ∙ ap (λ (ks : List ℕ). capacity_with_room ks c.args.periods (channel_view x)) c.deref.ensures.value in
    subst (λ (o : Option Channel). IfSome o (λ d. IsCapacity d c.capacity_with_room-capacity.result)) (sym p.now)
    (subst (λ n. IsCapacity (channel_view x) n) (sym b)
    (granted g c.args.vector.now.r.items q c.args.periods c.loop-number.number (channel_view x) c.channels-number-end.ensures.well_formed c.requires.vector
    c.requires.some p.first))

pub loop-number-preserved : goal.loop-number-preserved
loop-number-preserved c =
    let g = c.args.graph.now in
    let q = c.args.vector.now.q.items in
    let x = c.index-channels-number.result in
    let n = c.loop-number.number in
    let p = placed q c.args.periods n g c.loop-number.graph c.channels-number-end.result.now c.channels.result.now
    x c.loop-number.invariant c.channels-number-end.ensures.value c.channels.ensures.value c.loop-number-test.true c.index-channels-number.is in
    let b : c.capacity_with_room-capacity.result ≡ capacity_with_room q c.args.periods (channel_view x) = c.capacity_with_room-capacity.ensures
    ∙ ap (λ (ks : List ℕ). capacity_with_room ks c.args.periods (channel_view x)) c.deref.ensures.value in
    let next : suc n ≡ n + 1 = omega arith in
    c.give_capacity.ensures ∙ graph_more q c.args.periods n c.capacity_with_room-capacity.result g c.loop-number.graph (channel_view x) c.loop-number.invariant
    p.now b ∙ ap (λ k. roomy_graph q c.args.periods k g) next

pub returns : goal.returns
returns c =
    let g = c.args.graph.now in
    let len = length-map c.channels-number-end.result.now channel_view in
    let count = ap length c.channels-number-end.ensures.value in
    graph_last c.args.vector.now.q.items c.args.periods c.loop-number.number g c.loop-number.graph c.loop-number.invariant
    (omega (arith, len, count, c.loop-number-test.false, c.loop-number.auto.number-end))
