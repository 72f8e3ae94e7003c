use Rattle.csdf_analysis.proofs.LowerLemmas.{within_at, room_at}
use Rattle.std.proofs.Common.{◌≡◌, ◌∙◌, ap, map, List, ℕ, arith}
use Rattle.csdf_model.specs.Graph.{Channel, channel_view}
use Rattle.csdf_analysis.specs.Room.{most_carried}
use Rattle.csdf_analysis.proofs.SearchLemmas.{fit_of}
use Rattle.csdf_analysis.proofs.AutoLemmas.{auto_none, auto_most}
use Rattle.csdf_analysis.proofs.room.auto_room.Goals as goal

pub returns-then-most-eq0 : goal.returns-then-most-eq0
returns-then-most-eq0 c =
    let g = c.args.graph.now in
    let q = c.args.vector.now.q.items in
    let own : c.most_carried-most.result ≡ most_carried q g.channels = c.most_carried-most.ensures
    ∙ ap (λ (ks : List ℕ). most_carried ks (map channel_view c.channels.result.now)) c.deref.ensures.value ∙ ap (λ (cs : List Channel). most_carried q cs) c.channels.ensures.value in
    auto_none q g.channels (fit_of g c.args.vector.now.r.items q c.channels.ensures.well_formed c.requires).some_put
    (omega (arith, own, c.if-most-eq0.true))

pub returns : goal.returns
returns c =
    let g = c.args.graph.now in
    let q = c.args.vector.now.q.items in
    let most : ℕ = c.most_carried-most.result in
    let own : most ≡ most_carried q g.channels = c.most_carried-most.ensures
    ∙ ap (λ (ks : List ℕ). most_carried ks (map channel_view c.channels.result.now)) c.deref.ensures.value ∙ ap (λ (cs : List Channel). most_carried q cs) c.channels.ensures.value in
    auto_most q g.channels c.max.result most own (omega (arith, c.if-most-eq0.false)) c.max.ensures

pub most_carried-most-requires-clause-channels : goal.most_carried-most-requires-clause-channels
most_carried-most-requires-clause-channels c =
    within_at c.args.graph.now c.args.vector.now.r.items c.args.vector.now.q.items _ _ c.channels.ensures.well_formed c.requires c.deref.ensures.value c.channels.ensures.value

pub most_carried-most-requires-clause-room : goal.most_carried-most-requires-clause-room
most_carried-most-requires-clause-room c =
    room_at c.args.graph.now c.args.vector.now.r.items c.args.vector.now.q.items _ _ c.requires c.deref.ensures.value c.channels.ensures.value
