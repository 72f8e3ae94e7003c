use Rattle.std.proofs.Common.{map, sym, take}
use Rattle.std.proofs.lemmas.List.{take-map}
use Rattle.std.proofs.lemmas.Result.{IfOk-weaker}
use Rattle.csdf_model.specs.Graph.{channel_view}
use Rattle.csdf_explain.proofs.DistanceLemmas.{channel_at}
use Rattle.csdf_explain.proofs.WayLemmas.{closes_by, closes_none, ends_before}
use Rattle.csdf_explain.proofs.way.joining.Goals as goal

pub distances_from-requires-clause-exists : goal.distances_from-requires-clause-exists
distances_from-requires-clause-exists c =
    (c.requires.within c.args.number (channel_view c.index-channels-number.result)
    (channel_at c.args.channels.now c.args.number c.index-channels-number.result c.requires.exists c.index-channels-number.is)).0

pub distances_from-requires-clause-within : goal.distances_from-requires-clause-within
distances_from-requires-clause-within c =
    ends_before c.args.actors (map channel_view c.args.channels.now) (map channel_view (take c.args.number c.args.channels.now)) c.args.number
    (sym (take-map channel_view c.args.number c.args.channels.now)) c.requires.within

pub returns-in-Some : goal.returns-in-Some
returns-in-Some c =
    IfOk-weaker c.way_down.result _ _
    (λ way all. closes_by (map channel_view c.args.channels.now) (map channel_view (take c.args.number c.args.channels.now)) c.args.number c.in-Some.count
    (channel_view c.index-channels-number.result) way.items c.in_ok-distances.distances.items c.deref.result.now c.deref-in-Some.result.now
    c.distance_at.result
    (channel_at c.args.channels.now c.args.number c.index-channels-number.result c.requires.exists c.index-channels-number.is)
    (sym (take-map channel_view c.args.number c.args.channels.now)) c.in_ok-distances.ensures c.deref.ensures.value c.deref-in-Some.ensures.value
    c.distance_at.ensures c.in-Some.is all)
    c.way_down.ensures

pub returns : goal.returns
returns c =
    closes_none (map channel_view c.args.channels.now) (map channel_view (take c.args.number c.args.channels.now)) c.args.number
    (channel_view c.index-channels-number.result) c.new.result.items c.in_ok-distances.distances.items c.deref.result.now c.distance_at.result
    (channel_at c.args.channels.now c.args.number c.index-channels-number.result c.requires.exists c.index-channels-number.is)
    (sym (take-map channel_view c.args.number c.args.channels.now)) c.in_ok-distances.ensures c.deref.ensures.value c.distance_at.ensures
    c.in-None.is c.new.ensures.items
