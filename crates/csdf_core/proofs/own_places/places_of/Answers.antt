use Rattle.std.proofs.Common.{[], ◌∷◌, ap, length, arith}
use Rattle.std.proofs.lemmas.List.{length-append}
use Rattle.csdf_core.specs.Own.{IsPlaced}
use Rattle.csdf_core.proofs.OwnPlaces.{each_more}
use Rattle.csdf_core.proofs.own_places.places_of.Goals as goal

pub loop-place-preserved : goal.loop-place-preserved
loop-place-preserved c =
    let more = ap length c.in_ok-push.ensures.items in
    let size = length-append c.loop-place.places.items (c.place_of.result ∷ []) in
    record {
      all = c.loop-place.invariant.all;
      each = omega (arith, more, size, c.loop-place.invariant.each);
      placed = each_more (IsPlaced c.args.plan.now.channels c.args.actor c.args.turn.firing) c.loop-place.places.items c.push.new.self.items c.place_of.result
          c.loop-place.place c.loop-place.invariant.each c.loop-place.invariant.placed c.place_of.ensures c.in_ok-push.ensures.items;
    }
