use Rattle.std.proofs.Common.{◌≡◌, ◌≤◌, ◌∷◌, ◌+◌, ap, arith, length, rules, suc}
use Rattle.std.specs.Vec.Iter.{into_iter_items}
use Rattle.csdf_crew.proofs.Ends.{kept_one, whole_holds_nothing}
use Rattle.csdf_crew.proofs.threads.fn.in_threads.scope.Goals as goal

pub place_after-requires : goal.place_after-requires
place_after-requires g c =
    let own = c.work-place.result in
    whole_holds_nothing c.captures.board.now (length c.loop-place.handles.items) own.answer own.place.view c.join_all-answer.result
    c.join_all-answer.new.place.view c.join_all-answer.ensures.ends c.work-place.ensures.free

pub loop-place-preserved : goal.loop-place-preserved
loop-place-preserved g c =
    let e : into_iter_items c.loop-place.place-iterator ≡ c.in-Some.place ∷ into_iter_items c.next.new.self = search rules in
    let fewer : length (into_iter_items c.loop-place.place-iterator) ≡ suc (length (into_iter_items c.next.new.self)) = ap length e in
    let grown : length c.keep.new.handles.items ≤ length c.loop-place.handles.items + 1 =
    kept_one c.loop-place.handles.items c.keep.new.handles.items c.ok.result c.keep.ensures.kept in
    record {
      places = λ k d below. let h = c.loop-place.invariant.places (k + 1) d in grind rules;
      handles = c.keep.ensures.handles;
      room = omega (arith, grown, fewer, c.loop-place.invariant.room, c.keep.ensures.room);
      few = omega (arith, grown, fewer, c.loop-place.invariant.few);
    }
