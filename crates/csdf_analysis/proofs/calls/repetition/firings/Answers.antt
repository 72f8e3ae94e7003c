use Rattle.std.proofs.Common.{◌*◌, ◌≤◌, arith, refl}
use Rattle.std.specs.Prelude.{slice_index}
use Rattle.csdf_analysis.proofs.BoundLemmas.{firing_fits, phases_few, length_pushed, firings_next}
use Rattle.csdf_analysis.proofs.calls.repetition.firings.Goals as goal

pub overflow_mul-actor : goal.overflow_mul-actor
overflow_mul-actor c =
    let phases = phases_few c.args.actors.now c.loop-number.number c.index-actors-number.result c.loop-number-test.true c.index-actors-number.is
    c.requires.actors in
    let few : slice_index c.args.r.now c.loop-number.number ≤ 1024 =
    c.requires.small c.loop-number.number 0 (omega (arith, c.requires.each_actor, c.loop-number-test.true)) in
    let fits : c.index-actors-number.result.phases * slice_index c.args.r.now c.loop-number.number ≤ 16384 =
    firing_fits c.index-actors-number.result.phases (slice_index c.args.r.now c.loop-number.number) phases few in
    omega arith

pub loop-number-preserved : goal.loop-number-preserved
loop-number-preserved c =
    let more = length_pushed c.loop-number.q.items c.push.new.self.items (c.index-actors-number.result.phases * slice_index c.args.r.now c.loop-number.number)
    c.in_ok-push.ensures.items in
    record {
      so_far = omega (arith, more, c.loop-number.invariant.so_far);
      firings = firings_next c.args.actors.now c.args.r.now c.loop-number.q.items c.push.new.self.items c.loop-number.number
          (c.index-actors-number.result.phases * slice_index c.args.r.now c.loop-number.number) c.index-actors-number.result
          c.loop-number-test.true c.index-actors-number.is c.loop-number.invariant.so_far c.in_ok-push.ensures.items refl c.loop-number.invariant.firings;
    }
