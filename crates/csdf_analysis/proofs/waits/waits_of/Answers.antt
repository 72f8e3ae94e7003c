use Rattle.std.proofs.Common.{◌≡◌, ◌+◌, ◌∙◌, ap, arith, length}
use Rattle.std.proofs.lemmas.List.{length_push}
use Rattle.csdf_analysis.proofs.StallLemmas.{says_next}
use Rattle.csdf_analysis.proofs.waits.waits_of.Goals as goal

pub wait_of-requires-clause-actor : goal.wait_of-requires-clause-actor
wait_of-requires-clause-actor c = omega (arith, c.loop-actor-test.true, c.actors-actor-end.ensures.count)

pub loop-actor-preserved : goal.loop-actor-preserved
loop-actor-preserved c =
    let more : length c.push.new.self.items ≡ length c.loop-actor.waits.items + 1 = ap length c.in_ok-push.ensures.items
    ∙ length_push c.loop-actor.waits.items c.wait_of.result in
    record {
      so_far = omega (arith, more, c.loop-actor.invariant.so_far);
      says = says_next _ _ _ _ c.loop-actor.waits.items c.push.new.self.items c.wait_of.result c.loop-actor.actor c.loop-actor.invariant.so_far
          c.in_ok-push.ensures.items c.wait_of.ensures c.loop-actor.invariant.says;
    }
