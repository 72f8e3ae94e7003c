use Rattle.std.proofs.Common.{arith, length-set, ◌∙◌}
use Rattle.csdf_stream.proofs.FeedLemmas.{cleared_next, none_past}
use Rattle.csdf_stream.proofs.flow.clear.Goals as goal

pub loop-actor-preserved : goal.loop-actor-preserved
loop-actor-preserved c = record {
  many = length-set _ _ _ ∙ c.loop-actor.invariant.many;
  none = cleared_next c.loop-actor.feeds c.loop-actor.actor _ (let n = c.loop-actor.invariant.many in omega (arith, c.loop-actor-test.true, n)) c.loop-actor.invariant.none
      c.clear.ensures.items;
}

pub returns-clause-none : goal.returns-clause-none
returns-clause-none c =
    none_past c.loop-actor.feeds c.loop-actor.actor (let n = c.loop-actor.invariant.many in omega (arith, c.loop-actor-test.false, n)) c.loop-actor.invariant.none
