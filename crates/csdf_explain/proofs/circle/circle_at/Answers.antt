use Rattle.std.proofs.lemmas.Grind.{common_steps}
use Rattle.std.proofs.Common.{arith, map}
use Rattle.csdf_model.specs.Graph.{channel_view}
use Rattle.csdf_explain.proofs.CircleLemmas.{round_ends, round_on}
use Rattle.csdf_explain.proofs.circle.circle_at.Goals as goal

pub loop-preserved : goal.loop-preserved
loop-preserved c = round_on (map channel_view c.args.channels.now) c.args.waits.now c.loop.index c.args.first c.loop.actor c.awaited-actor.result
    c.loop.found.items _ _ c.loop-test.true c.awaited-actor.ensures c.if-actor-first.false c.in_ok-push.ensures.items c.loop.invariant

pub returns-then-actor-first : goal.returns-then-actor-first
returns-then-actor-first c =
    round_ends (map channel_view c.args.channels.now) c.args.waits.now c.loop.index c.args.first c.loop.actor c.awaited-actor.result
    c.loop.found.items _ _ c.loop-test.true c.awaited-actor.ensures c.if-actor-first.true c.in_ok-push.ensures.items c.loop.invariant

pub loop-init : goal.loop-init
loop-init c = grind (arith, common_steps)

pub returns-in_err-push : goal.returns-in_err-push
returns-in_err-push c = grind (arith, common_steps)

pub loop-smaller : goal.loop-smaller
loop-smaller c = grind (arith, common_steps)

pub returns : goal.returns
returns c = grind (arith, common_steps)
