use Rattle.std.proofs.Common.{inr, arith}
use Rattle.std.proofs.lemmas.Grind.{common_steps}
use Rattle.csdf_analysis.proofs.RunLemmas.{firings_left}
use Rattle.csdf_analysis.proofs.SearchLemmas.{printed_all}
use Rattle.csdf_analysis.proofs.calls.schedule.in_order.Goals as goal

pub loop-actor-smaller : goal.loop-actor-smaller
loop-actor-smaller c = omega (arith, firings_left _ _ _ _ _ _ _ c.loop-actor.invariant.run.at c.in-Some.ensures.found.can_go, c.step.ensures.firings)

pub returns : goal.returns
returns c = printed_all _ _ _ _ _ _ _ _ c.loop-actor.invariant.run.at c.in_default.ensures.found c.requires c.loop-actor.invariant.bounds
    c.loop-actor.invariant.so_far

pub loop-actor-preserved : goal.loop-actor-preserved
loop-actor-preserved c = grind (arith, common_steps)

pub new-requires : goal.new-requires
new-requires c = c.requires.each_channel

pub step-requires-clause-can_go : goal.step-requires-clause-can_go
step-requires-clause-can_go c = c.in-Some.ensures.found.can_go

pub step-requires-clause-actors : goal.step-requires-clause-actors
step-requires-clause-actors c = c.in-Some.ensures.waiting.actors

pub step-requires-clause-able : goal.step-requires-clause-able
step-requires-clause-able c = λ b can. inr (c.in-Some.ensures.waiting.able b can)

pub next-requires-clause-waiting : goal.next-requires-clause-waiting
next-requires-clause-waiting c = c.loop-actor.invariant.waiting

pub loop-actor-init : goal.loop-actor-init
loop-actor-init c = grind (arith, common_steps)

pub next-requires-clause-run : goal.next-requires-clause-run
next-requires-clause-run c = c.loop-actor.invariant.run

pub step-requires-clause-run : goal.step-requires-clause-run
step-requires-clause-run c = c.loop-actor.invariant.run
