use Rattle.std.proofs.Common.{inr, ◌∙◌, arith}
use Rattle.csdf_analysis.proofs.RunLemmas.{firings_left}
use Rattle.csdf_analysis.proofs.run.Run.go_on.Goals as goal

pub loop-actor-smaller : goal.loop-actor-smaller
loop-actor-smaller c = omega (arith, firings_left _ _ _ _ _ _ _ c.loop-actor.invariant.run.at c.in-Some.ensures.found.can_go, c.step.ensures.firings)

pub step-requires-clause-can_go : goal.step-requires-clause-can_go
step-requires-clause-can_go c = c.in-Some.ensures.found.can_go

pub step-requires-clause-actors : goal.step-requires-clause-actors
step-requires-clause-actors c = c.in-Some.ensures.waiting.actors

pub step-requires-clause-able : goal.step-requires-clause-able
step-requires-clause-able c = λ b can. inr (c.in-Some.ensures.waiting.able b can)

pub loop-actor-preserved : goal.loop-actor-preserved
loop-actor-preserved c = record {
  run = c.step.ensures.run;
  bounds = c.step.ensures.bounds ∙ c.loop-actor.invariant.bounds;
  firings = omega (arith, c.step.ensures.firings, c.loop-actor.invariant.firings);
  waiting = c.step.ensures.waiting;
}

pub returns-clause-stalled : goal.returns-clause-stalled
returns-clause-stalled c = c.in_default.ensures.found
