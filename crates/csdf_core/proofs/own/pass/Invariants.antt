use Rattle.std.proofs.Common.{◌≡◌, ◌<◌, ◌≤◌, ℕ, length, get_or}
use Rattle.csdf_core.specs.Own.{own_passed}
use Rattle.csdf_core.specs.Plan.{from_at}
use Rattle.csdf_core.specs.Ports.{inputs_at, tokens_at}
use Rattle.csdf_core.proofs.own.pass.Given as goal

-- the own channels so far have passed, and the others are as they were
abbrev pub invariant-loop-place : goal.invariant-loop-place
invariant-loop-place l = record {
  each : length l.queues ≡ length (inputs_at l.plan.channels l.actor);
  passed : (j : ℕ) → j < l.place → from_at l.plan.channels (get_or (inputs_at l.plan.channels l.actor) j 0) ≡ l.actor
      → tokens_at l.queues j ≡ own_passed l.plan.channels l.actor l.fn.turn.firing l.value (λ _. tokens_at l.fn.queues j)
      (get_or (inputs_at l.plan.channels l.actor) j 0);
  left : (j : ℕ) → l.place ≤ j → tokens_at l.queues j ≡ tokens_at l.fn.queues j;
}
