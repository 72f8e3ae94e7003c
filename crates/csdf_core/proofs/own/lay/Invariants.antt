use Rattle.std.proofs.Common.{◌≡◌, ◌++◌, ℕ, List, length, take, drop}
use Rattle.std.specs.Prelude.{ℤ, sum_by}
use Rattle.csdf_core.specs.Own.{AreOwn, own_laid}
use Rattle.csdf_core.specs.Ports.{inputs_at, take_at}
use Rattle.csdf_core.proofs.own.lay.Given as goal

-- what is laid and what is left make the whole
abbrev pub invariant-loop-place : goal.invariant-loop-place
invariant-loop-place l = record {
  whole : sum_by (take_at l.plan.channels l.fn.turn.firing) (inputs_at l.plan.channels l.actor) ≡ length l.part;
  laid : (tokens : ℕ → List ℤ) → AreOwn l.plan.channels l.actor tokens l.queues
      → take (sum_by (take_at l.plan.channels l.fn.turn.firing) (take l.place (inputs_at l.plan.channels l.actor))) l.part
      ++ own_laid l.plan.channels l.actor (take_at l.plan.channels l.fn.turn.firing) (drop l.place (inputs_at l.plan.channels l.actor)) tokens
      (drop (sum_by (take_at l.plan.channels l.fn.turn.firing) (take l.place (inputs_at l.plan.channels l.actor))) l.part)
      ≡ own_laid l.plan.channels l.actor (take_at l.plan.channels l.fn.turn.firing) (inputs_at l.plan.channels l.actor) tokens l.fn.part;
}
