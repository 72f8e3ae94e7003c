use Rattle.std.proofs.Common.{◌≡◌, ◌<◌, ℕ, length, get_or}
use Rattle.csdf_core.specs.Plan.{from_at}
use Rattle.csdf_core.specs.Ports.{inputs_at, tokens_at, tokens_in}
use Rattle.csdf_core.proofs.own.queues_of.Given as goal

-- the inputs so far have their tokens
abbrev pub invariant-loop-channel : goal.invariant-loop-channel
invariant-loop-channel l = record {
  each : length l.queues.items ≡ l.channel-index;
  hold : (place : ℕ) → place < l.channel-index → from_at l.plan.channels (get_or (inputs_at l.plan.channels l.actor) place 0) ≡ l.actor
      → tokens_at l.queues.items place ≡ tokens_at (tokens_in l.pool) (get_or (inputs_at l.plan.channels l.actor) place 0);
}
