use Rattle.std.proofs.Common.{◌≡◌, length, take}
use Rattle.csdf_core.specs.Blocks.{needs_of, takes_at}
use Rattle.csdf_core.specs.Engine.{filled}
use Rattle.csdf_core.specs.Ports.{inputs_at, tokens_at, tokens_in}
use Rattle.csdf_core.proofs.BlockReads.{IsLaid}
use Rattle.csdf_core.proofs.gathering.gather.Given as goal

-- the inputs so far are laid
abbrev pub invariant-loop-place : goal.invariant-loop-place
invariant-loop-place l = record {
  all : length l.into ≡ needs_of l.plan.channels l.actor l.turn.firing l.n;
  laid : IsLaid l.plan.channels (inputs_at l.plan.channels l.actor) (take l.place (inputs_at l.plan.channels l.actor)) l.turn.firing l.n
      (λ c. filled (takes_at l.plan.channels l.turn.firing l.n c) (tokens_at (tokens_in l.pool) c)) l.into;
}
