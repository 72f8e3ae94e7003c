use Rattle.std.proofs.Common.{◌≡◌, ◌+◌, ◌++◌, length, take, drop}
use Rattle.std.specs.Prelude.{sum_by}
use Rattle.csdf_core.specs.Blocks.{fronts, HoldAll}
use Rattle.csdf_core.specs.Ports.{take_at, tokens_at, tokens_in}
use Rattle.csdf_core.proofs.gathering.copy_next.Given as goal

-- what was copied and what is left make the whole
abbrev pub invariant-loop-channel : goal.invariant-loop-channel
invariant-loop-channel l = record {
  enough : HoldAll (tokens_in l.pool) (take_at l.plan.channels l.turn.firing) (drop l.channel-index l.inputs);
  count : l.at + sum_by (take_at l.plan.channels l.turn.firing) (drop l.channel-index l.inputs) ≡ sum_by (take_at l.plan.channels l.turn.firing) l.inputs;
  whole : sum_by (take_at l.plan.channels l.turn.firing) l.inputs ≡ length l.into;
  answer : take l.at l.into ++ fronts (take_at l.plan.channels l.turn.firing) (drop l.channel-index l.inputs) (tokens_at (tokens_in l.pool)) ≡ fronts
      (take_at l.plan.channels l.turn.firing) l.inputs (tokens_at (tokens_in l.pool));
}
