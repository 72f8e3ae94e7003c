use Rattle.std.proofs.Common.{◌≡◌, ◌<◌, ◌≤◌, ◌+◌, ◌-◌, ◌++◌, length, drop}
use Rattle.csdf_core.specs.Blocks.{gifts_of}
use Rattle.csdf_core.specs.Phases.{IsInPhase}
use Rattle.csdf_core.specs.Step.{count}
use Rattle.csdf_floor.specs.Making.{amounts_of, phase_values}
use Rattle.csdf_floor.specs.Work.{program}
use Rattle.csdf_floor.proofs.work.Work.push_phases.Given as goal

-- which firing is next; what is there and what is left make the whole, and both the tokens and the room are enough for what is left
abbrev pub invariant-loop-firing : goal.invariant-loop-firing
invariant-loop-firing l = record {
  firing : l.turn.firing ≡ l._firing;
  in_phase : IsInPhase l.core.plan.channels l.actor l.turn.firing l.turn.phase;
  low : l.turn.phase < 16;
  values : l.outputs.items ++ phase_values (program l.fn.self) l.actor l.turn.firing (l.last - l.turn.firing) (drop l.at l.tokens)
      ≡ l.initial.outputs.items ++ phase_values (program l.fn.self) l.actor (count l.core.now l.actor) l.n l.tokens;
  tokens : l.at + amounts_of (program l.fn.self) l.actor l.turn.firing (l.last - l.turn.firing) ≤ length l.tokens;
  room : length l.outputs.items + gifts_of (program l.fn.self).plan.channels l.actor l.turn.firing (l.last - l.turn.firing) ≤ l.outputs.capacity;
}
