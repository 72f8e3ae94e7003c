use Rattle.std.proofs.Common.{◌≡◌, ◌+◌, ◌-◌, ◌*◌, ◌<◌, ◌≤◌, ◌++◌, length, take, drop, get_or}
use Rattle.csdf_core.specs.Blocks.{needs_of, takes_at, laid, IsSlot}
use Rattle.csdf_core.specs.Engine.{filled}
use Rattle.csdf_core.specs.Phases.{IsInPhase}
use Rattle.csdf_core.specs.Ports.{inputs_at, tokens_at, tokens_in}
use Rattle.csdf_core.proofs.gathering.lay_input.Given as goal

-- what was laid and what is left make the whole
abbrev pub invariant-loop-firing : goal.invariant-loop-firing
invariant-loop-firing l = record {
  firing : l.next.firing ≡ l.fn.turn.firing + l._firing;
  in_phase : IsInPhase l.plan.channels l.actor l.next.firing l.next.phase;
  low : l.next.phase < 16;
  slot : IsSlot l.plan.channels l.actor l.place l.next.firing l.slot.need l.slot.from l.slot.taken;
  small : l.slot.need ≤ 8192;
  few : l.at ≤ 8192 * l._firing;
  all : l.at + needs_of l.plan.channels l.actor l.next.firing (l.n - l._firing) ≡ length l.into;
  laid : take l.at l.into ++ laid l.plan.channels (inputs_at l.plan.channels l.actor) (take l.place (inputs_at l.plan.channels l.actor))
      (get_or (inputs_at l.plan.channels l.actor) l.place 0) l.next.firing (l.n - l._firing)
      (filled (takes_at l.plan.channels l.next.firing (l.n - l._firing) (get_or (inputs_at l.plan.channels l.actor) l.place 0)) l.tokens) (drop l.at l.into) ≡ laid l.plan.channels
      (inputs_at l.plan.channels l.actor) (take l.place (inputs_at l.plan.channels l.actor)) (get_or (inputs_at l.plan.channels l.actor) l.place 0)
      l.fn.turn.firing l.n
      (filled (takes_at l.plan.channels l.fn.turn.firing l.n (get_or (inputs_at l.plan.channels l.actor) l.place 0))
      (tokens_at (tokens_in l.pool) (get_or (inputs_at l.plan.channels l.actor) l.place 0))) l.fn.into;
}
