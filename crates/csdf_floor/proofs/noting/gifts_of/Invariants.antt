use Rattle.std.proofs.Common.{◌≡◌, ◌<◌, ◌≤◌, ◌+◌, ◌-◌, ◌++◌}
use Rattle.std.specs.Vec.{vec_capacity, vec_len}
use Rattle.csdf_core.specs.Phases.{IsInPhase}
use Rattle.csdf_core.specs.Step.{count}
use Rattle.csdf_journal.specs.Noted.{gifts_from}
use Rattle.csdf_floor.proofs.noting.gifts_of.Given as goal

-- the gifts so far and those of what is left make the whole, and there is room for all
abbrev pub invariant-loop-firing : goal.invariant-loop-firing
invariant-loop-firing l = record {
  firing : l.turn.firing ≡ l._firing;
  in_phase : IsInPhase l.core.plan.channels l.actor l.turn.firing l.turn.phase;
  low : l.turn.phase < 16;
  gifts : l.gifts.items ++ gifts_from l.core.plan.channels l.actor l._firing (l.last - l._firing)
      ≡ gifts_from l.core.plan.channels l.actor (count l.core.now l.actor) l.n;
  len : vec_len l.gifts + (l.last - l._firing) ≡ l.n;
  room : l.n ≤ vec_capacity l.gifts;
}
