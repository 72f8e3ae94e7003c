use Rattle.std.proofs.Common.{◌≡◌, ◌<◌, ◌≤◌, ◌+◌, length, map}
use Rattle.std.specs.Prelude.{All}
use Rattle.csdf_core.specs.Blocks.{gifts_of}
use Rattle.csdf_core.specs.Own.{ArePlaced}
use Rattle.csdf_core.specs.Phases.{IsInPhase}
use Rattle.csdf_core.specs.Ports.{give_at, outputs_at}
use Rattle.csdf_core.specs.Step.{count}
use Rattle.csdf_floor.specs.Work.{program}
use Rattle.csdf_floor.proofs.SuccessiveValues.{IsOn}
use Rattle.csdf_floor.proofs.work.Work.push_successive.Given as goal

-- the firings so far are told, and the next one's phase and counts are there
abbrev pub invariant-loop-firing : goal.invariant-loop-firing
invariant-loop-firing l = record {
  firing : l.turn.firing ≡ count l.core.now l.actor + l._firing;
  in_phase : IsInPhase l.core.plan.channels l.actor l.turn.firing l.turn.phase;
  low : l.turn.phase < 16;
  counts : l.counts.items ≡ map (give_at l.core.plan.channels l.turn.firing) (outputs_at l.core.plan.channels l.actor);
  few : length l.counts.items ≤ 128;
  small : All (λ n. n ≤ 64) l.counts.items;
  room : gifts_of l.core.plan.channels l.actor (count l.core.now l.actor) l.n ≤ l.outputs.capacity;
  placed : ArePlaced l.core.plan.channels l.actor l.turn.firing l.own.places;
  on : IsOn (program l.fn.self) l.core.plan.channels l.actor (count l.core.now l.actor) l.n l._firing l.at l.core.now.tokens l.own.queues l.buffer l.outputs.items;
}
