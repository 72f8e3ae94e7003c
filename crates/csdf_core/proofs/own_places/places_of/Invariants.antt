use Rattle.std.proofs.Common.{◌≡◌, ◌<◌, ℕ, length, get_or}
use Rattle.csdf_core.specs.declared.own_places.OwnPlace.{OwnPlace}
use Rattle.csdf_core.specs.Own.{IsPlaced}
use Rattle.csdf_core.specs.Ports.{inputs_at}
use Rattle.csdf_core.proofs.own_places.places_of.Given as goal

-- the inputs so far have their places
abbrev pub invariant-loop-place : goal.invariant-loop-place
invariant-loop-place l = record {
  all : l.n ≡ length (inputs_at l.plan.channels l.actor);
  each : length l.places.items ≡ l.place;
  placed : (j : ℕ) (p : OwnPlace) → j < l.place → IsPlaced l.plan.channels l.actor l.turn.firing j (get_or l.places.items j p);
}
