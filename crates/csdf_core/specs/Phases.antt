-- Where each actor stands in its lists of rates.
use Rattle.std.specs.Prelude.{ℕ, ◌≡◌, ◌<◌, ◌%◌, List, length, slice_index}
use Rattle.csdf_model.specs.declared.limits.TheConstants.{MAX_PHASES}
use Rattle.csdf_core.specs.Plan.{Channel, Plan, from_at, to_at, produce_at, consume_at}

-- the phase of firing number k in a list of rates
pub record IsPhase (rates : List ℕ) (k phase : ℕ) : Type 0 where
  pub within : phase < length rates
  pub is : phase ≡ k % length rates

-- the actor's firing number k has this phase in each list of its rates
pub record IsInPhase (channels : List Channel) (a k phase : ℕ) : Type 0 where
  pub takes : (c : ℕ) → c < length channels → to_at channels c ≡ a → IsPhase (consume_at channels c) k phase
  pub gives : (c : ℕ) → c < length channels → from_at channels c ≡ a → IsPhase (produce_at channels c) k phase

-- each list of the actor's rates has so many
pub record HasPhases (channels : List Channel) (a n : ℕ) : Type 0 where
  pub takes : (c : ℕ) → c < length channels → to_at channels c ≡ a → length (consume_at channels c) ≡ n
  pub gives : (c : ℕ) → c < length channels → from_at channels c ≡ a → length (produce_at channels c) ≡ n

-- the list has the phase of each actor's firing of this count
pub record AreInPhase (plan : Plan) (counts phases : List ℕ) : Type 0 where
  pub phased : length phases ≡ length plan.sources
  pub each : (a : ℕ) → a < length plan.sources → IsInPhase plan.channels a (slice_index counts a) (slice_index phases a)
  pub low : (a : ℕ) → a < length plan.sources → slice_index phases a < MAX_PHASES
