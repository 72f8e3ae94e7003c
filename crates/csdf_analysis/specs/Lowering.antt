-- How the least capacities are found: channel by channel, in file order.
use Rattle.std.specs.Prelude.{◌≡◌, ◌⊎◌, ℕ, ◌<◌, ◌≤◌, List, All, map, slice_index, slice_get, Some, unwrap_or}
use Rattle.csdf_model.specs.declared.limits.TheConstants.{MAX_CAPACITY}
use Rattle.csdf_model.specs.Graph.{Channel}
use Rattle.csdf_analysis.specs.Repetition.{full_capacity}
use Rattle.csdf_analysis.specs.Period.{CompletesPeriod}
use Rattle.csdf_analysis.specs.Capacities.{Agrees, IsBefore}

-- the given capacity of a channel, or else its full one
abbrev pub first_bound : List ℕ → Channel → ℕ
first_bound q c = unwrap_or c.capacity (full_capacity q c)

abbrev pub first_bounds : List ℕ → List Channel → List ℕ
first_bounds q channels = map (first_bound q) channels

-- the lists have the same entries below this place
abbrev pub AreSameBelow : ℕ → List ℕ → List ℕ → Type 0
AreSameBelow c xs ys = (j : ℕ) → j < c → slice_index xs j ≡ slice_index ys j

-- the first list has the smaller entry at a first difference below this place
pub record IsBeforeBelow (c : ℕ) (xs ys : List ℕ) : Type 0 where
  pub before : IsBefore xs ys
  pub below : before.place < c

-- the channels below this one have their least capacities, and the others their given or full ones
pub record IsLowered (channels : List Channel) (q : List ℕ) (c : ℕ) (bounds : List ℕ) : Type 0 where
  pub completes : CompletesPeriod channels q bounds
  pub agrees : Agrees channels bounds
  pub ahead : (i : ℕ) (d : Channel) → c ≤ i → slice_get channels i ≡ Some d → slice_index bounds i ≡ first_bound q d
  pub small : All (λ b. b ≤ MAX_CAPACITY) bounds
  pub least : (w : List ℕ) → CompletesPeriod channels q w → Agrees channels w → AreSameBelow c bounds w ⊎ IsBeforeBelow c bounds w
