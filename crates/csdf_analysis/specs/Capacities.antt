-- The least capacities under which a period completes.
use Rattle.std.specs.Prelude.{◌≡◌, ◌⊎◌, ℕ, ◌<◌, ◌≤◌, List, length, map, slice_index, slice_set, slice_get, Some, IfSome}
use Rattle.csdf_model.specs.Graph.{Channel}
use Rattle.csdf_analysis.specs.declared.fault.AcceptFault.{AcceptFault}
use Rattle.csdf_analysis.specs.declared.fault.AcceptFault.TheVariants as fault
use Rattle.csdf_analysis.specs.Repetition.{full_capacity}
use Rattle.csdf_analysis.specs.Period.{CompletesPeriod}

-- each given capacity is kept
abbrev pub Agrees : List Channel → List ℕ → Type 0
Agrees channels bounds = (i : ℕ) (c : Channel) → slice_get channels i ≡ Some c → IfSome c.capacity (λ given. slice_index bounds i ≡ given)

-- at the first place where the lists differ the first has the smaller entry
pub record IsBefore (xs ys : List ℕ) : Type 0 where
  pub place : ℕ
  pub within : place < length xs
  pub same : (j : ℕ) → j < place → slice_index xs j ≡ slice_index ys j
  pub less : slice_index xs place < slice_index ys place

-- of the capacities that complete a period and agree with every given one the lexicographically least, in file order
pub record AreLeastCapacities (channels : List Channel) (q bounds : List ℕ) : Type 0 where
  pub completes : CompletesPeriod channels q bounds
  pub agrees : Agrees channels bounds
  pub least : (w : List ℕ) → CompletesPeriod channels q w → Agrees channels w → (bounds ≡ w) ⊎ IsBefore bounds w

-- the least capacity of one channel that completes a period with these capacities of the others
pub record IsLeastCapacity (channels : List Channel) (q bounds : List ℕ) (c b : ℕ) : Type 0 where
  pub completes : CompletesPeriod channels q (slice_set bounds c b)
  pub least : (w : ℕ) → CompletesPeriod channels q (slice_set bounds c w) → b ≤ w

-- the initial tokens of each channel and all that its producer puts in within a period
abbrev pub full_capacities : List ℕ → List Channel → List ℕ
full_capacities q channels = map (full_capacity q) channels

-- the full capacities complete no period
abbrev pub IsDeadlocked : List Channel → List ℕ → Type 0
IsDeadlocked channels q = CompletesPeriod channels q (full_capacities q channels) → ⊥

-- the full capacities complete a period, and none that agree with the given ones do
pub record IsTooTight (channels : List Channel) (q : List ℕ) : Type 0 where
  pub full : CompletesPeriod channels q (full_capacities q channels)
  pub none : (w : List ℕ) → CompletesPeriod channels q w → Agrees channels w → ⊥

-- why there are no capacities; want of memory says nothing of it
abbrev pub HasNoCapacities : List Channel → List ℕ → AcceptFault → Type 0
HasNoCapacities channels q (fault.Unbalanced c) = ⊥
HasNoCapacities channels q (fault.TooLarge c) = ⊥
HasNoCapacities channels q fault.Deadlock = IsDeadlocked channels q
HasNoCapacities channels q fault.TooTight = IsTooTight channels q
HasNoCapacities channels q fault.Memory = Unit {0}
