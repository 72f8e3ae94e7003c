-- One channel whose capacity alone is to be raised, where a run stands still for want of room.
use Rattle.std.specs.Prelude.{◌≡◌, ℕ, ◌<◌, List, Option, Some, None, slice_index, slice_index_or, slice_set}
use Rattle.csdf_model.specs.Graph.{Channel}
use Rattle.csdf_analysis.specs.declared.calls.relief.Relief.{Relief}
use Rattle.csdf_analysis.specs.declared.stall.Wait.{Wait}
use Rattle.csdf_analysis.specs.declared.stall.Wait.TheVariants as wait
use Rattle.csdf_analysis.specs.Capacities.{IsLeastCapacity, full_capacities}
use Rattle.csdf_analysis.specs.Lowering.{first_bounds}
use Rattle.csdf_analysis.specs.Period.{CompletesPeriod}

-- the given capacities, and elsewhere the full ones, but the full one for this channel
abbrev pub roomy_bounds : List ℕ → List Channel → ℕ → List ℕ
roomy_bounds q channels c = slice_set (first_bounds q channels) c (slice_index (full_capacities q channels) c)

-- no capacity of this channel completes a period, where the others keep their given ones, or else have their full ones
abbrev pub NoneIsEnough : List Channel → List ℕ → ℕ → Type 0
NoneIsEnough channels q c = (w : ℕ) → CompletesPeriod channels q (slice_set (first_bounds q channels) c w) → ⊥

-- the wait is for room in the channel, and this is its least capacity that completes a period with those of the others
abbrev pub IsReliefOf : List Channel → List ℕ → Option Wait → Relief → Type 0
IsReliefOf channels q w r = (w ≡ Some (wait.Room r.channel)) × IsLeastCapacity channels q (first_bounds q channels) r.channel r.capacity

-- if the wait is for room in a channel, no capacity of that is enough
abbrev pub HasNoRelief : List Channel → List ℕ → Option Wait → Type 0
HasNoRelief channels q w = (c : ℕ) → w ≡ Some (wait.Room c) → NoneIsEnough channels q c

-- the first of the waits where there is one
abbrev pub IsFirstRelief : List Channel → List ℕ → List (Option Wait) → Relief → Type 0
IsFirstRelief channels q waits r = (a : ℕ) × IsReliefOf channels q (slice_index_or waits a None) r
    × ((b : ℕ) → b < a → HasNoRelief channels q (slice_index_or waits b None))

abbrev pub HaveNoRelief : List Channel → List ℕ → List (Option Wait) → Type 0
HaveNoRelief channels q waits = (a : ℕ) → HasNoRelief channels q (slice_index_or waits a None)
