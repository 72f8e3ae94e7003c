-- Laws of periods and capacities.
use Rattle.std.specs.Prelude.{◌≡◌, ℕ, ◌≤◌, min, List, length, slice_index, slice_get, Some}
use Rattle.csdf_model.specs.Graph.{Channel}
use Rattle.csdf_analysis.specs.Period.{CompletesPeriod, IsSchedule, counts_after, no_firings}
use Rattle.csdf_analysis.specs.Repetition.{full_capacity}

-- no entry of the first list is above that of the second
abbrev pub IsWithinAll : List ℕ → List ℕ → Type 0
IsWithinAll xs ys = (i : ℕ) → slice_index xs i ≤ slice_index ys i

-- greater capacities complete what smaller ones do
abbrev pub GreaterCapacitiesComplete : Type 0
GreaterCapacitiesComplete =
    (channels : List Channel) (q bounds greater : List ℕ) → CompletesPeriod channels q bounds
    → length greater ≡ length channels → IsWithinAll bounds greater → CompletesPeriod channels q greater

-- the capacities, where none above the full one of its channel is kept
pub record AreCapped (channels : List Channel) (q bounds capped : List ℕ) : Type 0 where
  pub each_channel : length capped ≡ length channels
  pub least : (i : ℕ) (c : Channel) → slice_get channels i ≡ Some c → slice_index capped i ≡ min (slice_index bounds i) (full_capacity q c)

-- no capacity above the full one is needed
abbrev pub FullCapacitySuffices : Type 0
FullCapacitySuffices =
    (channels : List Channel) (q bounds capped : List ℕ) → CompletesPeriod channels q bounds
    → AreCapped channels q bounds capped → CompletesPeriod channels q capped

-- the firings of a list can be followed by others, so that all lead to the counts of the period
pub record GoesOn (channels : List Channel) (q bounds schedule : List ℕ) : Type 0 where
  pub rest : List ℕ
  pub able : IsSchedule channels bounds (counts_after (no_firings q) schedule) rest
  pub leads : counts_after (counts_after (no_firings q) schedule) rest ≡ q

-- where capacities complete a period, every schedule under them with no actor above its firings of a period goes on to these
abbrev pub EveryScheduleGoesOn : Type 0
EveryScheduleGoesOn =
    (channels : List Channel) (q bounds schedule : List ℕ) → CompletesPeriod channels q bounds
    → IsSchedule channels bounds (no_firings q) schedule → IsWithinAll (counts_after (no_firings q) schedule) q
    → GoesOn channels q bounds schedule
