-- Where a run of a period stands.
use Rattle.std.specs.Prelude.{◌≡◌, ℕ, ◌<◌, ◌≤◌, ◌%◌, List, length, sum, slice_index, slice_set, slice_get, Some}
use Rattle.csdf_model.specs.declared.limits.TheConstants.{MAX_FIRINGS_PER_PERIOD}
use Rattle.csdf_model.specs.Graph.{Actor, Channel, phases_of}
use Rattle.csdf_model.specs.Rates.{consumption}
use Rattle.csdf_analysis.specs.declared.run.Run.{Run}
use Rattle.csdf_analysis.specs.Period.{held as held_by, held_after, IsReached, CompletesPeriod, CanGo}
use Rattle.csdf_analysis.specs.Laws.{IsWithinAll}
use Rattle.csdf_analysis.specs.Fitting.{Period}

-- each input holds what the actor's next firing takes
abbrev pub HasTokens : List Channel → List ℕ → ℕ → Type 0
HasTokens channels n a = (i : ℕ) (c : Channel) → slice_get channels i ≡ Some c → c.to ≡ a → consumption c (slice_index n a) ≤ held_by c n

-- each output has room for what it puts in
abbrev pub HasRoom : List Channel → List ℕ → List ℕ → ℕ → Type 0
HasRoom channels bounds n a = (i : ℕ) (c : Channel) → slice_get channels i ≡ Some c → c.from ≡ a → held_after a n c ≤ slice_index bounds i

-- a list has at this place what the channel of the number holds
abbrev pub IsRight : List Channel → List ℕ → List ℕ → ℕ → Type 0
IsRight channels n lengths i = (c : Channel) → slice_get channels i ≡ Some c → slice_index lengths i ≡ held_by c n

-- it has so for each channel
abbrev pub AreHeld : List Channel → List ℕ → List ℕ → Type 0
AreHeld channels n lengths = (i : ℕ) → IsRight channels n lengths i

-- the counts were reached by a schedule under the bounds, none is above the firings of the period, and the lengths and the number of firings are those of these
-- counts
pub record IsAt (channels : List Channel) (q bounds counts lengths : List ℕ) (firings : ℕ) : Type 0 where
  pub each_bound : length bounds ≡ length channels
  pub each_actor : length counts ≡ length q
  pub each_length : length lengths ≡ length channels
  pub reached : IsReached channels q bounds counts
  pub within : IsWithinAll counts q
  pub held : AreHeld channels counts lengths
  pub counted : firings ≡ sum counts
  pub few : sum q ≤ MAX_FIRINGS_PER_PERIOD

-- a list has the phase of each actor that has fired so often
pub record AreInPhase (actors : List Actor) (counts phases : List ℕ) : Type 0 where
  pub each_actor : length phases ≡ length counts
  pub phase : (a : ℕ) → a < length counts → slice_index phases a ≡ slice_index counts a % phases_of actors a

pub record IsRun (p : Period) (r : Run) : Type 0 where
  pub at : IsAt p.channels p.firings r.bounds.items r.counts.items r.lengths.items r.firings
  pub in_phase : AreInPhase p.actors r.counts.items r.phases.items

-- no actor that has fired less often than in a period is able to fire
abbrev pub IsStalled : List Channel → List ℕ → List ℕ → List ℕ → Type 0
IsStalled channels q bounds n = (a : ℕ) → CanGo channels q bounds n a → ⊥

-- some capacity of the channel completes a period with these of the others
pub record CanComplete (channels : List Channel) (q bounds : List ℕ) (c : ℕ) : Type 0 where
  pub capacity : ℕ
  pub completes : CompletesPeriod channels q (slice_set bounds c capacity)

-- no capacity of the channel below its bound does
abbrev pub IsLow : List Channel → List ℕ → List ℕ → ℕ → Type 0
IsLow channels q bounds c = (w : ℕ) → CompletesPeriod channels q (slice_set bounds c w) → slice_index bounds c ≤ w
