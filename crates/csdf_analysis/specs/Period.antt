-- Periods: schedules of firings under capacities (Lee and Messerschmitt 1987; with phases, Bilsen et al. 1996).
use Rattle.std.specs.Prelude.{◌≡◌, ℕ, suc, ◌+◌, ◌-◌, ◌<◌, ◌≤◌, ◌==◌, if◌then◌else◌, List, [], ◌∷◌, length, replicate, slice_index, slice_set, slice_get, Some}
use Rattle.csdf_model.specs.Graph.{Channel}
use Rattle.csdf_model.specs.Rates.{produced, consumed, production, consumption}

-- how many tokens a channel holds once each actor has fired so often
abbrev pub held : Channel → List ℕ → ℕ
held c n = length c.initial + produced c (slice_index n c.from) - consumed c (slice_index n c.to)

-- how many tokens an actor's next firing takes out of a channel: none where the channel is no input of it
abbrev pub own_consumption : ℕ → List ℕ → Channel → ℕ
own_consumption a n c = if c.to == a then consumption c (slice_index n a) else 0

-- how many tokens a channel holds once an actor's next firing has taken its tokens out and put its tokens in
abbrev pub held_after : ℕ → List ℕ → Channel → ℕ
held_after a n c = held c n - own_consumption a n c + production c (slice_index n a)

-- an actor is able to fire: each input holds what the firing takes, and each output has room for what it puts in
pub record CanFire (channels : List Channel) (bounds n : List ℕ) (a : ℕ) : Type 0 where
  pub exists : a < length n
  pub tokens : (i : ℕ) (c : Channel) → slice_get channels i ≡ Some c → c.to ≡ a → consumption c (slice_index n a) ≤ held c n
  pub room : (i : ℕ) (c : Channel) → slice_get channels i ≡ Some c → c.from ≡ a → held_after a n c ≤ slice_index bounds i

-- the counts once an actor has fired once more
abbrev pub fired : List ℕ → ℕ → List ℕ
fired n a = slice_set n a (suc (slice_index n a))

-- from these counts on, each actor of the list is able to fire at its place
abbrev pub IsSchedule : List Channel → List ℕ → List ℕ → List ℕ → Type 0
IsSchedule channels bounds n [] = Unit {0}
IsSchedule channels bounds n (a ∷ actors) = CanFire channels bounds n a × IsSchedule channels bounds (fired n a) actors

-- the counts that a list of firings leads to
abbrev pub counts_after : List ℕ → List ℕ → List ℕ
counts_after n [] = n
counts_after n (a ∷ actors) = counts_after (fired n a) actors

-- as many counts, each zero
abbrev pub no_firings : List ℕ → List ℕ
no_firings q = replicate (length q) 0

-- a schedule leads from zero counts to these
pub record IsReached (channels : List Channel) (q bounds n : List ℕ) : Type 0 where
  pub schedule : List ℕ
  pub able : IsSchedule channels bounds (no_firings q) schedule
  pub leads : counts_after (no_firings q) schedule ≡ n

-- each channel begins with no more tokens than its capacity
abbrev pub HoldInitial : List Channel → List ℕ → Type 0
HoldInitial channels bounds = (i : ℕ) (c : Channel) → slice_get channels i ≡ Some c → length c.initial ≤ slice_index bounds i

-- the capacities, one for each channel, complete a period: the initial tokens fit, and some schedule leads from zero counts to those of a period
pub record CompletesPeriod (channels : List Channel) (q bounds : List ℕ) : Type 0 where
  pub each_channel : length bounds ≡ length channels
  pub initial : HoldInitial channels bounds
  pub reached : IsReached channels q bounds q

-- the actor is able to fire and has fired less often than in a period
pub record CanGo (channels : List Channel) (q bounds n : List ℕ) (a : ℕ) : Type 0 where
  pub able : CanFire channels bounds n a
  pub left : slice_index n a < slice_index q a

-- it is the lowest-numbered actor of which this holds
pub record IsNext (channels : List Channel) (q bounds n : List ℕ) (a : ℕ) : Type 0 where
  pub can_go : CanGo channels q bounds n a
  pub lowest : (b : ℕ) → b < a → CanGo channels q bounds n b → ⊥

-- the printed schedule from these counts on: at each place the lowest-numbered actor that is able to fire and has fired less often than in a period; it leads
-- to the counts of the period
abbrev pub IsScheduleFrom : List Channel → List ℕ → List ℕ → List ℕ → List ℕ → Type 0
IsScheduleFrom channels q bounds n [] = n ≡ q
IsScheduleFrom channels q bounds n (a ∷ actors) = IsNext channels q bounds n a × IsScheduleFrom channels q bounds (fired n a) actors

-- the printed schedule of a period
abbrev pub IsScheduleOf : List Channel → List ℕ → List ℕ → List ℕ → Type 0
IsScheduleOf channels q bounds schedule = IsScheduleFrom channels q bounds (no_firings q) schedule
