-- How many channels each actor is away from one: found in rounds, of which each comes to the actors that are one channel further.
use Rattle.std.specs.Prelude.{ℕ, suc, ◌≡◌, ◌<◌, ◌≤◌, ◌⊎◌, ◌==◌, ◌+◌, ◌&&◌, Bool, true, false, if◌then◌else◌, List, Option, Some, None, slice_get, slice_index_or, slice_set, count_by}
use Rattle.csdf_model.specs.Graph.{Channel}
use Rattle.csdf_explain.specs.Ways.{across}

-- how many channels an actor is away, where it was come to
abbrev pub distance_at : List (Option ℕ) → ℕ → Option ℕ
distance_at distances a = slice_index_or distances a None

abbrev pub is_far : Option ℕ → ℕ → Bool
is_far None k = false
is_far (Some d) k = d == k

abbrev pub is_unknown : Option ℕ → Bool
is_unknown None = true
is_unknown (Some d) = false

-- to how many actors nobody has come
abbrev pub unknown_count : List (Option ℕ) → ℕ
unknown_count distances = count_by is_unknown distances

-- an actor that nobody has come to is next to one that is k channels away
abbrev pub is_reached : List (Option ℕ) → ℕ → ℕ → ℕ → Bool
is_reached distances near far k = is_far (distance_at distances near) k && is_unknown (distance_at distances far)

abbrev pub reached : List (Option ℕ) → ℕ → ℕ → ℕ → List (Option ℕ)
reached distances near far k = if is_reached distances near far k then slice_set distances far (Some (k + 1)) else distances

-- where the other end of a channel is, if it is so many channels away
abbrev pub nearer : List (Option ℕ) → Option ℕ → ℕ → Option ℕ
nearer distances None k = None
nearer distances (Some b) k = if is_far (distance_at distances b) k then Some b else None

-- the channel of the number has the one actor at one end and the other at the other
abbrev pub Crosses : List Channel → ℕ → ℕ → ℕ → Type 0
Crosses channels n a b = across (slice_get channels n) a ≡ Some b

-- both ends of each channel are among so many actors
abbrev pub EndsWithin : ℕ → List Channel → Type 0
EndsWithin actors channels = (n : ℕ) (c : Channel) → slice_get channels n ≡ Some c → (c.from < actors) × (c.to < actors)

-- a round over the first so many channels comes to all actors that are next to one k channels away, and to no others
pub record Spreads (channels : List Channel) (i k : ℕ) (old new : List (Option ℕ)) : Type 0 where
  pub kept : (a d : ℕ) → distance_at old a ≡ Some d → distance_at new a ≡ Some d
  pub only : (a d : ℕ) → distance_at new a ≡ Some d
      → (distance_at old a ≡ Some d) ⊎ ((d ≡ suc k) × ((n : ℕ) × (b : ℕ) × Crosses channels n a b × (distance_at old b ≡ Some k)))
  pub all : (n a b : ℕ) → n < i → Crosses channels n a b → distance_at old b ≡ Some k → (d : ℕ) × (distance_at new a ≡ Some d)

-- it is the one from which is counted, or it is next to one that is a channel less away
abbrev pub IsNext : List Channel → ℕ → List (Option ℕ) → ℕ → ℕ → Type 0
IsNext channels start distances a d = ((d ≡ 0) × (a ≡ start))
    ⊎ ((n : ℕ) × (b : ℕ) × (e : ℕ) × Crosses channels n a b × (distance_at distances b ≡ Some e) × (d ≡ suc e))

-- these are the actors that are no more than k channels away
pub record AreDistancesTo (channels : List Channel) (start k : ℕ) (distances : List (Option ℕ)) : Type 0 where
  pub begins : distance_at distances start ≡ Some 0
  pub within : (a d : ℕ) → distance_at distances a ≡ Some d → d ≤ k
  pub next : (a d : ℕ) → distance_at distances a ≡ Some d → IsNext channels start distances a d
  pub all : (n a b d : ℕ) → d < k → Crosses channels n a b → distance_at distances b ≡ Some d → (e : ℕ) × (e ≤ suc d) × (distance_at distances a ≡ Some e)

-- these are all that a way leads to
pub record AreDistances (channels : List Channel) (start : ℕ) (distances : List (Option ℕ)) : Type 0 where
  pub begins : distance_at distances start ≡ Some 0
  pub next : (a d : ℕ) → distance_at distances a ≡ Some d → IsNext channels start distances a d
  pub all : (n a b d : ℕ) → Crosses channels n a b → distance_at distances b ≡ Some d → (e : ℕ) × (e ≤ suc d) × (distance_at distances a ≡ Some e)

-- over the channel of the number, this actor is next to one that is k channels away
abbrev pub IsStep : List Channel → List (Option ℕ) → ℕ → ℕ → ℕ → ℕ → Type 0
IsStep channels distances a k n b = Crosses channels n a b × (distance_at distances b ≡ Some k)

-- and over no channel before it
abbrev pub IsFirstStep : List Channel → List (Option ℕ) → ℕ → ℕ → ℕ → ℕ → Type 0
IsFirstStep channels distances a k n b =
    IsStep channels distances a k n b × ((m c : ℕ) → m < n → IsStep channels distances a k m c → ⊥)
