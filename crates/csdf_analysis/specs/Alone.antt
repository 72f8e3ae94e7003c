-- A channel alone: a period where no other channel is in the way.
use Rattle.std.specs.Prelude.{◌≡◌, ℕ, ◌<◌, ◌≤◌, List, [], ◌∷◌, length, slice_index, slice_get, Some, IfSome, MatchOption}
use Rattle.csdf_model.specs.declared.limits.TheConstants.{MAX_CAPACITY}
use Rattle.csdf_model.specs.Graph.{Channel}
use Rattle.csdf_analysis.specs.Period.{CompletesPeriod}
use Rattle.csdf_analysis.specs.declared.calls.alone.Tight.{Tight}

-- the capacity completes a period where this channel is the only one
abbrev pub CompletesAlone : List ℕ → Channel → ℕ → Type 0
CompletesAlone q c b = CompletesPeriod (c ∷ []) q (b ∷ [])

-- a channel's own least capacity: the least that completes a period where this channel is the only one
pub record IsOwnCapacity (q : List ℕ) (c : Channel) (b : ℕ) : Type 0 where
  pub completes : CompletesAlone q c b
  pub least : (w : ℕ) → CompletesAlone q c w → b ≤ w

-- capacities that complete a period are nowhere below the channels' own least ones
abbrev pub OwnCapacitiesAreNeeded : Type 0
OwnCapacitiesAreNeeded =
    (channels : List Channel) (q w : List ℕ) (i : ℕ) (c : Channel) (b : ℕ) → CompletesPeriod channels q w → slice_get channels i ≡ Some c
    → IsOwnCapacity q c b → b ≤ slice_index w i

-- it is the channel's own least capacity, where the channel has one; the initial tokens fit
pub record IsOwnIfAny (q : List ℕ) (c : Channel) (b : ℕ) : Type 0 where
  pub fits : length c.initial ≤ b
  pub small : b ≤ MAX_CAPACITY
  pub own : (w : ℕ) → CompletesAlone q c w → IsOwnCapacity q c b

-- the given capacity of a channel, or else its own least one
abbrev pub IsOwnBound : List ℕ → Channel → ℕ → Type 0
IsOwnBound q c b = MatchOption c.capacity (IsOwnIfAny q c b) (λ given. b ≡ given)

-- one for each channel
pub record AreOwnBounds (channels : List Channel) (q bounds : List ℕ) : Type 0 where
  pub each_channel : length bounds ≡ length channels
  pub own : (i : ℕ) (c : Channel) → slice_get channels i ≡ Some c → IsOwnBound q c (slice_index bounds i)

-- the entries from c to e are those of the own bounds, and the others are as they were
pub record AreOwnFrom (own bounds next : List ℕ) (c e : ℕ) : Type 0 where
  pub count : length next ≡ length bounds
  pub between : (i : ℕ) → c ≤ i → i < e → slice_index next i ≡ slice_index own i
  pub below : (i : ℕ) → i < c → slice_index next i ≡ slice_index bounds i
  pub above : (i : ℕ) → e ≤ i → slice_index next i ≡ slice_index bounds i

-- ---- given capacities

-- the capacity is no less than the channel's own least one, where the channel has one
abbrev pub IsEnough : List ℕ → Channel → ℕ → Type 0
IsEnough q c given = (needs : ℕ) → IsOwnCapacity q c needs → needs ≤ given

-- no capacity is given for the channel, or one that is enough
abbrev pub HasEnough : List ℕ → Channel → Type 0
HasEnough q c = IfSome c.capacity (IsEnough q c)

-- the channel's given capacity is below its own least one
pub record IsTight (q : List ℕ) (c : Channel) (t : Tight) : Type 0 where
  pub is_given : c.capacity ≡ Some t.given
  pub own : IsOwnIfAny q c t.needs
  pub less : t.given < t.needs

abbrev pub EachHasEnough : List Channel → List ℕ → Type 0
EachHasEnough channels q = (i : ℕ) (c : Channel) → slice_get channels i ≡ Some c → HasEnough q c

-- the given capacity of this channel is below its own least one, and that of none before it is
pub record IsFirstTight (channels : List Channel) (q : List ℕ) (t : Tight) : Type 0 where
  pub channel : Channel
  pub place : slice_get channels t.channel ≡ Some channel
  pub tight : IsTight q channel t
  pub before : (i : ℕ) (c : Channel) → i < t.channel → slice_get channels i ≡ Some c → HasEnough q c
