-- Which channels join two actors: ways along channels, each taken from one of its ends to the other.
use Rattle.std.specs.Prelude.{ℕ, ◌≡◌, ◌<◌, ◌⊎◌, ◌==◌, if◌then◌else◌, List, [], ◌∷◌, Option, Some, None, length, slice_get, take}
use Rattle.csdf_model.specs.Graph.{Channel}

-- the other end of a channel that has the actor at one end
abbrev pub across : Option Channel → ℕ → Option ℕ
across None a = None
across (Some c) a = if c.from == a then Some c.to else (if c.to == a then Some c.from else None)

-- where a way over the channels of these numbers leads; nowhere where one does not begin where the one before it ends
abbrev pub led : List Channel → List ℕ → Option ℕ → Option ℕ
led channels [] at = at
led channels (n ∷ way) None = None
led channels (n ∷ way) (Some a) = led channels way (across (slice_get channels n) a)

-- the way leads from the one actor to the other
abbrev pub Leads : List Channel → ℕ → ℕ → List ℕ → Type 0
Leads channels a b way = led channels way (Some a) ≡ Some b

-- of two ways of one length, where they first differ this one has the channel of the lower number
abbrev pub IsNoLater : List ℕ → List ℕ → Type 0
IsNoLater [] other = Unit {0}
IsNoLater (n ∷ way) [] = ⊥
IsNoLater (n ∷ way) (m ∷ other) = (n < m) ⊎ ((n ≡ m) × IsNoLater way other)

-- the way is shorter than the other one, or as long and no later
abbrev pub Precedes : List ℕ → List ℕ → Type 0
Precedes way other = (length way < length other) ⊎ ((length way ≡ length other) × IsNoLater way other)

-- of all ways from the one actor to the other, this one is the first of the shortest
abbrev pub IsFirstWay : List Channel → ℕ → ℕ → List ℕ → Type 0
IsFirstWay channels a b way = Leads channels a b way × ((other : List ℕ) → Leads channels a b other → Precedes way other)

-- no way leads from the one actor to the other
abbrev pub AreApart : List Channel → ℕ → ℕ → Type 0
AreApart channels a b = (way : List ℕ) → Leads channels a b way → ⊥

-- the channel of the number closes a circle with these, a way from its consumer to its producer over channels before it; or there are none, where no way leads
abbrev pub ClosesCircle : List Channel → ℕ → List ℕ → Type 0
ClosesCircle channels c way = (channel : Channel) × (slice_get channels c ≡ Some channel)
    × (IsFirstWay (take c channels) channel.to channel.from way ⊎ ((way ≡ []) × AreApart (take c channels) channel.to channel.from))
