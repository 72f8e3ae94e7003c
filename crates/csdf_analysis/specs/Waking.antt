-- The actors that may be able to fire, of which a run looks at no others: the bits of one number.
use Rattle.std.specs.Prelude.{◌≡◌, ℕ, ◌<◌, List, length, slice_get, slice_index, Some}
use Rattle.std.specs.Int.{bit_at}
use Rattle.csdf_model.specs.Graph.{Channel}
use Rattle.csdf_analysis.specs.Period.{CanGo}

-- the actor's bit is set
abbrev pub IsIn : ℕ → ℕ → Type 0
IsIn mask a = bit_at mask a ≡ 1

-- no bit is set but those of the first n actors
abbrev pub AreActors : ℕ → ℕ → Type 0
AreActors n mask = (a : ℕ) → IsIn mask a → a < n

-- the actor's bit is the lowest that is set
pub record IsLowest (mask a : ℕ) : Type 0 where
  pub set : IsIn mask a
  pub lowest : (b : ℕ) → b < a → IsIn mask b → ⊥

-- the bits of the producers of an actor's inputs are set, and those of the consumers of its outputs
abbrev pub ProducersIn : List Channel → ℕ → ℕ → Type 0
ProducersIn channels a mask = (i : ℕ) (c : Channel) → slice_get channels i ≡ Some c → c.to ≡ a → IsIn mask c.from

abbrev pub ConsumersIn : List Channel → ℕ → ℕ → Type 0
ConsumersIn channels a mask = (i : ℕ) (c : Channel) → slice_get channels i ≡ Some c → c.from ≡ a → IsIn mask c.to

-- b puts tokens into an input of a, or takes them out of an output of a
abbrev pub IsProducerTo : List Channel → ℕ → ℕ → Type 0
IsProducerTo channels a b = (i : ℕ) × (c : Channel) × (slice_get channels i ≡ Some c) × (c.to ≡ a) × (c.from ≡ b)

abbrev pub IsConsumerFrom : List Channel → ℕ → ℕ → Type 0
IsConsumerFrom channels a b = (i : ℕ) × (c : Channel) × (slice_get channels i ≡ Some c) × (c.from ≡ a) × (c.to ≡ b)

-- the actor's bit is set, and those of all at the other ends of its channels
pub record AreWoken (channels : List Channel) (a mask : ℕ) : Type 0 where
  pub own : IsIn mask a
  pub producers : ProducersIn channels a mask
  pub consumers : ConsumersIn channels a mask

-- a list has such a mask, of n actors, for each of the first k
pub record AreNeighbours (channels : List Channel) (n k : ℕ) (masks : List ℕ) : Type 0 where
  pub count : length masks ≡ k
  pub woken : (a : ℕ) → a < k → AreWoken channels a (slice_index masks a)
  pub actors : (a : ℕ) → a < k → AreActors n (slice_index masks a)

-- the bit of each actor is set that is able to fire and has fired less often than in a period
abbrev pub HasAble : List Channel → List ℕ → List ℕ → List ℕ → ℕ → Type 0
HasAble channels q bounds n mask = (b : ℕ) → CanGo channels q bounds n b → IsIn mask b

-- these are bits of actors, and those of all that may go on are set
pub record AreWaiting (channels : List Channel) (q bounds n : List ℕ) (mask : ℕ) : Type 0 where
  pub actors : AreActors (length q) mask
  pub able : HasAble channels q bounds n mask
