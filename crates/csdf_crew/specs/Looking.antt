-- Where a worker looks for a firing that can begin: sets of actors, as the bits of a number.
use Rattle.std.specs.Prelude.{◌≡◌, ◌<◌, ◌⊎◌, ℕ, List, slice_index, None}
use Rattle.csdf_model.specs.Graph.{Channel}
use Rattle.csdf_analysis.specs.Waking.{IsIn, ProducersIn, ConsumersIn}
use Rattle.csdf_core.specs.Moves.{Begin}
use Rattle.csdf_core.specs.Shows.{View as CoreView}
use Rattle.csdf_core.specs.Step.{refusal}
use Rattle.csdf_floor.specs.Floor.{FloorView}

-- what contracts see of a ready set: the actors that may be able to begin, as bits, and for each actor who puts tokens into its inputs, and takes them out
-- of its outputs
pub record ReadyView : Type 0 where
  pub ready : ℕ
  pub producers : List ℕ
  pub consumers : List ℕ

-- what contracts see of what the workers share: the floor, the actors that may be able to begin, as bits, and how many firings are under way
pub record SharedView : Type 0 where
  pub floor : FloorView
  pub ready : ℕ
  pub running : ℕ

-- the core would let the actor begin a firing
abbrev pub CanBegin : CoreView → ℕ → Type 0
CanBegin core a = refusal core.plan core.now (Begin a) ≡ None

-- each of the actors that were looked at and can begin is in the set
abbrev pub HasAble : CoreView → ℕ → ℕ → Type 0
HasAble core looked ready = (a : ℕ) → IsIn looked a → CanBegin core a → IsIn ready a

-- what was in the set stays, and what comes to it can begin
pub record GainsAble (core : CoreView) (old new : ℕ) : Type 0 where
  pub kept : (a : ℕ) → IsIn old a → IsIn new a
  pub only : (a : ℕ) → IsIn new a → IsIn old a ⊎ CanBegin core a

-- a list has such a set for each of the first n actors: who puts tokens into its inputs, or takes them out of its outputs
abbrev pub AreProducers : List Channel → ℕ → List ℕ → Type 0
AreProducers channels n masks = (a : ℕ) → a < n → ProducersIn channels a (slice_index masks a)

abbrev pub AreConsumers : List Channel → ℕ → List ℕ → Type 0
AreConsumers channels n masks = (a : ℕ) → a < n → ConsumersIn channels a (slice_index masks a)
