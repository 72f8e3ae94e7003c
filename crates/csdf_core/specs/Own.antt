-- What the channels from an actor to itself hold, while the values of its firings are told one after another.
use Rattle.std.specs.Prelude.{ℕ, ◌≡◌, ◌<◌, ◌≤◌, ◌==◌, if◌then◌else◌, List, [], ◌∷◌, ◌++◌, ℤ, length, take, drop, slice_index, slice_index_or}
use Rattle.csdf_core.specs.declared.own_places.OwnPlace.{OwnPlace}
use Rattle.csdf_core.specs.Blocks.{takes_at, IsSlot}
use Rattle.csdf_core.specs.Engine.{gives_to}
use Rattle.csdf_core.specs.Passing.{IsShare}
use Rattle.csdf_core.specs.Plan.{Channel, from_at}
use Rattle.csdf_core.specs.Ports.{inputs_at, take_at, tokens_at}
use Rattle.csdf_core.specs.Rows.{shares}

-- for each input of the actor, in file order, what is there of it, and where a firing has its tokens
pub record OwnView : Type 0 where
  pub queues : List (List ℤ)
  pub places : List OwnPlace

-- firing number k has the tokens of the input at this place there: among what it reads, and, where that is a channel from the actor to itself, among what it writes
pub record IsPlaced (channels : List Channel) (a k place : ℕ) (p : OwnPlace) : Type 0 where
  pub own : p.is_own ≡ (from_at channels (slice_index (inputs_at channels a) place) == a)
  pub slot : IsSlot channels a place k p.slot.need p.slot.from p.slot.taken
  pub share : from_at channels (slice_index (inputs_at channels a) place) ≡ a
      → IsShare channels a (slice_index (inputs_at channels a) place) k p.share.all p.share.from p.share.own

-- the tokens of each input are where these say
pub record ArePlaced (channels : List Channel) (a k : ℕ) (places : List OwnPlace) : Type 0 where
  pub each_input : length places ≡ length (inputs_at channels a)
  pub placed : (place : ℕ) (p : OwnPlace) → place < length (inputs_at channels a) → IsPlaced channels a k place (slice_index_or places place p)

-- a list for each input of the actor, in file order: of a channel from the actor to itself the list has these tokens
pub record AreOwn (channels : List Channel) (a : ℕ) (tokens : ℕ → List ℤ) (own : List (List ℤ)) : Type 0 where
  pub each_input : length own ≡ length (inputs_at channels a)
  pub hold : (place : ℕ) → place < length (inputs_at channels a) → from_at channels (slice_index (inputs_at channels a) place) ≡ a
      → tokens_at own place ≡ tokens (slice_index (inputs_at channels a) place)

-- each of these lists has what a firing with these amounts takes
abbrev pub OwnEnough : List Channel → ℕ → (ℕ → ℕ) → List (List ℤ) → Type 0
OwnEnough channels a amount own =
    (place : ℕ) → place < length (inputs_at channels a) → from_at channels (slice_index (inputs_at channels a) place) ≡ a
    → amount (slice_index (inputs_at channels a) place) ≤ length (tokens_at own place)

-- what a firing reads of these inputs, cut out of its part, with these tokens in place of those of channels to the actor itself
abbrev pub own_laid : List Channel → ℕ → (ℕ → ℕ) → List ℕ → (ℕ → List ℤ) → List ℤ → List ℤ
own_laid channels a amount [] tokens part = []
own_laid channels a amount (c ∷ numbers) tokens part =
    take (amount c) (if from_at channels c == a then tokens c else part) ++ own_laid channels a amount numbers tokens (drop (amount c) part)

-- what firing number k that writes v leaves in a channel to the actor itself, and what n firings do
abbrev pub own_passed : List Channel → ℕ → ℕ → List ℤ → (ℕ → List ℤ) → ℕ → List ℤ
own_passed channels a k v tokens c = drop (take_at channels k c) (tokens c ++ tokens_at (shares a k channels v) c)

abbrev pub own_left : List Channel → ℕ → ℕ → ℕ → List ℤ → List (List ℤ) → ℕ → List ℤ
own_left channels a k n v tokens c = drop (takes_at channels k n c) (tokens_at tokens c ++ gives_to channels a c k n v)
