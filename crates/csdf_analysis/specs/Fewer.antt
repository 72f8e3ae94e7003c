-- How the greatest counts that fit are found: those of each actor by itself are lowered to what a channel allows, over and over.
use Rattle.std.specs.Prelude.{◌≡◌, ℕ, ◌<◌, ◌≤◌, List, length, slice_index, slice_set, slice_get, Some, All}
use Rattle.csdf_model.specs.declared.limits.TheConstants.{MAX_CAPACITY, MAX_PHASES}
use Rattle.csdf_model.specs.Graph.{Channel}
use Rattle.csdf_model.specs.Rates.{total}
use Rattle.csdf_model.specs.WellFormed.{AreRates}
use Rattle.csdf_analysis.specs.Acceptance.{Accepted}
use Rattle.csdf_analysis.specs.Most.{FitsActor, given_by}

-- a rate for each of at most 16 phases
pub record AreFewRates (rates : List ℕ) : Type 0 where
  pub are : AreRates (length rates) rates
  pub few : length rates ≤ MAX_PHASES

-- of each channel its producer
abbrev pub HaveFewRates : List Channel → Type 0
HaveFewRates channels = All (λ (c : Channel). AreFewRates c.produce) channels

-- a channel between two of n actors, whose initial tokens are within this capacity
pub record IsHeld (n capacity : ℕ) (c : Channel) : Type 0 where
  pub from : c.from < n
  pub to : c.to < n
  pub produce : AreFewRates c.produce
  pub consume : AreFewRates c.consume
  pub initial : length c.initial ≤ capacity
  pub small : capacity ≤ MAX_CAPACITY

-- all of them are, by their capacities
abbrev pub AreHeldIn : ℕ → List Channel → List ℕ → Type 0
AreHeldIn n channels capacities = (i : ℕ) (c : Channel) → slice_get channels i ≡ Some c → IsHeld n (slice_index capacities i) c

-- the greatest number of firings, at most so many, that move at most so many tokens by these rates
pub record IsMostMoved (rates : List ℕ) (tokens before most : ℕ) : Type 0 where
  pub within : most ≤ before
  pub fits : total rates most ≤ tokens
  pub greatest : (n : ℕ) → n ≤ before → total rates n ≤ tokens → n ≤ most

-- the greatest number of firings of an actor, at most so many, that put at most so many tokens into all channels
pub record IsMostGiven (channels : List Channel) (actor tokens before most : ℕ) : Type 0 where
  pub within : most ≤ before
  pub fits : given_by channels actor most ≤ tokens
  pub greatest : (n : ℕ) → n ≤ before → given_by channels actor n ≤ tokens → n ≤ most

-- the counts, where that of one actor is lowered to this number
pub record IsLoweredTo (rates : List ℕ) (tokens actor : ℕ) (old new : List ℕ) : Type 0 where
  pub value : new ≡ slice_set old actor (slice_index new actor)
  pub most : IsMostMoved rates tokens (slice_index old actor) (slice_index new actor)

-- the greatest number of firings that fits an actor by itself
pub record IsMostAlone (a : Accepted) (periods : ℕ) (tokens : List ℕ) (actor most : ℕ) : Type 0 where
  pub fits : FitsActor a periods tokens actor most
  pub greatest : (n : ℕ) → FitsActor a periods tokens actor n → n ≤ most

-- these of all actors
pub record AreMostAlone (a : Accepted) (periods : ℕ) (tokens most : List ℕ) : Type 0 where
  pub each_actor : length most ≡ length a.graph.actors
  pub each : (actor : ℕ) → actor < length most → IsMostAlone a periods tokens actor (slice_index most actor)
