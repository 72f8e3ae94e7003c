-- What a run plays: channels and the firings of a period, within the limits of a graph.
use Rattle.std.specs.Prelude.{◌≡◌, ℕ, ◌<◌, ◌≤◌, List, length, All, sum, slice_index}
use Rattle.csdf_model.specs.declared.limits.TheConstants.{MAX_ACTORS, MAX_CHANNELS, MAX_FIRINGS_PER_PERIOD, MAX_TOKENS_PER_FIRING}
use Rattle.csdf_model.specs.Graph.{Actor, Channel, phases_of}
use Rattle.csdf_model.specs.Rates.{produced}
use Rattle.csdf_analysis.specs.Repetition.{HaveRoom}

-- actors and channels, and the firings of each actor in a period
pub record Period : Type 0 where
  pub actors : List Actor
  pub channels : List Channel
  pub firings : List ℕ

-- a channel between two of n actors, with rates up to 64
pub record IsBetween (n : ℕ) (c : Channel) : Type 0 where
  pub from : c.from < n
  pub to : c.to < n
  pub small : All (λ x. x ≤ MAX_TOKENS_PER_FIRING) c.produce

-- at most 128 channels between the actors, with full capacities up to 65,535, some token put into each in a period, and so many firings that their number fits
-- 32 bits
pub record IsFit (channels : List Channel) (q : List ℕ) : Type 0 where
  pub between : All (IsBetween (length q)) channels
  pub few : length channels ≤ MAX_CHANNELS
  pub few_actors : length q ≤ MAX_ACTORS
  pub room : HaveRoom q channels
  pub some_put : All (λ c. 1 ≤ produced c (slice_index q c.from)) channels
  pub total : sum q ≤ MAX_FIRINGS_PER_PERIOD

-- each actor has a phase, and each channel a rate for each phase of its producer and of its consumer
pub record IsPhased (actors : List Actor) (channels : List Channel) (q : List ℕ) : Type 0 where
  pub each_actor : length actors ≡ length q
  pub some : (a : ℕ) → a < length actors → 1 ≤ phases_of actors a
  pub produce : All (λ c. length c.produce ≡ phases_of actors c.from) channels
  pub consume : All (λ c. length c.consume ≡ phases_of actors c.to) channels
