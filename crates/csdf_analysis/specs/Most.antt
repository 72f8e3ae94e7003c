-- How often the actors can fire at most, by the tokens that the sources have and the capacities: the greatest counts that fit (Lee and Messerschmitt 1987; with
-- phases, Bilsen et al. 1996).
use Rattle.std.specs.Prelude.{◌≡◌, ℕ, ◌+◌, ◌*◌, ◌<◌, ◌≤◌, ◌==◌, if◌then◌else◌, Bool, true, false, List, length, map, sum_by, slice_index, slice_index_or}
use Rattle.std.specs.Prelude.{slice_get, Some}
use Rattle.csdf_model.specs.Graph.{Actor, Channel}
use Rattle.csdf_model.specs.Kernels.{is_source_kernel}
use Rattle.csdf_model.specs.Rates.{produced, consumed}
use Rattle.csdf_analysis.specs.Acceptance.{Accepted}
use Rattle.csdf_analysis.specs.Laws.{IsWithinAll}

-- the actor is a source
abbrev pub is_source_at : List Actor → ℕ → Bool
is_source_at actors a = slice_index_or (map (λ (actor : Actor). is_source_kernel actor.kernel) actors) a false

-- how many tokens the first n firings of an actor put into a channel: none where it is not its producer
abbrev pub given_to : ℕ → ℕ → Channel → ℕ
given_to a n c = if c.from == a then produced c n else 0

-- how many they put into all channels
abbrev pub given_by : List Channel → ℕ → ℕ → ℕ
given_by channels a n = sum_by (given_to a n) channels

-- so many firings of one actor: no more than in the periods, and where it is a source no more than it has the tokens for
pub record FitsActor (a : Accepted) (periods : ℕ) (tokens : List ℕ) (actor n : ℕ) : Type 0 where
  pub within : n ≤ periods * slice_index a.q actor
  pub supplied : is_source_at a.graph.actors actor ≡ true → given_by a.graph.channels actor n ≤ slice_index tokens actor

-- of a channel of this capacity no more is taken than there was, and no more is left in it than the capacity
pub record FitsChannel (capacity : ℕ) (n : List ℕ) (c : Channel) : Type 0 where
  pub there : consumed c (slice_index n c.to) ≤ length c.initial + produced c (slice_index n c.from)
  pub room : length c.initial + produced c (slice_index n c.from) ≤ capacity + consumed c (slice_index n c.to)

-- of each channel, by its capacity
abbrev pub FitsChannels : List Channel → List ℕ → List ℕ → Type 0
FitsChannels channels capacities n = (i : ℕ) (c : Channel) → slice_get channels i ≡ Some c → FitsChannel (slice_index capacities i) n c

-- counts of firings that fit an accepted graph, so many periods and the numbers of tokens that the sources have
pub record AreFitting (a : Accepted) (periods : ℕ) (tokens n : List ℕ) : Type 0 where
  pub each_actor : length n ≡ length a.graph.actors
  pub actors : (actor : ℕ) → actor < length a.graph.actors → FitsActor a periods tokens actor (slice_index n actor)
  pub channels : FitsChannels a.graph.channels a.capacities n

-- the greatest ones: they fit, and no counts that fit have more firings of any actor
pub record AreMost (a : Accepted) (periods : ℕ) (tokens most : List ℕ) : Type 0 where
  pub fitting : AreFitting a periods tokens most
  pub greatest : (n : List ℕ) → AreFitting a periods tokens n → IsWithinAll n most
