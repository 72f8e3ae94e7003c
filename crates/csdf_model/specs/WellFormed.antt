-- What every graph keeps: all that reading tests of names, ranges, ends, phases, rates, ports and connection.
use Rattle.std.specs.Prelude.{◌≡◌, ◌≢◌, ℕ, ◌-◌, ◌<◌, ◌≤◌, ℤ, pos, ◌≤ℤ◌, true, List, length, map, drop, replicate, sum, sum_by, All, AllPairs, IfSome}
use Rattle.std.specs.Prelude.{slice_index_or}
use Rattle.csdf_model.specs.declared.limits.TheConstants.{MAX_ACTORS, MAX_CHANNELS, MAX_PHASES, MAX_WEIGHTS, MIN_WEIGHT, MAX_WEIGHT, MAX_SHIFT}
use Rattle.csdf_model.specs.declared.limits.TheConstants.{MAX_TOKENS_PER_FIRING, MAX_INITIAL_TOKENS, MAX_CAPACITY, MAX_CELLS}
use Rattle.csdf_model.specs.declared.parts.Kernel.{Kernel}
use Rattle.csdf_model.specs.declared.parts.Kernel.TheVariants as kernel
use Rattle.csdf_model.specs.Graph.{Actor, Channel, Graph, phases_of}
use Rattle.csdf_model.specs.Names.{is_name}
use Rattle.csdf_model.specs.Checks.{has_ports}
use Rattle.csdf_model.specs.Joined.{AreJoined}

-- each has the form of a name, and no two are the same
pub record AreNames (names : List (List ℕ)) : Type 0 where
  pub formed : All (λ name. is_name name ≡ true) names
  pub distinct : AllPairs (λ m n. m ≢ n) names

-- from the least weight to the greatest
abbrev pub IsWeight : ℤ → Type 0
IsWeight weight = (MIN_WEIGHT ≤ℤ weight) × (weight ≤ℤ MAX_WEIGHT)

-- 1 to the most weights count, and the rest are 0
pub record IsFilter (weights : List ℤ) (taps shift : ℕ) : Type 0 where
  pub count : length weights ≡ MAX_WEIGHTS
  pub some_taps : 1 ≤ taps
  pub few_taps : taps ≤ MAX_WEIGHTS
  pub small : All IsWeight weights
  pub rest : drop taps weights ≡ replicate (MAX_WEIGHTS - taps) (pos 0)
  pub low_shift : shift ≤ MAX_SHIFT

abbrev pub IsKernel : Kernel → Type 0
IsKernel (kernel.Fir weights taps shift) = IsFilter weights taps shift
IsKernel kernel.Source = Unit {0}
IsKernel kernel.Sink = Unit {0}
IsKernel kernel.Copy = Unit {0}
IsKernel kernel.Sum = Unit {0}

pub record IsActor (a : Actor) : Type 0 where
  pub kernel : IsKernel a.kernel
  pub some_phase : 1 ≤ a.phases
  pub few_phases : a.phases ≤ MAX_PHASES

-- a rate for each phase, each at most the greatest, and not all of them 0
pub record AreRates (phases : ℕ) (rates : List ℕ) : Type 0 where
  pub each_phase : length rates ≡ phases
  pub small : All (λ n. n ≤ MAX_TOKENS_PER_FIRING) rates
  pub some : 0 < sum rates

-- a given capacity has room for one token and for the initial ones
pub record IsCapacity (c : Channel) (capacity : ℕ) : Type 0 where
  pub some : 1 ≤ capacity
  pub fits : length c.initial ≤ capacity
  pub within : capacity ≤ MAX_CAPACITY

pub record IsChannel (actors : List Actor) (c : Channel) : Type 0 where
  pub from : c.from < length actors
  pub to : c.to < length actors
  pub produce : AreRates (phases_of actors c.from) c.produce
  pub consume : AreRates (phases_of actors c.to) c.consume
  pub few_initial : length c.initial ≤ MAX_INITIAL_TOKENS
  pub capacity : IfSome c.capacity (IsCapacity c)

-- the channels have so many initial tokens
abbrev pub initial_total : List Channel → ℕ
initial_total channels = sum_by (λ (c : Channel). length c.initial) channels

-- a given number of cells has room for the initial tokens
pub record IsCells (channels : List Channel) (cells : ℕ) : Type 0 where
  pub fits : initial_total channels ≤ cells
  pub within : cells ≤ MAX_CELLS

-- all but the last of these checks
pub record IsFitting (g : Graph) : Type 0 where
  pub some_actor : 1 ≤ length g.actors
  pub few_actors : length g.actors ≤ MAX_ACTORS
  pub few_channels : length g.channels ≤ MAX_CHANNELS
  pub actor_names : AreNames (map (λ (a : Actor). a.name) g.actors)
  pub channel_names : AreNames (map (λ (c : Channel). c.name) g.channels)
  pub actors : All IsActor g.actors
  pub channels : All (IsChannel g.actors) g.channels
  pub ports : (i : ℕ) (d : Actor) → i < length g.actors → has_ports g.channels i (slice_index_or g.actors i d) ≡ true
  pub cells : IfSome g.cells (IsCells g.channels)

pub record IsWellFormed (g : Graph) : Type 0 where
  pub fitting : IsFitting g
  pub joined : AreJoined (length g.actors) g.channels
