-- Graphs that are accepted, and why others are not.
use Rattle.std.specs.Prelude.{ℕ, ◌≤◌, List, All, sum, unwrap_or}
use Rattle.csdf_model.specs.declared.limits.TheConstants.{MAX_CAPACITY}
use Rattle.csdf_model.specs.Graph.{Graph}
use Rattle.csdf_model.specs.WellFormed.{IsWellFormed}
use Rattle.csdf_analysis.specs.declared.fault.AcceptFault.{AcceptFault}
use Rattle.csdf_analysis.specs.declared.fault.AcceptFault.TheVariants as fault
use Rattle.csdf_analysis.specs.Repetition.{IsRepetition, IsFirstUnbalanced, IsFirstTooLarge}
use Rattle.csdf_analysis.specs.Capacities.{AreLeastCapacities, IsDeadlocked, IsTooTight}

-- a graph with the cycles and the firings of each actor in a period, and the capacity of each channel
pub record Accepted : Type 0 where
  pub graph : Graph
  pub r : List ℕ
  pub q : List ℕ
  pub capacities : List ℕ

-- the least vector of the graph, and its least capacities
pub record IsAccepted (a : Accepted) : Type 0 where
  pub well_formed : IsWellFormed a.graph
  pub repetition : IsRepetition a.graph.actors a.graph.channels a.r a.q
  pub least : AreLeastCapacities a.graph.channels a.q a.capacities
  pub small : All (λ b. b ≤ MAX_CAPACITY) a.capacities

-- the given number of cells, or else the sum of the capacities
abbrev pub cells_of : Accepted → ℕ
cells_of a = unwrap_or a.graph.cells (sum a.capacities)

-- it has a least vector within the limits, and with its firings this holds
pub record HasRepetition (g : Graph) (P : List ℕ → Type 0) : Type 0 where
  pub r : List ℕ
  pub q : List ℕ
  pub repetition : IsRepetition g.actors g.channels r q
  pub holds : P q

-- when a graph is refused, in this order; want of memory says nothing of it
abbrev pub IsNotAccepted : Graph → AcceptFault → Type 0
IsNotAccepted g (fault.Unbalanced c) = IsFirstUnbalanced g.actors g.channels c
IsNotAccepted g (fault.TooLarge c) = IsFirstTooLarge g.actors g.channels c
IsNotAccepted g fault.Deadlock = HasRepetition g (IsDeadlocked g.channels)
IsNotAccepted g fault.TooTight = HasRepetition g (IsTooTight g.channels)
IsNotAccepted g fault.Memory = Unit {0}
