-- Graphs whose channels have room for the tokens of several periods.
use Rattle.std.specs.Prelude.{◌≡◌, ◌≢◌, ◌⊎◌, ℕ, ◌+◌, ◌*◌, ◌<◌, ◌≤◌, min, max, List, [], ◌∷◌, length, map, slice_index, slice_get, unwrap_or, Option, Some, None, All}
use Rattle.csdf_model.specs.declared.limits.TheConstants.{MAX_CAPACITY}
use Rattle.csdf_model.specs.Graph.{Channel, Graph, with_capacity}
use Rattle.csdf_model.specs.Rates.{produced}
use Rattle.csdf_analysis.specs.declared.fault.AcceptFault.{AcceptFault}
use Rattle.csdf_analysis.specs.declared.fault.AcceptFault.TheVariants as fault
use Rattle.csdf_analysis.specs.declared.room.Room.{Room}
use Rattle.csdf_analysis.specs.declared.room.TheConstants.{MOST_CARRIED}
use Rattle.csdf_analysis.specs.declared.room.Room.TheVariants as room
use Rattle.csdf_analysis.specs.Acceptance.{Accepted, IsAccepted, IsNotAccepted}
use Rattle.csdf_analysis.specs.Repetition.{IsRepetition}
use Rattle.csdf_analysis.specs.Period.{held_after}
use Rattle.csdf_model.specs.WellFormed.{IsWellFormed}
use Rattle.csdf_analysis.specs.Laws.{IsWithinAll}

-- the initial tokens of a channel and all that its producer puts in within so many periods, and at most 65,535
abbrev pub room_for : List ℕ → ℕ → Channel → ℕ
room_for q periods c = min (length c.initial + periods * produced c (slice_index q c.from)) MAX_CAPACITY

-- the given capacity of a channel, or else this room
abbrev pub capacity_with_room : List ℕ → ℕ → Channel → ℕ
capacity_with_room q periods c = unwrap_or c.capacity (room_for q periods c)

abbrev pub capacities_with_room : List ℕ → ℕ → List Channel → List ℕ
capacities_with_room q periods channels = map (capacity_with_room q periods) channels

-- the channel, given it
abbrev pub channel_with_room : List ℕ → ℕ → Channel → Channel
channel_with_room q periods c = with_capacity (capacity_with_room q periods c) c

-- the same graph, where each channel that was given no capacity has room for so many periods
abbrev pub with_room : List ℕ → ℕ → Graph → Graph
with_room q periods g = record { actors = g.actors; channels = map (channel_with_room q periods) g.channels; cells = g.cells }

-- an accepted graph, with room
abbrev pub accepted_with_room : ℕ → Accepted → Accepted
accepted_with_room periods a = record {
  graph = with_room a.q periods a.graph;
  r = a.r;
  q = a.q;
  capacities = capacities_with_room a.q periods a.graph.channels;
}

-- with room for a period or more an accepted graph is accepted too: with the same vector, with capacities that are no smaller, and in no other way; and it is
-- refused for want of memory alone
pub record IsAcceptedWithRoom (a : Accepted) (periods : ℕ) : Type 0 where
  pub accepted : IsAccepted (accepted_with_room periods a)
  pub greater : IsWithinAll a.capacities (capacities_with_room a.q periods a.graph.channels)
  pub only : (b : Accepted) → IsAccepted b → b.graph ≡ with_room a.q periods a.graph → b ≡ accepted_with_room periods a
  pub refused : (why : AcceptFault) → IsNotAccepted (with_room a.q periods a.graph) why → why ≡ fault.Memory

abbrev pub RoomIsAccepted : Type 0
RoomIsAccepted = (a : Accepted) (periods : ℕ) → IsAccepted a → 1 ≤ periods → IsAcceptedWithRoom a periods

-- with room for a period or more a graph is refused only for what it is refused for without
abbrev pub RoomIsRefused : Type 0
RoomIsRefused =
    (g : Graph) (r q : List ℕ) (periods : ℕ) (why : AcceptFault) → IsRepetition g.actors g.channels r q → 1 ≤ periods
    → IsNotAccepted (with_room q periods g) why → IsNotAccepted g why

-- room for so many periods is never too little within them, where it is not cut: a firing of these periods leaves no more in the channel than it
abbrev pub RoomHoldsPeriods : Type 0
RoomHoldsPeriods =
    (g : Graph) (r q n : List ℕ) (periods i : ℕ) (c : Channel) → IsWellFormed g → IsRepetition g.actors g.channels r q → slice_get g.channels i ≡ Some c
    → room_for q periods c < MAX_CAPACITY → slice_index n c.from < periods * slice_index q c.from → held_after c.from n c ≤ room_for q periods c

-- a channel that was given a capacity
abbrev pub IsGiven : Channel → Type 0
IsGiven c = c.capacity ≢ None

-- in so many periods a channel that was given no capacity carries at most 4,096 tokens
abbrev pub CarriesFew : List ℕ → ℕ → Channel → Type 0
CarriesFew q periods c = c.capacity ≡ None → periods * produced c (slice_index q c.from) ≤ MOST_CARRIED

-- the greatest number of periods in which no such channel carries more, and at least 1; it is 1 where each channel was given a capacity
pub record IsAutoRoom (q : List ℕ) (channels : List Channel) (periods : ℕ) : Type 0 where
  pub some : 1 ≤ periods
  pub within : periods ≤ MOST_CARRIED
  pub few : (periods ≡ 1) ⊎ All (CarriesFew q periods) channels
  pub greatest : (more : ℕ) → periods < more → All (CarriesFew q more) channels → All IsGiven channels
  pub given : All IsGiven channels → periods ≡ 1

-- how many tokens a period puts into a channel that was given no capacity, and 0 for another
abbrev pub unless_given : Option ℕ → ℕ → ℕ
unless_given None tokens = tokens
unless_given (Some capacity) tokens = 0

abbrev pub carried : List ℕ → Channel → ℕ
carried q c = unless_given c.capacity (produced c (slice_index q c.from))

-- the most of these
abbrev pub most_carried : List ℕ → List Channel → ℕ
most_carried q [] = 0
most_carried q (c ∷ cs) = max (carried q c) (most_carried q cs)

-- a room for periods is for one at least
abbrev pub HasSomePeriod : Room → Type 0
HasSomePeriod room.Least = Unit {0}
HasSomePeriod (room.Periods n) = 1 ≤ n
HasSomePeriod room.Auto = Unit {0}

-- the graph h is g with this room
abbrev pub IsWithRoom : Room → List ℕ → Graph → Graph → Type 0
IsWithRoom room.Least q g h = h ≡ g
IsWithRoom (room.Periods n) q g h = h ≡ with_room q n g
IsWithRoom room.Auto q g h = (n : ℕ) × IsAutoRoom q g.channels n × (h ≡ with_room q n g)
