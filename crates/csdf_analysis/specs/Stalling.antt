-- Where a run of a period stands still, and what its actors wait for there.
use Rattle.std.specs.Prelude.{◌≡◌, ℕ, ◌<◌, List, Option, Some, None, EachIndex, length, slice_index, slice_index_or, slice_get}
use Rattle.csdf_model.specs.Graph.{Channel}
use Rattle.csdf_model.specs.Rates.{consumption}
use Rattle.csdf_analysis.specs.declared.stall.Bounds.{Bounds}
use Rattle.csdf_analysis.specs.declared.stall.Bounds.TheVariants as by
use Rattle.csdf_analysis.specs.declared.stall.Stall.{Stall}
use Rattle.csdf_analysis.specs.declared.stall.Wait.{Wait}
use Rattle.csdf_analysis.specs.declared.stall.Wait.TheVariants as wait
use Rattle.csdf_analysis.specs.Capacities.{full_capacities}
use Rattle.csdf_analysis.specs.Laws.{IsWithinAll}
use Rattle.csdf_analysis.specs.Lowering.{first_bounds}
use Rattle.csdf_analysis.specs.Period.{IsReached, held as held_by, held_after}
use Rattle.csdf_analysis.specs.Running.{AreHeld, IsStalled}

-- the full capacities, or the given ones and elsewhere the full ones
abbrev pub bounds_for : Bounds → List ℕ → List Channel → List ℕ
bounds_for by.Full q channels = full_capacities q channels
bounds_for by.Given q channels = first_bounds q channels

-- the channel is an input of the actor, and holds fewer tokens than its next firing takes
pub record IsShort (channels : List Channel) (n : List ℕ) (a i : ℕ) : Type 0 where
  pub channel : Channel
  pub place : slice_get channels i ≡ Some channel
  pub input : channel.to ≡ a
  pub few : held_by channel n < consumption channel (slice_index n a)

-- the channel is an output of the actor, and would hold more than its capacity after the actor's next firing
pub record IsFull (channels : List Channel) (bounds n : List ℕ) (a i : ℕ) : Type 0 where
  pub channel : Channel
  pub place : slice_get channels i ≡ Some channel
  pub output : channel.from ≡ a
  pub many : slice_index bounds i < held_after a n channel

-- this holds of the channel, and of none before it
pub record IsFirst (P : ℕ → Type 0) (i : ℕ) : Type 0 where
  pub here : P i
  pub before : (j : ℕ) → j < i → P j → ⊥

-- what an actor waits for: tokens of the first input that lacks them, or else room in the first output that lacks it
abbrev pub WaitsFor : List Channel → List ℕ → List ℕ → ℕ → Wait → Type 0
WaitsFor channels bounds n a (wait.Tokens i) = IsFirst (IsShort channels n a) i
WaitsFor channels bounds n a (wait.Room i) = ((j : ℕ) → IsShort channels n a j → ⊥) × IsFirst (IsFull channels bounds n a) i

-- what is said of an actor: what it waits for, or nothing where it has fired as often as in a period
abbrev pub SaysOf : List Channel → List ℕ → List ℕ → List ℕ → ℕ → Option Wait → Type 0
SaysOf channels q bounds n a None = slice_index n a ≡ slice_index q a
SaysOf channels q bounds n a (Some w) = (slice_index n a < slice_index q a) × WaitsFor channels bounds n a w

-- the same of each actor
pub record AreWaits (channels : List Channel) (q bounds n : List ℕ) (waits : List (Option Wait)) : Type 0 where
  pub each_actor : length waits ≡ length q
  pub says : EachIndex waits (λ a. SaysOf channels q bounds n a (slice_index_or waits a None))

-- some schedule under the bounds leads to these counts, none above the firings of a period, and no actor with firings left is able to fire there
pub record IsEnd (channels : List Channel) (q bounds n : List ℕ) : Type 0 where
  pub reached : IsReached channels q bounds n
  pub within : IsWithinAll n q
  pub stalled : IsStalled channels q bounds n

-- the only such counts, with what the channels hold and what the actors wait for there
pub record IsStall (channels : List Channel) (q capacities : List ℕ) (s : Stall) : Type 0 where
  pub bounds : s.bounds.items ≡ capacities
  pub end : IsEnd channels q capacities s.counts.items
  pub only : (n : List ℕ) → IsEnd channels q capacities n → n ≡ s.counts.items
  pub each_channel : length s.held.items ≡ length channels
  pub held : AreHeld channels s.counts.items s.held.items
  pub waits : AreWaits channels q capacities s.counts.items s.waits.items
