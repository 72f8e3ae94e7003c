-- Laws of room: what the capacities, the number of cells and the limit on all firings can't change.
use Rattle.std.specs.Prelude.{ℕ, ◌≡◌, ◌≤◌, ◌⊎◌, List, ℤ, Option, None, length, map}
use Rattle.csdf_floor.specs.Work.{HasFewFirings}
use Rattle.std.specs.List.{zip, AllByRecursion, AllZip}
use Rattle.csdf_core.specs.Moves.{Move}
use Rattle.csdf_core.specs.Plan.{Channel}
use Rattle.csdf_core.specs.Playable.{IsPlayable}
use Rattle.csdf_core.specs.State.{present}
use Rattle.csdf_core.specs.Step.{count}
use Rattle.csdf_core.specs.Streams.{IsPrefix, written_to, tokens_taken, length_of}
use Rattle.csdf_model.specs.Graph.{Channel as GraphChannel, Graph}
use Rattle.csdf_analysis.specs.Acceptance.{Accepted, IsAccepted}
use Rattle.csdf_analysis.specs.Laws.{IsWithinAll}
use Rattle.csdf_floor.specs.Journal.{Program, program_for, IsHonest, state_of, replies_to, sink_tokens}
use Rattle.csdf_floor.specs.Laws.{AreAlike, AllSpent, IsExhausted, IsFront, begun, written_in}

-- of two lists one is a front of the other
abbrev pub AreInStep : List ℤ → List ℤ → Type 0
AreInStep xs ys = IsPrefix xs ys ⊎ IsPrefix ys xs

-- two journals are in step: of what they wrote to each channel one is a front of the other, and so of what each sink took
pub record GoInStep (v w : Program) (one two : List Move) : Type 0 where
  pub streams : (c : ℕ) → AreInStep (written_in (state_of v one) c) (written_in (state_of w two) c)
  pub sinks : (t : ℕ) → AreInStep (sink_tokens t one (replies_to v one)) (sink_tokens t two (replies_to w two))

-- two honest journals of the same work are in step, however far each has come
abbrev pub StayInStep : Type 0
StayInStep = (v w : Program) (one two : List Move) → AreAlike v w → IsHonest v one → IsHonest w two → GoInStep v w one two

-- the same work and the same limits of the actors: what may differ is capacities, the number of cells and the limit on all firings
pub record DifferInRoom (v w : Program) : Type 0 where
  pub alike : AreAlike v w
  pub limits : v.plan.limits ≡ w.plan.limits

-- two journals end alike: the counts, the streams of all channels, and what each sink took are the same
pub record EndAlike (v w : Program) (one two : List Move) : Type 0 where
  pub counts : (state_of v one).counts ≡ (state_of w two).counts
  pub streams : (state_of v one).streams ≡ (state_of w two).streams
  pub sinks : (t : ℕ) → sink_tokens t one (replies_to v one) ≡ sink_tokens t two (replies_to w two)

-- as many tokens were written to each channel, taken from it and left in it
pub record CountAlike (v w : Program) (one two : List Move) : Type 0 where
  pub written : (c : ℕ) → length (written_to v.plan c one (replies_to v one)) ≡ length (written_to w.plan c two (replies_to w two))
  pub taken : (c : ℕ) → length (tokens_taken v.plan c one (replies_to v one)) ≡ length (tokens_taken w.plan c two (replies_to w two))
  pub held : (c : ℕ) → length_of (state_of v one) c ≡ length_of (state_of w two) c

-- capacities don't show: two honest journals that both end with every actor spent end alike
abbrev pub CapacitiesDoNotShow : Type 0
CapacitiesDoNotShow =
    (v w : Program) (one two : List Move) → DifferInRoom v w → IsHonest v one → IsHonest w two
    → AllSpent v.plan (present (state_of v one)) → AllSpent w.plan (present (state_of w two)) → EndAlike v w one two

abbrev pub CapacitiesDoNotCount : Type 0
CapacitiesDoNotCount =
    (v w : Program) (one two : List Move) → DifferInRoom v w → IsPlayable v.plan → IsPlayable w.plan → IsHonest v one → IsHonest w two
    → AllSpent v.plan (present (state_of v one)) → AllSpent w.plan (present (state_of w two)) → CountAlike v w one two

-- the first channel may hold no more than the second
abbrev pub HoldsNoMore : Channel → Channel → Type 0
HoldsNoMore c d = c.capacity ≤ d.capacity

-- they differ in room, and no channel has more of it in the first
pub record IsNoRoomier (v w : Program) : Type 0 where
  pub differ : DifferInRoom v w
  pub supplies : v.plan.supplies ≡ w.plan.supplies
  pub capacities : AllZip HoldsNoMore v.plan.channels w.plan.channels

-- the second journal has finished every firing that the first has begun; what the first wrote to each channel, and what each of its sinks took, are fronts of
-- what the second did; and the second is complete where the first is
pub record GoesAsFar (v w : Program) (one two : List Move) : Type 0 where
  pub counts : (a : ℕ) → begun (state_of v one) a ≤ count (present (state_of w two)) a
  pub streams : AllByRecursion IsFront (zip (state_of v one).streams (state_of w two).streams)
  pub sinks : (t : ℕ) → IsPrefix (sink_tokens t one (replies_to v one)) (sink_tokens t two (replies_to w two))
  pub spent : AllSpent v.plan (present (state_of v one)) → AllSpent w.plan (present (state_of w two))

-- more room goes as far: a journal that ends with every actor idle and none able to go has gone as far as any with no more room
abbrev pub MoreRoomGoesAsFar : Type 0
MoreRoomGoesAsFar =
    (v w : Program) (one two : List Move) → IsNoRoomier v w → IsHonest v one → IsHonest w two → IsExhausted w.plan (present (state_of w two))
    → GoesAsFar v w one two

-- a graph without the capacities of its channels and the number of cells
abbrev pub without_room : Graph → Graph
without_room g = record { actors = g.actors; channels = map (λ (c : GraphChannel). record c { capacity = None }) g.channels; cells = None }

-- two journals of one graph in two rooms: they are in step; where both are complete they end alike; and where no capacity is less in the second, and it ends with
-- no actor able to go, it has gone as far as the first
pub record IsRoomOutcome (a b : Accepted) (v w : Program) (one two : List Move) : Type 0 where
  pub in_step : GoInStep v w one two
  pub same : AllSpent v.plan (present (state_of v one)) → AllSpent w.plan (present (state_of w two)) → EndAlike v w one two × CountAlike v w one two
  pub as_far : IsWithinAll a.capacities b.capacities → IsExhausted w.plan (present (state_of w two)) → GoesAsFar v w one two

-- room doesn't show: this holds of accepted graphs that differ in capacities and the number of cells alone, over the same files and for as many periods
abbrev pub RoomDoesNotShow : Type 0
RoomDoesNotShow =
    (a b : Accepted) (feeds : List (List ℤ)) (periods : ℕ) (firings others : Option ℕ) (one two : List Move) → IsAccepted a → IsAccepted b
    → without_room a.graph ≡ without_room b.graph → HasFewFirings a periods
    → IsHonest (program_for a feeds periods firings) one → IsHonest (program_for b feeds periods others) two
    → IsRoomOutcome a b (program_for a feeds periods firings) (program_for b feeds periods others) one two
