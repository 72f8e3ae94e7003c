-- A run that goes on, segment after segment: each begins with the tokens that the channels hold at the end of the one before.
use Rattle.std.specs.Prelude.{ℕ, ◌≡◌, ◌==◌, ◌<◌, ◌+◌, ◌*◌, true, if◌then◌else◌, List, [], ◌∷◌, ◌++◌, ◌≤◌, ℤ, Option, None, length, sum, sum_by, slice_index, slice_index_or}
use Rattle.csdf_analysis.specs.Acceptance.{Accepted, IsAccepted, cells_of}
use Rattle.csdf_analysis.specs.Continued.{continued}
use Rattle.csdf_model.specs.Graph.{Channel}
use Rattle.csdf_model.specs.Holding.{HaveAsMany}
use Rattle.csdf_model.specs.Rates.{produced}
use Rattle.csdf_core.specs.declared.stage.Stage.TheVariants.{Idle}
use Rattle.csdf_core.specs.Moves.{Move}
use Rattle.csdf_core.specs.Rows.{joined}
use Rattle.csdf_core.specs.State.{State, present}
use Rattle.csdf_core.specs.Step.{stage, given, is_source}
use Rattle.csdf_core.specs.Streams.{IsPrefix}
use Rattle.csdf_floor.specs.Journal.{Program, program_for, IsHonest, state_of, replies_to, sink_tokens}
use Rattle.csdf_floor.specs.declared.ending.Ending.TheVariants.{Complete}
use Rattle.csdf_floor.specs.declared.outcome.Outcome.{Outcome}
use Rattle.csdf_floor.specs.Laws.{AllSpent, IsExhausted}
use Rattle.csdf_floor.specs.Outcome.{IsOutcome, journal_in}
use Rattle.csdf_floor.specs.Work.{AreFeeds, HasFewFirings, Work}
use Rattle.csdf_floor.specs.Sequential.{IsSequential, sequential_state, sequential_sink}

-- every source's file has the tokens of all firings of the periods, and no more
abbrev pub AreExact : Accepted → List (List ℤ) → ℕ → Type 0
AreExact a feeds periods =
    (i : ℕ) → is_source (program_for a feeds periods None).plan i ≡ true
    → length (slice_index_or feeds i []) ≡ given (program_for a feeds periods None).plan i (periods * slice_index a.q i)

-- how many tokens the first n firings of an actor put into these channels
abbrev pub given_to : ℕ → ℕ → Channel → ℕ
given_to a n c = if c.from == a then produced c n else 0

abbrev pub given_in : List Channel → ℕ → ℕ → ℕ
given_in channels a n = sum_by (given_to a n) channels

-- ---- one segment

-- the contents of the sources' files, how many periods, a limit on all its firings where there is one, and what was written down
pub record Segment : Type 0 where
  pub feeds : List (List ℤ)
  pub periods : ℕ
  pub firings : Option ℕ
  pub journal : List Move

abbrev pub program_of : Accepted → Segment → Program
program_of a g = program_for a g.feeds g.periods g.firings

abbrev pub end_of : Accepted → Segment → State
end_of a g = state_of (program_of a g) g.journal

abbrev pub sink_in : Accepted → ℕ → Segment → List ℤ
sink_in a t g = sink_tokens t g.journal (replies_to (program_of a g) g.journal)

-- what the channels hold at its end
abbrev pub left_by : Accepted → Segment → List (List ℤ)
left_by a g = (present (end_of a g)).tokens

-- the graph that goes on from there
abbrev pub beyond : Accepted → Segment → Accepted
beyond a g = continued (left_by a g) a

-- its journal is honest, and it has a list of tokens for each actor
pub record IsPlayed (a : Accepted) (g : Segment) : Type 0 where
  pub honest : IsHonest (program_of a g) g.journal
  pub each_actor : length g.feeds ≡ length a.graph.actors

-- it is played whole: it uses up the files, and at its end every actor is spent and idle
pub record IsWhole (a : Accepted) (g : Segment) : Type 0 where
  pub played : IsPlayed a g
  pub exact : AreExact a g.feeds g.periods
  pub spent : AllSpent (program_of a g).plan (present (end_of a g))
  pub idle : (i : ℕ) → i < length (program_of a g).plan.sources → stage (present (end_of a g)) i ≡ Idle

-- then each channel holds as many tokens as it began with; and the graph that goes on is accepted too, with as many cells and the same capacities
pub record IsLeftAsFound (a : Accepted) (g : Segment) : Type 0 where
  pub as_many : HaveAsMany (left_by a g) a.graph.channels
  pub accepted : IsAccepted (beyond a g)
  pub capacities : (beyond a g).capacities ≡ a.capacities
  pub cells : cells_of (beyond a g) ≡ cells_of a

abbrev pub LeavesAsFound : Type 0
LeavesAsFound = (a : Accepted) (g : Segment) → IsAccepted a → IsWhole a g → IsLeftAsFound a g

-- any number of periods can be played whole, where the cells are ample and the files have their tokens
abbrev pub CanBePlayedWhole : Type 0
CanBePlayedWhole =
    (a : Accepted) (feeds : List (List ℤ)) (periods : ℕ) → IsAccepted a → sum a.capacities ≤ cells_of a → length feeds ≡ length a.graph.actors
    → AreExact a feeds periods → (journal : List Move) × IsWhole a (record { feeds = feeds; periods = periods; firings = None; journal = journal })

-- the segment that an outcome is of
abbrev pub segment_in : Work → Outcome → Segment
segment_in w o = record { feeds = w.feeds; periods = w.periods; firings = w.firings; journal = journal_in o }

-- a run that ends complete, over files that hold what it takes and no more, is one that is played whole
abbrev pub CompleteIsWhole : Type 0
CompleteIsWhole =
    (w : Work) (o : Outcome) → length w.feeds ≡ length w.accepted.graph.actors → AreExact w.accepted w.feeds w.periods → IsOutcome w o
    → o.ending ≡ Complete → IsWhole w.accepted (segment_in w o)

-- ---- several

-- one after the other, and then the last: all but it are played whole
abbrev pub AreContinued : Accepted → List Segment → Segment → Type 0
AreContinued a [] last = IsPlayed a last
AreContinued a (g ∷ more) last = IsWhole a g × AreContinued (beyond a g) more last

-- put end to end: their files, source by source, and their periods; the long run has no limit on all firings
abbrev pub feeds_of : List Segment → Segment → List (List ℤ)
feeds_of [] last = last.feeds
feeds_of (g ∷ more) last = joined g.feeds (feeds_of more last)

abbrev pub periods_of : List Segment → Segment → ℕ
periods_of [] last = last.periods
periods_of (g ∷ more) last = g.periods + periods_of more last

-- the one long run
abbrev pub long_run : Accepted → List Segment → Segment → Program
long_run a more last = program_for a (feeds_of more last) (periods_of more last) None

-- what a sink takes in all of them
abbrev pub sink_in_all : Accepted → ℕ → List Segment → Segment → List ℤ
sink_in_all a t [] last = sink_in a t last
sink_in_all a t (g ∷ more) last = sink_in a t g ++ sink_in_all (beyond a g) t more last

-- the graph that the last one plays
abbrev pub at_last : Accepted → List Segment → Accepted
at_last a [] = a
at_last a (g ∷ more) = at_last (beyond a g) more

-- what each sink took, and what the channels hold, are those of the sequential run
pub record EndsAsOne (a : Accepted) (more : List Segment) (last : Segment) (actors : List ℕ) : Type 0 where
  pub sinks : (t : ℕ) → sink_in_all a t more last ≡ sequential_sink (long_run a more last) t actors
  pub left : left_by (at_last a more) last ≡ (present (sequential_state (long_run a more last) actors)).tokens

-- what each sink took is a front of what it takes in the sequential run of the long one; and it is all of it where the last segment is exhausted
pub record IsAsOne (a : Accepted) (more : List Segment) (last : Segment) (actors : List ℕ) : Type 0 where
  pub within : (t : ℕ) → IsPrefix (sink_in_all a t more last) (sequential_sink (long_run a more last) t actors)
  pub ends : IsExhausted (program_of (at_last a more) last).plan (present (end_of (at_last a more) last)) → EndsAsOne a more last actors

-- segments are one run: a run of any length may be played in segments, each in the memory of one
abbrev pub SegmentsAreOneRun : Type 0
SegmentsAreOneRun =
    (a : Accepted) (more : List Segment) (last : Segment) (actors : List ℕ) → IsAccepted a → AreContinued a more last
    → IsSequential (long_run a more last) actors → IsAsOne a more last actors

-- ---- one more

-- each is played whole, on the graph that goes on from the one before
abbrev pub AreWhole : Accepted → List Segment → Type 0
AreWhole a [] = Unit {0}
AreWhole a (g ∷ more) = IsWhole a g × AreWhole (beyond a g) more

-- the graph that goes on from segments that are played whole is accepted, with as many cells and the same capacities; any segment that is played on it is
-- continued; and where that one is played whole too, all are, and the graph goes on from it; sinks take in all of them what they took before, and then what they
-- take in the last
pub record GoesOnSo (a : Accepted) (past : List Segment) : Type 0 where
  pub accepted : IsAccepted (at_last a past)
  pub capacities : (at_last a past).capacities ≡ a.capacities
  pub cells : cells_of (at_last a past) ≡ cells_of a
  pub continued : (g : Segment) → IsPlayed (at_last a past) g → AreContinued a past g
  pub whole : (g : Segment) → IsWhole (at_last a past) g → AreWhole a (past ++ g ∷ [])
  pub goes : (g : Segment) → at_last a (past ++ g ∷ []) ≡ beyond (at_last a past) g
  pub sinks : (g next : Segment) (t : ℕ)
      → sink_in_all a t (past ++ g ∷ []) next ≡ sink_in_all a t past g ++ sink_in (beyond (at_last a past) g) t next

abbrev pub GoesOnBySegments : Type 0
GoesOnBySegments = (a : Accepted) (past : List Segment) → IsAccepted a → AreWhole a past → GoesOnSo a past

-- what is asked of the files, and how many periods may be run, are those of the first graph
pub record AsksAsAtFirst (a : Accepted) (past : List Segment) : Type 0 where
  pub exact : (feeds : List (List ℤ)) (periods : ℕ) → AreExact a feeds periods → AreExact (at_last a past) feeds periods
  pub fed : (feeds : List (List ℤ)) → AreFeeds a.graph feeds → AreFeeds (at_last a past).graph feeds
  pub few_firings : (periods : ℕ) → HasFewFirings a periods → HasFewFirings (at_last a past) periods

abbrev pub AskAsAtFirst : Type 0
AskAsAtFirst = (a : Accepted) (past : List Segment) → IsAccepted a → AreWhole a past → AsksAsAtFirst a past
