-- What a run answers: its ending, what its sinks took, its journal, and what is told of each channel.
use Rattle.std.specs.Prelude.{ℕ, ◌≡◌, ◌<◌, ◌≤◌, ◌+◌, ◌⊎◌, false, List, [], ℤ, None, Option, Result, Ok, Err, if◌then◌else◌, length, map, slice_index_or}
use Rattle.std.specs.List.{range_with_len}
use Rattle.csdf_model.specs.declared.parts.Kernel.TheVariants.{Sink}
use Rattle.csdf_analysis.specs.Acceptance.{Accepted}
use Rattle.csdf_core.specs.Headline.{KeepsOrder, KeepsCapacities, KeepsClosed, capacity_of}
use Rattle.csdf_core.specs.Moves.{Move}
use Rattle.csdf_core.specs.Plan.{HasAmpleCells}
use Rattle.csdf_core.specs.Playable.{IsPlayable}
use Rattle.csdf_core.specs.State.{present, opening}
use Rattle.csdf_core.specs.Step.{IsQuiet, IsSettled, is_open, is_spent}
use Rattle.csdf_core.specs.Streams.{IsPrefix, initial, length_of, peak_of, tokens_taken, written_to}
use Rattle.csdf_floor.specs.declared.ending.Ending.{Ending}
use Rattle.csdf_floor.specs.declared.ending.Ending.TheVariants.{Complete, Stopped, Starved, Dry}
use Rattle.csdf_floor.specs.declared.outcome.ChannelReport.{ChannelReport}
use Rattle.csdf_floor.specs.declared.outcome.Outcome.{Outcome}
use Rattle.csdf_floor.specs.declared.fault.RunFault.{RunFault}
use Rattle.csdf_floor.specs.declared.fault.RunFault.TheVariants as fault
use Rattle.csdf_floor.specs.Endings.{IsEnding}
use Rattle.csdf_floor.specs.Floor.{FloorView, sink_of, sinks_of}
use Rattle.csdf_floor.specs.Journal.{Program, IsHonest, program_for, replies_to, state_of}
use Rattle.csdf_floor.specs.Laws.{AllSpent, AreAmple, taken_in, written_in}
use Rattle.csdf_floor.specs.Rooms.{AreInStep, DifferInRoom, GoInStep, GoesAsFar, IsNoRoomier}
use Rattle.csdf_floor.specs.Sequential.{IsSequential, sequential_sink, sequential_state}
use Rattle.csdf_floor.specs.Work.{Work, feeds_in, is_sink_kernel, program}

-- what is told of channel c at the end of a journal: how many tokens were written to it, beside its initial ones, taken from it and left in it; its greatest
-- length on the way; its capacity; and whether it is open
abbrev pub report_of : Program → List Move → ℕ → ChannelReport
report_of w journal c = record {
  written = length (written_to w.plan c journal (replies_to w journal));
  taken = length (tokens_taken w.plan c journal (replies_to w journal));
  held = length_of (state_of w journal) c;
  peak = peak_of w.plan (opening w.plan) c journal;
  capacity = capacity_of w.plan c;
  is_open = is_open (present (state_of w journal)) c;
}

-- the same of every channel, in file order
abbrev pub report_on : Program → List Move → List ChannelReport
report_on w journal = map (report_of w journal) (range_with_len 0 (length w.plan.channels))

-- a floor is at the end of this work: it is a floor of it, these are its counts, and it is quiet
pub record IsEndOf (f : FloorView) (w : Work) (totals : List ℕ) : Type 0 where
  pub work : f.work ≡ w
  pub counted : f.core.now.counts ≡ totals
  pub quiet : IsQuiet f.core.plan f.core.now

-- mixed exactly where the floor is not at the end of the work; else it is settled, or there is no memory
abbrev pub IsSettleAnswer : {T : Type 0} → Type 0 → Result T RunFault → Type 0
IsSettleAnswer end (Ok outcome) = end
IsSettleAnswer end (Err fault.Mixed) = end → ⊥
IsSettleAnswer end (Err fault.Memory) = end
IsSettleAnswer end (Err fault.Worker) = ⊥

-- ---- what an outcome keeps

abbrev pub journal_in : Outcome → List Move
journal_in o = o.journal.moves

abbrev pub HasHonestJournal : Program → Outcome → Type 0
HasHonestJournal w o = IsHonest w (journal_in o)

abbrev pub EndsSettled : Program → Outcome → Type 0
EndsSettled w o = IsSettled w.plan (present (state_of w (journal_in o)))

-- the tokens taken from a channel are a prefix of its initial tokens followed by those written to it, in order, at any time
abbrev pub TakesInOrder : Program → Outcome → Type 0
TakesInOrder w o = KeepsOrder w.plan (journal_in o) (replies_to w (journal_in o))

-- no channel holds more than its capacity, at any time
abbrev pub StaysWithinCapacities : Program → Outcome → Type 0
StaysWithinCapacities w o = KeepsCapacities w.plan (journal_in o) (replies_to w (journal_in o))

-- nothing is written to a channel once it is closed
abbrev pub LeavesClosedAlone : Program → Outcome → Type 0
LeavesClosedAlone w o = KeepsClosed w.plan (journal_in o) (replies_to w (journal_in o))

-- what each sink took is the replies to its reads, in order
abbrev pub TellsSinks : Program → Outcome → Type 0
TellsSinks w o = feeds_in o.sinks.items ≡ sinks_of w (journal_in o)

abbrev pub TellsReport : Program → Outcome → Type 0
TellsReport w o = o.report.items ≡ report_on w (journal_in o)

-- what each channel holds at the end
abbrev pub TellsLeft : Program → Outcome → Type 0
TellsLeft w o = feeds_in o.left.items ≡ (present (state_of w (journal_in o))).tokens

abbrev pub TellsEnding : Program → Outcome → Type 0
TellsEnding w o = IsEnding w.plan (present (state_of w (journal_in o))) o.ending

-- as many firings of each actor were finished
abbrev pub HasTotals : Program → Outcome → List ℕ → Type 0
HasTotals w o totals = (state_of w (journal_in o)).counts ≡ totals

-- ---- beside the sequential run

-- what a sink takes in the sequential run; nothing where the actor is none
abbrev pub sequential_list : Program → List ℕ → ℕ → List ℤ
sequential_list w actors a = if is_sink_kernel (slice_index_or w.kernels a Sink) then sequential_sink w a actors else []

abbrev pub sequential_lists : Program → List ℕ → List (List ℤ)
sequential_lists w actors = map (sequential_list w actors) (range_with_len 0 (length w.plan.sources))

-- what is told of channel c
abbrev pub report_at : Outcome → ℕ → ChannelReport
report_at o c = slice_index_or o.report.items c (record { written = 0; taken = 0; held = 0; peak = 0; capacity = 0; is_open = false })

-- sinks, channels and spent actors are those of the sequential run
pub record IsSequentialEnd (w : Program) (o : Outcome) (actors : List ℕ) : Type 0 where
  pub sinks : feeds_in o.sinks.items ≡ sequential_lists w actors
  pub written : (c : ℕ) → c < length w.plan.channels → length (initial w.plan c) + (report_at o c).written ≡ length (written_in (sequential_state w actors) c)
  pub taken : (c : ℕ) → c < length w.plan.channels → (report_at o c).taken ≡ taken_in (sequential_state w actors) c
  pub held : (c : ℕ) → c < length w.plan.channels → (report_at o c).held ≡ length_of (sequential_state w actors) c
  pub spent : (a : ℕ) → is_spent w.plan (present (state_of w (journal_in o))) a ≡ is_spent w.plan (present (sequential_state w actors)) a

-- sinks and channels are not beyond the sequential run
pub record IsBeforeSequentialEnd (w : Program) (o : Outcome) (actors : List ℕ) : Type 0 where
  pub sinks : (a : ℕ) → a < length w.plan.sources → IsPrefix (slice_index_or (feeds_in o.sinks.items) a []) (sequential_list w actors a)
  pub written : (c : ℕ) → c < length w.plan.channels → length (initial w.plan c) + (report_at o c).written ≤ length (written_in (sequential_state w actors) c)
  pub taken : (c : ℕ) → c < length w.plan.channels → (report_at o c).taken ≤ taken_in (sequential_state w actors) c

abbrev pub IsEndBeside : Program → Outcome → List ℕ → Ending → Type 0
IsEndBeside w o actors Complete = IsSequentialEnd w o actors
IsEndBeside w o actors Dry = IsSequentialEnd w o actors
IsEndBeside w o actors Stopped = IsBeforeSequentialEnd w o actors
IsEndBeside w o actors Starved = IsBeforeSequentialEnd w o actors

-- whoever made the firings, and in whatever order: the outcome is that of the sequential run, or before its end where it was held back
abbrev pub IsAsSequentialRun : Program → Outcome → Type 0
IsAsSequentialRun w o = (actors : List ℕ) → IsSequential w actors → IsEndBeside w o actors o.ending

-- ---- beside a run in other room

-- the sinks are those of this journal, and as many tokens were written to each channel, taken from it and left in it
pub record EndsAsJournal (w : Program) (o : Outcome) (v : Program) (journal : List Move) : Type 0 where
  pub sinks : feeds_in o.sinks.items ≡ sinks_of v journal
  pub written : (c : ℕ) → c < length w.plan.channels → (report_at o c).written ≡ (report_of v journal c).written
  pub taken : (c : ℕ) → c < length w.plan.channels → (report_at o c).taken ≡ (report_of v journal c).taken
  pub held : (c : ℕ) → c < length w.plan.channels → (report_at o c).held ≡ (report_of v journal c).held

-- beside an honest journal of the same work in other room: of what each sink took one is a front of the other, and so of what was written to each channel;
-- where both are complete they end alike; and where the run had no less room, and neither the limit on all firings nor want of cells held it back, it went as far
pub record IsAsInRoom (w : Program) (o : Outcome) (v : Program) (journal : List Move) : Type 0 where
  pub sinks : (a : ℕ) → a < length w.plan.sources → AreInStep (slice_index_or (feeds_in o.sinks.items) a []) (sink_of v journal a)
  pub in_step : GoInStep w v (journal_in o) journal
  pub complete : o.ending ≡ Complete → AllSpent v.plan (present (state_of v journal)) → EndsAsJournal w o v journal
  pub as_far : IsNoRoomier v w → (o.ending ≡ Complete) ⊎ (o.ending ≡ Dry) → GoesAsFar v w journal (journal_in o)

-- whatever the capacities, the number of cells and the limit on all firings
abbrev pub IsAsInAnyRoom : Program → Outcome → Type 0
IsAsInAnyRoom w o = (v : Program) (journal : List Move) → DifferInRoom w v → IsPlayable v.plan → IsHonest v journal → IsAsInRoom w o v journal

-- with files that are long enough, no limit on all firings and as many cells as the capacities add up to, every actor makes all its firings
abbrev pub CompletesWhereAmple : Accepted → List (List ℤ) → ℕ → Option ℕ → Outcome → Type 0
CompletesWhereAmple a feeds periods firings o =
    AreAmple a feeds periods → firings ≡ None → HasAmpleCells (program_for a feeds periods firings).plan → o.ending ≡ Complete

-- all of this
pub record IsOutcome (w : Work) (o : Outcome) : Type 0 where
  pub honest : HasHonestJournal (program w) o
  pub settled : EndsSettled (program w) o
  pub order : TakesInOrder (program w) o
  pub capacities : StaysWithinCapacities (program w) o
  pub closing : LeavesClosedAlone (program w) o
  pub sinks : TellsSinks (program w) o
  pub report : TellsReport (program w) o
  pub left : TellsLeft (program w) o
  pub ending : TellsEnding (program w) o
  pub sequential : IsAsSequentialRun (program w) o
  pub rooms : IsAsInAnyRoom (program w) o
  pub complete : CompletesWhereAmple w.accepted w.feeds w.periods w.firings o
