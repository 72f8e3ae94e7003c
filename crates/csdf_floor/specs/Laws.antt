-- Laws of journals: what the order in which actors fire can't change.
use Rattle.std.specs.Prelude.{ℕ, ◌≡◌, ◌≢◌, ◌<◌, ◌≤◌, ◌⊎◌, true, List, ℤ, pos, Some, length, map, slice_index_or, ◌++◌, ◌+◌, slice_index, ◌∷◌, [], ◌*◌, None}
use Rattle.std.specs.Prelude.{Option}
use Rattle.csdf_floor.specs.Work.{HasFewFirings}
use Rattle.std.specs.List.{zip, AllByRecursion, AllZip}
use Rattle.csdf_core.specs.declared.stage.Stage.TheVariants.{Idle}
use Rattle.csdf_core.specs.declared.refusal.Refusal.TheVariants.{Stopped, NoCells}
use Rattle.csdf_core.specs.Moves.{Move}
use Rattle.csdf_core.specs.Moves.{Begin, Read, Write, Finish, Close}
use Rattle.csdf_core.specs.Plan.{Channel, Plan, HasAmpleCells}
use Rattle.csdf_analysis.specs.Acceptance.{Accepted, IsAccepted}
use Rattle.csdf_core.specs.Playable.{IsPlayable}
use Rattle.csdf_core.specs.State.{Stream, State, Present, present, opening}
use Rattle.csdf_core.specs.Step.{count, stage, refusal, is_spent, is_source, given, IsQuiet, after, state_after}
use Rattle.csdf_core.specs.Streams.{part, IsPrefix, initial, written_to, tokens_taken, length_of}
use Rattle.csdf_core.specs.Going.{CanGo, begun_at}
use Rattle.csdf_floor.specs.Journal.{Program, program_for, IsHonest, IsHonestMove, state_of, reads_of, replies_to, sink_tokens}
use Rattle.csdf_core.specs.Going.{CanGo}
use Rattle.csdf_floor.specs.Sequential.{IsStuck, IsSequential, sequential_moves, sequential_state, sequential_sink}

-- the actor whose move it is; a close is no actor's
abbrev pub IsMoveOf : ℕ → Move → Type 0
IsMoveOf a (Begin b) = b ≡ a
IsMoveOf a (Read b) = b ≡ a
IsMoveOf a (Write b v) = b ≡ a
IsMoveOf a (Finish b) = b ≡ a
IsMoveOf a (Close c) = ⊥

-- persistence: an idle actor that is neither spent, dry, short nor full stays so under the moves of others
abbrev pub Persists : Type 0
Persists =
    (plan : Plan) (moves : List Move) (m : Move) (a : ℕ) → (IsMoveOf a m → ⊥)
    → CanGo plan (present (state_after plan (opening plan) moves)) a
    → CanGo plan (present (after plan (state_after plan (opening plan) moves) m)) a

-- the firings of an actor that have begun
abbrev pub begun : State → ℕ → ℕ
begun s a = begun_at (stage (present s) a) (count (present s) a)

-- an honest journal begins no firing that the sequential run does not finish
abbrev pub BeginsNoMore : Type 0
BeginsNoMore =
    (w : Program) (journal : List Move) (actors : List ℕ) (a : ℕ) → IsHonest w journal → IsSequential w actors
    → begun (state_of w journal) a ≤ count (present (sequential_state w actors)) a

-- where it ends with every actor idle and spent, dry, short or full, it has finished every firing of the sequential run
pub record IsExhausted (plan : Plan) (p : Present) : Type 0 where
  pub idle : (a : ℕ) → a < length plan.sources → stage p a ≡ Idle
  pub stuck : IsStuck plan p

abbrev pub FinishesAll : Type 0
FinishesAll =
    (w : Program) (journal : List Move) (actors : List ℕ) (a : ℕ) → IsHonest w journal → IsSequential w actors
    → IsExhausted w.plan (present (state_of w journal))
    → count (present (sequential_state w actors)) a ≤ count (present (state_of w journal)) a

-- all tokens ever written to channel c
abbrev pub written_in : State → ℕ → List ℤ
written_in s c = part c (map (λ (stream : Stream). stream.written) s.streams)

-- how many tokens were taken from it
abbrev pub taken_in : State → ℕ → ℕ
taken_in s c = slice_index (map (λ (stream : Stream). stream.taken) s.streams) c

-- two channels that differ in capacity alone
pub record DifferInCapacity (c d : Channel) : Type 0 where
  pub from : c.from ≡ d.from
  pub to : c.to ≡ d.to
  pub produce : c.produce ≡ d.produce
  pub consume : c.consume ≡ d.consume
  pub initial : c.initial ≡ d.initial

-- the same work, whatever the capacities, the number of cells and the limits on firings
pub record AreAlike (v w : Program) : Type 0 where
  pub sources : v.plan.sources ≡ w.plan.sources
  pub channels : AllZip DifferInCapacity v.plan.channels w.plan.channels
  pub kernels : v.kernels ≡ w.kernels
  pub feeds : v.feeds ≡ w.feeds

-- agreement: two honest journals have the same token at every place of a channel that both have written
abbrev pub Agree : Type 0
Agree =
    (v w : Program) (one two : List Move) (c i : ℕ) → AreAlike v w → IsHonest v one → IsHonest w two
    → i < length (written_in (state_of v one) c) → i < length (written_in (state_of w two) c)
    → slice_index_or (written_in (state_of v one) c) i (pos 0) ≡ slice_index_or (written_in (state_of w two) c) i (pos 0)

-- a sequential run exists, and there is one only
abbrev pub HasSequentialRun : Type 0
HasSequentialRun = (w : Program) → length w.plan.limits ≡ length w.plan.sources → (actors : List ℕ) × IsSequential w actors

abbrev pub IsOnly : Type 0
IsOnly = (w : Program) (one two : List ℕ) → IsSequential w one → IsSequential w two → one ≡ two

-- the counts, the streams of all channels, and what each sink took are those of the sequential run
pub record IsAsSequential (w : Program) (journal : List Move) (actors : List ℕ) : Type 0 where
  pub counts : (state_of w journal).counts ≡ (sequential_state w actors).counts
  pub streams : (state_of w journal).streams ≡ (sequential_state w actors).streams
  pub sinks : (t : ℕ) → sink_tokens t journal (replies_to w journal) ≡ sequential_sink w t actors

-- they are fronts of these
abbrev pub IsFront : Stream × Stream → Type 0
IsFront pair = IsPrefix pair.0.written pair.1.written × (pair.0.taken ≤ pair.1.taken)

pub record IsWithinSequential (w : Program) (journal : List Move) (actors : List ℕ) : Type 0 where
  pub counts : (a : ℕ) → count (present (state_of w journal)) a ≤ count (present (sequential_state w actors)) a
  pub streams : AllByRecursion IsFront (zip (state_of w journal).streams (sequential_state w actors).streams)
  pub sinks : (t : ℕ) → IsPrefix (sink_tokens t journal (replies_to w journal)) (sequential_sink w t actors)

-- an honest journal stays within the sequential run
abbrev pub StaysWithin : Type 0
StaysWithin = (w : Program) (journal : List Move) (actors : List ℕ) → IsHonest w journal → IsSequential w actors → IsWithinSequential w journal actors

-- where it ends with every actor idle and spent, dry, short or full, it is as the sequential run
abbrev pub EndsAsSequential : Type 0
EndsAsSequential =
    (w : Program) (journal : List Move) (actors : List ℕ) → IsHonest w journal → IsSequential w actors
    → IsExhausted w.plan (present (state_of w journal)) → IsAsSequential w journal actors

-- every actor is spent
abbrev pub AllSpent : Plan → Present → Type 0
AllSpent plan p = (a : ℕ) → a < length plan.sources → is_spent plan p a ≡ true

-- no firing is refused for the limit on all firings or for want of cells
abbrev pub IsFree : Plan → Present → Type 0
IsFree plan p = (a : ℕ) → a < length plan.sources → (refusal plan p (Begin a) ≢ Some Stopped) × (refusal plan p (Begin a) ≢ Some NoCells)

-- an honest journal that ends quiet, with every actor spent or none held back, ends exhausted
abbrev pub QuietIsExhausted : Type 0
QuietIsExhausted =
    (w : Program) (journal : List Move) → IsHonest w journal
    → IsQuiet w.plan (present (state_of w journal))
    → AllSpent w.plan (present (state_of w journal)) ⊎ IsFree w.plan (present (state_of w journal))
    → IsExhausted w.plan (present (state_of w journal))

-- a journal stays honest by one more honest move
abbrev pub GoesOn : Type 0
GoesOn = (w : Program) (journal : List Move) (m : Move) → IsHonest w journal → IsHonestMove w (state_of w journal) (reads_of w journal) m
    → IsHonest w (journal ++ m ∷ [])

-- each front of an honest journal is one, and the move after it is honest there
abbrev pub IsHonestAtEach : Type 0
IsHonestAtEach = (w : Program) (front rest : List Move) (m : Move) → IsHonest w (front ++ m ∷ rest) → IsHonest w front
    × IsHonestMove w (state_of w front) (reads_of w front) m

-- the channels, in the words of the moves and their replies, and which actors are spent
pub record CountsAsSequential (w : Program) (journal : List Move) (actors : List ℕ) : Type 0 where
  pub written : (c : ℕ) → length (initial w.plan c) + length (written_to w.plan c journal (replies_to w journal))
      ≡ length (written_in (sequential_state w actors) c)
  pub taken : (c : ℕ) → length (tokens_taken w.plan c journal (replies_to w journal)) ≡ taken_in (sequential_state w actors) c
  pub held : (c : ℕ) → length_of (state_of w journal) c ≡ length_of (sequential_state w actors) c
  pub spent : (a : ℕ) → is_spent w.plan (present (state_of w journal)) a ≡ is_spent w.plan (present (sequential_state w actors)) a

abbrev pub EndsCounted : Type 0
EndsCounted =
    (w : Program) (journal : List Move) (actors : List ℕ) → IsPlayable w.plan → IsHonest w journal → IsSequential w actors
    → IsExhausted w.plan (present (state_of w journal)) → CountsAsSequential w journal actors

-- none of these numbers is above that of the sequential run
pub record CountsWithinSequential (w : Program) (journal : List Move) (actors : List ℕ) : Type 0 where
  pub written : (c : ℕ) → length (initial w.plan c) + length (written_to w.plan c journal (replies_to w journal))
      ≤ length (written_in (sequential_state w actors) c)
  pub taken : (c : ℕ) → length (tokens_taken w.plan c journal (replies_to w journal)) ≤ taken_in (sequential_state w actors) c

abbrev pub StaysCounted : Type 0
StaysCounted = (w : Program) (journal : List Move) (actors : List ℕ) → IsPlayable w.plan → IsHonest w journal → IsSequential w actors
    → CountsWithinSequential w journal actors

-- every source's file has the tokens of all firings of the periods
abbrev pub AreAmple : Accepted → List (List ℤ) → ℕ → Type 0
AreAmple a feeds periods =
    (i : ℕ) → is_source (program_for a feeds periods None).plan i ≡ true
    → given (program_for a feeds periods None).plan i (periods * slice_index a.q i) ≤ length (slice_index_or feeds i [])

-- where the files are long enough every actor is spent at the end of the sequential run
abbrev pub CompletesAll : Type 0
CompletesAll =
    (a : Accepted) (feeds : List (List ℤ)) (periods : ℕ) (firings : Option ℕ) (actors : List ℕ) → IsAccepted a → AreAmple a feeds periods
    → IsSequential (program_for a feeds periods firings) actors
    → AllSpent (program_for a feeds periods firings).plan (present (sequential_state (program_for a feeds periods firings) actors))

-- where, beside, no limit on all firings is given and there are as many cells as the capacities add up to, an honest journal that ends quiet ends with every
-- actor spent
abbrev pub EndsComplete : Type 0
EndsComplete =
    (a : Accepted) (feeds : List (List ℤ)) (periods : ℕ) (journal : List Move) → IsAccepted a → HasFewFirings a periods → AreAmple a feeds periods
    → HasAmpleCells (program_for a feeds periods None).plan → IsHonest (program_for a feeds periods None) journal
    → IsQuiet (program_for a feeds periods None).plan (present (state_of (program_for a feeds periods None) journal))
    → AllSpent (program_for a feeds periods None).plan (present (state_of (program_for a feeds periods None) journal))

-- with no limit on all firings, and as many cells as the capacities add up to, the sequential run is itself an honest journal
abbrev pub SequentialIsHonest : Type 0
SequentialIsHonest =
    (w : Program) (actors : List ℕ) → IsPlayable w.plan → w.plan.firings ≡ None → HasAmpleCells w.plan → IsSequential w actors
    → IsHonest w (sequential_moves w actors) × (state_of w (sequential_moves w actors) ≡ sequential_state w actors)

-- the order of firings doesn't show: an honest journal that ends quiet is as the sequential run, where every actor is spent or none is held back by the limit
-- on all firings or for want of cells; and it is within the sequential run in any case
pub record IsSequentialOutcome (w : Program) (journal : List Move) : Type 0 where
  pub actors : List ℕ
  pub sequential : IsSequential w actors
  pub same : AllSpent w.plan (present (state_of w journal)) ⊎ IsFree w.plan (present (state_of w journal)) → IsAsSequential w journal actors
      × CountsAsSequential w journal actors
  pub within : IsWithinSequential w journal actors × CountsWithinSequential w journal actors

abbrev pub OrderDoesNotShow : Type 0
OrderDoesNotShow =
    (a : Accepted) (feeds : List (List ℤ)) (periods : ℕ) (firings : Option ℕ) (journal : List Move) → IsAccepted a → HasFewFirings a periods
    → IsHonest (program_for a feeds periods firings) journal
    → IsQuiet (program_for a feeds periods firings).plan (present (state_of (program_for a feeds periods firings) journal))
    → IsSequentialOutcome (program_for a feeds periods firings) journal
