-- An honest journal: what a run, of however many threads, may have written down.
use Rattle.std.specs.Prelude.{ℕ, suc, ◌≡◌, ◌==◌, true, List, [], ◌∷◌, ◌++◌, ℤ, None, Ok, Err, if◌then◌else◌, length, map, filter, replicate, slice_index_or}
use Rattle.std.specs.Prelude.{slice_set, ◌*◌, Option, slice_range}
use Rattle.csdf_model.specs.declared.parts.Kernel.{Kernel}
use Rattle.csdf_model.specs.declared.parts.Kernel.TheVariants.{Sink}
use Rattle.csdf_model.specs.Graph.{Actor}
use Rattle.csdf_analysis.specs.Acceptance.{Accepted}
use Rattle.csdf_kernel.specs.Value.{value_of}
use Rattle.csdf_core.specs.declared.stage.Stage.TheVariants.{Idle}
use Rattle.csdf_core.specs.Moves.{Move}
use Rattle.csdf_core.specs.Moves.{Begin, Read, Write, Finish, Close}
use Rattle.csdf_core.specs.Plan.{Channel, Plan, gives_of}
use Rattle.csdf_core.specs.Planned.{plan_for}
use Rattle.csdf_core.specs.State.{State, present, opening}
use Rattle.csdf_core.specs.Step.{Reply, count, stage, given, is_source, is_over, producer, refusal, answer, after, replies_of, state_after}

-- what is run: the plan of a core, each actor's kernel, and the tokens in each source's file
pub record Program : Type 0 where
  pub plan : Plan
  pub kernels : List Kernel
  pub feeds : List (List ℤ)

-- so many periods of an accepted graph over the contents of its sources' files
abbrev pub program_for : Accepted → List (List ℤ) → ℕ → Option ℕ → Program
program_for a feeds periods firings = record {
  plan = plan_for a (map (λ q. periods * q) a.q) (map length feeds) firings;
  kernels = map (λ (actor : Actor). actor.kernel) a.graph.actors;
  feeds = feeds;
}

-- how many tokens firing number k of the actor writes to each of its outputs, in file order
abbrev pub output_counts : Program → ℕ → ℕ → List ℕ
output_counts w a k = map (gives_of a k) (filter (λ (channel : Channel). channel.from == a) w.plan.channels)

-- what the firing computes from: the tokens that it read, or for a source the next part of its file
abbrev pub inputs : Program → ℕ → ℕ → List ℤ → List ℤ
inputs w a k read =
    if is_source w.plan a
    then slice_range (slice_index_or w.feeds a []) (given w.plan a k) (given w.plan a (suc k))
    else read

-- what the firing writes: the kernel's value
unfoldable pub value : Program → ℕ → ℕ → List ℤ → List ℤ
value w a k read = value_of (slice_index_or w.kernels a Sink) (output_counts w a k) (inputs w a k read)

-- the reply to the last read of each actor, once a move is accepted
abbrev pub reads_after : Plan → State → List (List ℤ) → Move → List (List ℤ)
reads_after plan s reads (Read a) = slice_set reads a (answer plan (present s) (Read a))
reads_after plan s reads (Begin a) = reads
reads_after plan s reads (Write a v) = reads
reads_after plan s reads (Finish a) = reads
reads_after plan s reads (Close c) = reads

-- a write carries the kernel's value of what its firing read, and a close stands where the producer is idle and makes no firing more
abbrev pub IsJust : Program → State → List (List ℤ) → Move → Type 0
IsJust w s reads (Write a v) = v ≡ value w a (count (present s) a) (slice_index_or reads a [])
IsJust w s reads (Close c) = (stage (present s) (producer w.plan c) ≡ Idle) × (is_over w.plan (present s) (producer w.plan c) ≡ true)
IsJust w s reads (Begin a) = Unit {0}
IsJust w s reads (Read a) = Unit {0}
IsJust w s reads (Finish a) = Unit {0}

-- the move is accepted and just
pub record IsHonestMove (w : Program) (s : State) (reads : List (List ℤ)) (m : Move) : Type 0 where
  pub accepted : refusal w.plan (present s) m ≡ None
  pub just : IsJust w s reads m

-- from this state on, with these last reads, each move is honest where it stands
abbrev pub IsHonestFrom : Program → State → List (List ℤ) → List Move → Type 0
IsHonestFrom w s reads [] = Unit {0}
IsHonestFrom w s reads (m ∷ moves) = IsHonestMove w s reads m × IsHonestFrom w (after w.plan s m) (reads_after w.plan s reads m) moves

-- no actor has read anything
abbrev pub no_reads : Plan → List (List ℤ)
no_reads plan = replicate (length plan.sources) []

-- the last reads after a list of moves
abbrev pub reads_from : Plan → State → List (List ℤ) → List Move → List (List ℤ)
reads_from plan s reads [] = reads
reads_from plan s reads (m ∷ moves) = reads_from plan (after plan s m) (reads_after plan s reads m) moves

-- an honest journal
abbrev pub IsHonest : Program → List Move → Type 0
IsHonest w journal = IsHonestFrom w (opening w.plan) (no_reads w.plan) journal

-- the state that a journal leads to, the last reads there, and the replies to its moves
abbrev pub state_of : Program → List Move → State
state_of w journal = state_after w.plan (opening w.plan) journal

abbrev pub reads_of : Program → List Move → List (List ℤ)
reads_of w journal = reads_from w.plan (opening w.plan) (no_reads w.plan) journal

abbrev pub replies_to : Program → List Move → List Reply
replies_to w journal = replies_of w.plan (opening w.plan) journal

-- the tokens that the actor took, from a list of moves and its replies: the replies to all its accepted reads, put end to end
abbrev pub took : ℕ → Move → Reply → List ℤ
took a (Read b) (Ok tokens) = if b == a then tokens else []
took a (Read b) (Err why) = []
took a (Begin b) reply = []
took a (Write b v) reply = []
took a (Finish b) reply = []
took a (Close c) reply = []

abbrev pub sink_tokens : ℕ → List Move → List Reply → List ℤ
sink_tokens a [] replies = []
sink_tokens a (m ∷ moves) [] = []
sink_tokens a (m ∷ moves) (r ∷ replies) = took a m r ++ sink_tokens a moves replies
