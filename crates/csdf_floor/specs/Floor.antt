-- What a floor keeps: what is run, the core, the journal of its moves and what the sinks took.
use Rattle.std.specs.Prelude.{ℕ, ◌≡◌, ◌==◌, ◌<◌, ◌≤◌, ◌&&◌, ◌⊎◌, not, Bool, if◌then◌else◌, List, [], ◌∷◌, ◌++◌, ℤ, Option, Some, None}
use Rattle.std.specs.Prelude.{Result, Ok, Err, All, length, map, filter, slice_index, slice_index_or, option_map}
use Rattle.std.specs.List.{range_with_len}
use Rattle.csdf_model.specs.declared.limits.TheConstants.{MAX_CHANNELS, MAX_TOKENS_PER_FIRING, MAX_TOTAL_PER_FIRING}
use Rattle.csdf_model.specs.declared.parts.Kernel.{Kernel}
use Rattle.csdf_model.specs.declared.parts.Kernel.TheVariants.{Sink}
use Rattle.csdf_kernel.specs.declared.Job.{Job}
use Rattle.csdf_kernel.specs.Value.{value_of, HasFilterInRange}
use Rattle.csdf_core.specs.declared.stage.Stage.TheVariants.{Idle, Fetched}
use Rattle.csdf_core.specs.Moves.{Move}
use Rattle.csdf_core.specs.Moves.{Begin, Write, Finish, Close}
use Rattle.csdf_core.specs.Plan.{Plan}
use Rattle.csdf_core.specs.Ports.{outputs_at}
use Rattle.csdf_core.specs.State.{Present, present, opening}
use Rattle.csdf_core.specs.Step.{count, stage, is_stage, is_open, is_over, exists, producer, refusal}
use Rattle.csdf_core.specs.Shows.{View, Shows}
use Rattle.csdf_core.specs.Streams.{peak_of}
use Rattle.csdf_floor.specs.declared.fault.DeliverFault.{DeliverFault}
use Rattle.csdf_floor.specs.declared.fault.DeliverFault.TheVariants as fault
use Rattle.csdf_floor.specs.declared.fault.StartFault.{StartFault}
use Rattle.csdf_floor.specs.declared.fault.StartFault.TheVariants.{Unknown, Moved, Refused, Memory}
use Rattle.csdf_floor.specs.Journal.{Program, IsHonest, state_of, reads_of, replies_to, inputs, output_counts, sink_tokens}
use Rattle.csdf_floor.specs.Work.{Work, IsWork, program, is_sink_kernel}

-- what contracts see of a floor; its journal is all moves that were made, whether it keeps them as data or not
pub record FloorView : Type 0 where
  pub work : Work
  pub core : View
  pub journal : List Move
  pub keeps : Bool
  pub sinks : List (List ℤ)

-- the core plays the program, the journal is honest, and the core shows the state that it leads to
pub record IsKept (w : Program) (core : View) (journal : List Move) : Type 0 where
  pub plan : core.plan ≡ w.plan
  pub honest : IsHonest w journal
  pub shows : Shows core (state_of w journal)

-- what an actor took, where it is a sink
abbrev pub sink_of : Program → List Move → ℕ → List ℤ
sink_of w journal a = if is_sink_kernel (slice_index_or w.kernels a Sink) then sink_tokens a journal (replies_to w journal) else []

-- the same of every actor
abbrev pub sinks_of : Program → List Move → List (List ℤ)
sinks_of w journal = map (sink_of w journal) (range_with_len 0 (length w.plan.sources))

-- each peak is the greatest length on the way
abbrev pub ArePeaksOf : Program → List Move → List ℕ → Type 0
ArePeaksOf w journal peaks = (c : ℕ) → slice_index peaks c ≡ peak_of w.plan (opening w.plan) c journal

-- each actor is idle or has read, and a channel is closed exactly where its producer is idle and makes no firing more
pub record IsBetween (plan : Plan) (p : Present) : Type 0 where
  pub at : (a : ℕ) → a < length plan.sources → (stage p a ≡ Idle) ⊎ (stage p a ≡ Fetched)
  pub open_until_over : (c : ℕ) → c < length plan.channels → is_open p c ≡ not (is_stage (stage p (producer plan c)) Idle && is_over plan p (producer plan c))

-- what every floor keeps
pub record IsFloor (f : FloorView) : Type 0 where
  pub work : IsWork f.work
  pub kept : IsKept (program f.work) f.core f.journal
  pub peaks : ArePeaksOf (program f.work) f.journal f.core.peaks
  pub sinks : f.sinks ≡ sinks_of (program f.work) f.journal
  pub between : IsBetween f.core.plan f.core.now

-- a job without where it lies in memory
pub record Task : Type 0 where
  pub kernel : Kernel
  pub actor : ℕ
  pub firing : ℕ
  pub counts : List ℕ
  pub inputs : List ℤ

abbrev pub task_of : Job → Task
task_of job = record { kernel = job.kernel; actor = job.actor; firing = job.firing; counts = job.counts.items; inputs = job.inputs.items }

-- the task of the actor's present firing: its kernel, its counts, and what it computes from
abbrev pub present_task : FloorView → ℕ → Task
present_task f a = record {
  kernel = slice_index_or (program f.work).kernels a Sink;
  actor = a;
  firing = count f.core.now a;
  counts = output_counts (program f.work) a (count f.core.now a);
  inputs = inputs (program f.work) a (count f.core.now a) (slice_index_or (reads_of (program f.work) f.journal) a []);
}

-- it is the task of a firing that has read and not written
pub record IsUnderWay (f : FloorView) (task : Task) : Type 0 where
  pub exists : task.actor < length f.core.plan.sources
  pub has_read : stage f.core.now task.actor ≡ Fetched
  pub same : task ≡ present_task f task.actor

-- the first refusal of a start, memory aside
abbrev pub start_refusal : FloorView → ℕ → ℕ → Option StartFault
start_refusal f a k =
    if not (exists f.core.plan a) then Some Unknown
    else if not (count f.core.now a == k) then Some (Moved (count f.core.now a))
    else option_map Refused (refusal f.core.plan f.core.now (Begin a))

-- a start answers its first refusal where it has one; else it is made, or there is no memory
abbrev pub IsStartAnswer : {T : Type 0} → Option StartFault → Result T StartFault → Type 0
IsStartAnswer (Some why) result = result ≡ Err why
IsStartAnswer None (Ok job) = Unit {0}
IsStartAnswer None (Err why) = why ≡ Memory

-- these moves were made, and went to the end of the journal, which keeps them as before
pub record HasGone (old new : FloorView) (moves : List Move) : Type 0 where
  pub work : new.work ≡ old.work
  pub journal : new.journal ≡ old.journal ++ moves
  pub keeps : new.keeps ≡ old.keeps

-- the closes of those of the channels that are open and whose producer makes no firing more, in this order
abbrev pub closes : Plan → Present → List ℕ → List Move
closes plan p channels = map Close (filter (λ c. is_open p c && is_over plan p (producer plan c)) channels)

-- the last two moves of a firing
abbrev pub ending_of : Task → List Move
ending_of t = Write t.actor (value_of t.kernel t.counts t.inputs) ∷ Finish t.actor ∷ []

-- the closes that follow them
abbrev pub closes_after : FloorView → Task → List Move
closes_after f t = closes f.core.plan (present (state_of (program f.work) (f.journal ++ ending_of t))) (outputs_at f.core.plan.channels t.actor)

-- a delivery is refused where its job is not under way; else it is made, or there is no memory
abbrev pub IsDeliverAnswer : FloorView → Task → Result (Unit {0}) DeliverFault → Type 0
IsDeliverAnswer f task (Ok done) = IsUnderWay f task
IsDeliverAnswer f task (Err fault.Stranger) = IsUnderWay f task → ⊥
IsDeliverAnswer f task (Err fault.Memory) = IsUnderWay f task

-- the job can be evaluated
pub record IsReady (job : Job) : Type 0 where
  pub few_counts : length job.counts.items ≤ MAX_CHANNELS
  pub small_counts : All (λ n. n ≤ MAX_TOKENS_PER_FIRING) job.counts.items
  pub few_inputs : length job.inputs.items ≤ MAX_TOTAL_PER_FIRING
  pub filter_in_range : HasFilterInRange job.kernel
