-- Firings that are evaluated before they are made.
use Rattle.std.specs.Prelude.{ℕ, ◌≡◌, ◌+◌, ◌-◌, ◌*◌, ◌≤◌, Bool, false, List, ℤ, All, length, slice_index_or, sum}
use Rattle.csdf_model.specs.declared.limits.TheConstants.{MAX_CHANNELS, MAX_TOKENS_PER_FIRING, MAX_TOTAL_PER_FIRING}
use Rattle.csdf_model.specs.declared.parts.Kernel.{Kernel}
use Rattle.csdf_model.specs.declared.parts.Kernel.TheVariants.{Source, Sink, Copy, Sum, Fir}
use Rattle.csdf_kernel.specs.Loop.{loop_values}
use Rattle.csdf_kernel.specs.Value.{HasFilterInRange}
use Rattle.csdf_core.specs.declared.stage.Stage.TheVariants.{Idle}
use Rattle.csdf_core.specs.Blocks.{AreReadEach, HoldAll, needs_of, takes_at}
use Rattle.csdf_core.specs.Engine.{AreReadWith, CanFire}
use Rattle.csdf_core.specs.Moves.{Move}
use Rattle.csdf_core.specs.Ports.{inputs_at}
use Rattle.csdf_core.specs.Rows.{need}
use Rattle.csdf_core.specs.State.{present}
use Rattle.csdf_core.specs.Step.{count, stage}
use Rattle.csdf_floor.specs.Floor.{FloorView}
use Rattle.csdf_floor.specs.Journal.{IsHonest, Program, output_counts, state_of}
use Rattle.csdf_floor.specs.Making.{AreOwnValues, made_value}
use Rattle.csdf_floor.specs.Work.{is_sink_kernel, program}

-- so many firings of an actor, from this number on: their kernel, each with these counts, and how many tokens it reads: a state, which is empty where the actor
-- keeps none, before or after the next of the inputs, and then as many tokens behind the first few that the firing before wrote; and whether their values are
-- there: all else determines them
pub record DraftView : Type 0 where
  pub actor : ℕ
  pub firing : ℕ
  pub kernel : Kernel
  pub counts : List ℕ
  pub need : ℕ
  pub is_first : Bool
  pub before : ℕ
  pub firings : ℕ
  pub state : List ℤ
  pub inputs : List ℤ
  pub is_made : Bool

-- the values of its firings, end to end
abbrev pub values_in : DraftView → List ℤ
values_in d = loop_values d.kernel d.counts d.is_first (d.need - length d.state) d.before d.firings d.state d.inputs

-- the same firings, whether they were evaluated or not
abbrev pub IsSameDraft : DraftView → DraftView → Type 0
IsSameDraft d e =
    e ≡ record { actor = d.actor; firing = d.firing; kernel = d.kernel; counts = d.counts; need = d.need; is_first = d.is_first; before = d.before; firings = d.firings; state = d.state; inputs = d.inputs; is_made = e.is_made }

-- the firings can be evaluated
pub record IsSound (kernel : Kernel) (counts : List ℕ) (need before firings : ℕ) (state inputs : List ℤ) : Type 0 where
  pub few_counts : length counts ≤ MAX_CHANNELS
  pub small_counts : All (λ n. n ≤ MAX_TOKENS_PER_FIRING) counts
  pub few_inputs : need ≤ MAX_TOTAL_PER_FIRING
  pub filter_in_range : HasFilterInRange kernel
  pub window : length state ≤ need
  pub part : before + length state ≤ sum counts
  pub whole : firings * (need - length state) ≤ length inputs

-- after some honest journal, in which the actor stands idle at firing number k and can make n firings, v are the kernel's own values of these
pub record AreOwnIn (w : Program) (a k n : ℕ) (v : List ℤ) : Type 0 where
  pub journal : List Move
  pub honest : IsHonest w journal
  pub idle : stage (present (state_of w journal)) a ≡ Idle
  pub number : count (present (state_of w journal)) a ≡ k
  pub can : CanFire w.plan (present (state_of w journal)) a n
  pub tokens : List ℤ
  pub long : length tokens ≡ needs_of w.plan.channels a k n
  pub read : AreReadWith w.plan (present (state_of w journal)) a k n v tokens
  pub just : v ≡ made_value w a k n tokens

-- the draft is of the actor's firings from number k on. The actor is no sink
pub record IsDraftedAt (w : Program) (a k : ℕ) (d : DraftView) : Type 0 where
  pub no_sink : is_sink_kernel (slice_index_or w.kernels a Sink) ≡ false
  pub kernel : d.kernel ≡ slice_index_or w.kernels a Sink
  pub counts : d.counts ≡ output_counts w a k
  pub need : d.need ≡ need a k w.plan.channels
  pub long : length d.inputs ≡ d.firings * (d.need - length d.state)
  pub own : AreOwnIn w a k d.firings (values_in d)

-- the draft is of this work
abbrev pub IsDrafted : Program → DraftView → Type 0
IsDrafted w d = IsDraftedAt w d.actor d.firing d

-- the draft's firings are the actor's next ones, which it can make
pub record Suits (f : FloorView) (a : ℕ) (d : DraftView) : Type 0 where
  pub actor : d.actor ≡ a
  pub firing : d.firing ≡ count f.core.now a
  pub can : CanFire f.core.plan f.core.now a d.firings

-- the draft is one of the actor's next firings: its values are the kernel's own, and where these find all that they read it has those tokens
pub record IsDraftOf (f : FloorView) (a : ℕ) (d : DraftView) : Type 0 where
  pub suits : Suits f a d
  pub drafted : IsDrafted (program f.work) d
  pub own : AreOwnValues f a d.firings (values_in d)
  pub read : HoldAll f.core.now.tokens (takes_at f.core.plan.channels (count f.core.now a) d.firings) (inputs_at f.core.plan.channels a)
      → AreReadEach f.core.plan f.core.now a (count f.core.now a) d.firings d.inputs

-- how many taps a filter has; none for another kernel
abbrev pub taps_of : Kernel → ℕ
taps_of Source = 0
taps_of Sink = 0
taps_of Copy = 0
taps_of Sum = 0
taps_of (Fir weights taps shift) = taps

-- how many products the firings of a draft take
abbrev pub products_of : DraftView → ℕ
products_of d = d.firings * d.need * taps_of d.kernel
