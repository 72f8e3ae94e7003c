-- Several firings of one actor, made at once.
use Rattle.std.specs.Prelude.{ℕ, zero, suc, ◌≡◌, ◌+◌, ◌*◌, true, List, [], ◌++◌, ℤ, if◌then◌else◌, length, take, drop, slice_index_or, slice_set, replicate}
use Rattle.csdf_model.specs.declared.parts.Kernel.{Kernel}
use Rattle.csdf_model.specs.declared.parts.Kernel.TheVariants.{Sink}
use Rattle.csdf_kernel.specs.Value.{value_of}
use Rattle.csdf_kernel.specs.Loop.{loop_values}
use Rattle.csdf_core.specs.declared.engine.Block.{Block}
use Rattle.csdf_core.specs.declared.feedback.Feedback.{Feedback}
use Rattle.csdf_core.specs.Blocks.{gifts_of, needs_of}
use Rattle.csdf_core.specs.Engine.{AreReadWith, CanFire}
use Rattle.csdf_core.specs.Feedback.{loop_reads}
use Rattle.csdf_core.specs.Shows.{View}
use Rattle.csdf_core.specs.Moves.{Move}
use Rattle.csdf_core.specs.Rows.{need, gift}
use Rattle.csdf_core.specs.Step.{count, is_source}
use Rattle.csdf_core.specs.Ports.{outputs_at}
use Rattle.csdf_core.specs.State.{present}
use Rattle.csdf_floor.specs.Floor.{FloorView, HasGone, closes}
use Rattle.csdf_floor.specs.Journal.{Program, output_counts, value, state_of}
use Rattle.csdf_floor.specs.Sequential.{moves_from}
use Rattle.csdf_floor.specs.Work.{is_sink_kernel, program}

-- the kernel's values of n firings from number k on, end to end, where these are the tokens that they read, end to end
abbrev pub made_value : Program → ℕ → ℕ → ℕ → List ℤ → List ℤ
made_value w a k zero tokens = []
made_value w a k (suc n) tokens =
    value w a k (take (need a k w.plan.channels) tokens) ++ made_value w a (suc k) n (drop (need a k w.plan.channels) tokens)

-- how many tokens firing number k computes from: those that it reads, or for a source those that it writes
abbrev pub amount_of : Program → ℕ → ℕ → ℕ
amount_of w a k = if is_source w.plan a then gift a k w.plan.channels else need a k w.plan.channels

-- and n firings
abbrev pub amounts_of : Program → ℕ → ℕ → ℕ → ℕ
amounts_of w a k zero = 0
amounts_of w a k (suc n) = amount_of w a k + amounts_of w a (suc k) n

-- the kernel's value of firing number k, and those of n firings, end to end, where these are the tokens that they compute from, end to end
abbrev pub phase_value : Program → ℕ → ℕ → List ℤ → List ℤ
phase_value w a k tokens = value_of (slice_index_or w.kernels a Sink) (output_counts w a k) (take (amount_of w a k) tokens)

abbrev pub phase_values : Program → ℕ → ℕ → ℕ → List ℤ → List ℤ
phase_values w a k zero tokens = []
phase_values w a k (suc n) tokens = phase_value w a k tokens ++ phase_values w a (suc k) n (drop (amount_of w a k) tokens)

-- v are the values of a kernel, over what a core's channels hold: a state and other tokens, which tell what the actor's next n firings read
pub record AreLoopValues (core : View) (kernel : Kernel) (counts : List ℕ) (a n : ℕ) (f : Feedback) (v : List ℤ) : Type 0 where
  pub state : List ℤ
  pub others : List ℤ
  pub state_long : length state ≡ f.taken
  pub others_long : length others ≡ n * f.each
  pub read : (u : List ℤ) → length u ≡ gifts_of core.plan.channels a (count core.now a) n → AreReadWith core.plan core.now a (count core.now a) n u
      (loop_reads f.is_first f.each f.before (gift a (count core.now a) core.plan.channels) n state others u)
  pub values : v ≡ loop_values kernel counts f.is_first f.each f.before n state others

-- v are the kernel's own values of the actor's next n firings, which read these tokens when they write v
pub record AreOwnValues (f : FloorView) (a n : ℕ) (v : List ℤ) : Type 0 where
  pub tokens : List ℤ
  pub long : length tokens ≡ needs_of f.core.plan.channels a (count f.core.now a) n
  pub read : AreReadWith f.core.plan f.core.now a (count f.core.now a) n v tokens
  pub just : v ≡ made_value (program f.work) a (count f.core.now a) n tokens

-- and a sink has these tokens in its buffer
pub record AreKeptValues (f : FloorView) (a n : ℕ) (buffer v : List ℤ) : Type 0 where
  pub own : AreOwnValues f a n v
  pub kept : is_sink_kernel (slice_index_or (program f.work).kernels a Sink) ≡ true → buffer ≡ own.tokens

-- the block is one of the actor's next firings, which it can make
pub record IsBlock (core : View) (a : ℕ) (b : Block) : Type 0 where
  pub can : CanFire core.plan core.now a b.firings
  pub needed : b.needed ≡ needs_of core.plan.channels a (count core.now a) b.firings
  pub given : b.given ≡ gifts_of core.plan.channels a (count core.now a) b.firings

-- the actor has made n firings more, of these moves, and nothing else has changed
pub record HasMade (old new : FloorView) (a n : ℕ) (moves : List Move) : Type 0 where
  pub gone : HasGone old new moves
  pub plan : new.core.plan ≡ old.core.plan
  pub counts : new.core.now.counts ≡ slice_set old.core.now.counts a (count old.core.now a + n)
  pub stages : new.core.now.stages ≡ old.core.now.stages
  pub opens : new.core.now.opens ≡ old.core.now.opens

-- the moves of the actor's next n firings, each whole before the next begins, with the kernel's own values
abbrev pub made_moves : FloorView → ℕ → ℕ → List Move
made_moves f a n = moves_from (program f.work) (state_of (program f.work) f.journal) (replicate n a)

-- the closes that follow them
abbrev pub closes_made : FloorView → ℕ → ℕ → List Move
closes_made f a n = closes f.core.plan (present (state_of (program f.work) (f.journal ++ made_moves f a n))) (outputs_at f.core.plan.channels a)
