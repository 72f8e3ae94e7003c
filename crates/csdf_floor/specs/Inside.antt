-- What the parts of a floor show, with the room that they have, and what they keep.
use Rattle.std.specs.Prelude.{ℕ, suc, ◌≡◌, ◌+◌, ◌<◌, ◌≤◌, ◌==◌, ◌&&◌, ◌||◌, Bool, true, false, not, List, ℤ, [], ◌∷◌, length, map, slice_index, slice_index_or}
use Rattle.std.specs.Prelude.{slice_set}
use Rattle.csdf_model.specs.declared.parts.Kernel.TheVariants.{Sink}
use Rattle.csdf_core.specs.declared.stage.Stage.TheVariants.{Idle, Fetched}
use Rattle.csdf_core.specs.Moves.{Move}
use Rattle.csdf_core.specs.Moves.{Begin, Read, Write, Finish}
use Rattle.csdf_core.specs.Plan.{Plan, Channel}
use Rattle.csdf_core.specs.Rows.{need}
use Rattle.csdf_core.specs.State.{Present, opening}
use Rattle.csdf_core.specs.Step.{count, stage, is_open, is_over, producer}
use Rattle.csdf_core.specs.Shows.{raised_over}
use Rattle.csdf_core.specs.Next.{next}
use Rattle.csdf_floor.specs.Journal.{reads_of}
use Rattle.csdf_floor.specs.Work.{IsWork, program, is_sink_kernel}
use Rattle.csdf_floor.specs.Floor.{FloorView, IsKept, HasGone, closes, sinks_of}

-- a list for each actor, and how many tokens more it has room for
pub record ListsView : Type 0 where
  pub lists : List (List ℤ)
  pub rooms : List ℕ

-- what is run, the core, its journal and what the sinks took; for how many moves more the journal has room, for how many tokens of the next one, and for how
-- many tokens more the sinks have; and what each actor read last
pub record BookView : Type 0 where
  pub shown : FloorView
  pub room : ℕ
  pub width : ℕ
  pub rooms : List ℕ
  pub reads : List (List ℤ)

-- the peaks of a core that has not moved
abbrev pub first_peaks : Plan → List ℕ
first_peaks plan = map length (map (λ (channel : Channel). channel.initial) plan.channels)

-- what every book keeps
pub record IsBook (f : FloorView) (reads : List (List ℤ)) : Type 0 where
  pub work : IsWork f.work
  pub kept : IsKept (program f.work) f.core f.journal
  pub peaks : f.core.peaks ≡ raised_over (program f.work).plan (opening (program f.work).plan) (first_peaks (program f.work).plan) f.journal
  pub sinks : f.sinks ≡ sinks_of (program f.work) f.journal
  pub each_actor : length reads ≡ length f.core.plan.sources
  pub last_reads : (a : ℕ) → a < length f.core.plan.sources → stage f.core.now a ≡ Fetched
      → slice_index_or reads a [] ≡ slice_index_or (reads_of (program f.work) f.journal) a []

-- one move more was made, which took one place of the room at most
pub record IsNext (old new : BookView) (m : Move) : Type 0 where
  pub gone : HasGone old.shown new.shown (m ∷ [])
  pub room : old.room ≤ new.room + 1
  pub plan : new.shown.core.plan ≡ old.shown.core.plan
  pub now : new.shown.core.now ≡ next old.shown.core.plan old.shown.core.now m

-- there is room for the first two moves of the actor's next firing, and for what it reads
pub record HasRoom (b : BookView) (a : ℕ) : Type 0 where
  pub moves : 2 ≤ b.room
  pub buffer : length (slice_index_or b.reads a []) ≡ need a (count b.shown.core.now a) b.shown.core.plan.channels
  pub sink : is_sink_kernel (slice_index_or (program b.shown.work).kernels a Sink) ≡ true
      → need a (count b.shown.core.now a) b.shown.core.plan.channels ≤ slice_index b.rooms a

-- the actor has begun its next firing and taken its tokens, and nothing else has changed
pub record HasTaken (old new : BookView) (a : ℕ) : Type 0 where
  pub gone : HasGone old.shown new.shown (Begin a ∷ Read a ∷ [])
  pub plan : new.shown.core.plan ≡ old.shown.core.plan
  pub counts : new.shown.core.now.counts ≡ old.shown.core.now.counts
  pub stages : new.shown.core.now.stages ≡ slice_set old.shown.core.now.stages a Fetched
  pub opens : new.shown.core.now.opens ≡ old.shown.core.now.opens
  pub buffer : length (slice_index_or new.reads a []) ≡ length (slice_index_or old.reads a [])
  pub tokens : slice_index_or new.reads a [] ≡ slice_index_or (reads_of (program new.shown.work) new.shown.journal) a []
  pub there : a < length new.shown.core.plan.sources
  pub has_read : stage new.shown.core.now a ≡ Fetched

-- the actor has written these tokens and ended its firing, and nothing else has changed
pub record HasGiven (old new : BookView) (a : ℕ) (v : List ℤ) : Type 0 where
  pub gone : HasGone old.shown new.shown (Write a v ∷ Finish a ∷ [])
  pub room : old.room ≤ new.room + 2
  pub plan : new.shown.core.plan ≡ old.shown.core.plan
  pub counts : new.shown.core.now.counts ≡ slice_set old.shown.core.now.counts a (suc (count old.shown.core.now a))
  pub stages : new.shown.core.now.stages ≡ slice_set old.shown.core.now.stages a Idle
  pub opens : new.shown.core.now.opens ≡ old.shown.core.now.opens
  pub idle : stage new.shown.core.now a ≡ Idle

-- the channel is open, and its producer makes no firing more
abbrev pub is_due : Plan → Present → ℕ → Bool
is_due plan p c = is_open p c && is_over plan p (producer plan c)

-- a number is in a list
abbrev pub is_in : ℕ → List ℕ → Bool
is_in n [] = false
is_in n (m ∷ ms) = m == n || is_in n ms

-- those of these channels that were due are closed, and nothing else has changed
pub record AreClosed (old new : FloorView) (channels : List ℕ) : Type 0 where
  pub gone : HasGone old new (closes old.core.plan old.core.now channels)
  pub plan : new.core.plan ≡ old.core.plan
  pub counts : new.core.now.counts ≡ old.core.now.counts
  pub stages : new.core.now.stages ≡ old.core.now.stages
  pub opens : (c : ℕ) → is_open new.core.now c ≡ (is_open old.core.now c
      && not (is_in c channels && is_over old.core.plan old.core.now (producer old.core.plan c)))
