-- How a run ended, by its last state.
use Rattle.std.specs.Prelude.{ℕ, ◌≡◌, ◌<◌, Some, List, length}
use Rattle.csdf_core.specs.declared.refusal.Refusal.{Refusal}
use Rattle.csdf_core.specs.declared.refusal.Refusal.TheVariants.{Stopped as LimitReached, NoCells}
use Rattle.csdf_core.specs.Moves.{Move}
use Rattle.csdf_core.specs.Moves.{Begin}
use Rattle.csdf_core.specs.Plan.{Plan}
use Rattle.csdf_core.specs.State.{Present, present}
use Rattle.csdf_core.specs.Step.{refusal, IsQuiet}
use Rattle.csdf_floor.specs.declared.ending.Ending.{Ending}
use Rattle.csdf_floor.specs.declared.ending.Ending.TheVariants.{Complete, Stopped, Starved, Dry}
use Rattle.csdf_floor.specs.Journal.{Program, IsHonest, state_of}
use Rattle.csdf_floor.specs.Sequential.{IsSequential}
use Rattle.csdf_floor.specs.Laws.{AllSpent, IsAsSequential, IsWithinSequential}

-- some firing is refused for this reason
abbrev pub SomeRefused : Plan → Present → Refusal → Type 0
SomeRefused plan p why = (a : ℕ) × (a < length plan.sources) × (refusal plan p (Begin a) ≡ Some why)

-- complete: every actor is spent; else stopped by the limit on all firings, starved of cells, or dry where neither
abbrev pub IsEnding : Plan → Present → Ending → Type 0
IsEnding plan p Complete = AllSpent plan p
IsEnding plan p Stopped = (AllSpent plan p → ⊥) × SomeRefused plan p LimitReached
IsEnding plan p Starved = (AllSpent plan p → ⊥) × SomeRefused plan p NoCells
IsEnding plan p Dry = (AllSpent plan p → ⊥) × (SomeRefused plan p LimitReached → ⊥) × (SomeRefused plan p NoCells → ⊥)

-- a state has one ending only
abbrev pub OneEnding : Type 0
OneEnding = (plan : Plan) (p : Present) (one two : Ending) → IsEnding plan p one → IsEnding plan p two → one ≡ two

-- what an ending says of an honest journal, beside the sequential run
abbrev pub IsAsEnded : Program → List Move → List ℕ → Ending → Type 0
IsAsEnded w journal actors Complete = IsAsSequential w journal actors
IsAsEnded w journal actors Dry = IsAsSequential w journal actors
IsAsEnded w journal actors Stopped = IsWithinSequential w journal actors
IsAsEnded w journal actors Starved = IsWithinSequential w journal actors

abbrev pub EndsByEnding : Type 0
EndsByEnding =
    (w : Program) (journal : List Move) (actors : List ℕ) (ending : Ending) → IsHonest w journal → IsSequential w actors
    → IsQuiet w.plan (present (state_of w journal)) → IsEnding w.plan (present (state_of w journal)) ending
    → IsAsEnded w journal actors ending
