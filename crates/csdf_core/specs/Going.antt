-- An actor that can go, by the step's own tests; and the firings that have begun.
use Rattle.std.specs.Prelude.{ℕ, suc, ◌≡◌, ◌<◌, false, None, length}
use Rattle.csdf_core.specs.declared.stage.Stage.{Stage}
use Rattle.csdf_core.specs.declared.stage.Stage.TheVariants as at
use Rattle.csdf_core.specs.declared.stage.Stage.TheVariants.{Idle}
use Rattle.csdf_core.specs.Plan.{Plan}
use Rattle.csdf_core.specs.Rows.{is_short, is_full, first}
use Rattle.csdf_core.specs.State.{Present}
use Rattle.csdf_core.specs.Step.{count, stage, is_spent, is_dry}

-- an idle actor that is neither spent, dry, short nor full
pub record CanGo (plan : Plan) (p : Present) (a : ℕ) : Type 0 where
  pub exists : a < length plan.sources
  pub idle : stage p a ≡ Idle
  pub not_spent : is_spent plan p a ≡ false
  pub not_dry : is_dry plan p a ≡ false
  pub not_short : first (is_short a (count p a)) plan.channels p.tokens ≡ None
  pub not_full : first (is_full a (count p a)) plan.channels p.tokens ≡ None

-- the firings of an actor that have begun
abbrev pub begun_at : Stage → ℕ → ℕ
begun_at at.Idle n = n
begun_at at.Begun n = suc n
begun_at at.Fetched n = suc n
begun_at at.Written n = suc n
