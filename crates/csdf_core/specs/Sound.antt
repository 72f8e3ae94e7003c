-- What every core keeps.
use Rattle.std.specs.Prelude.{ℕ, ◌*◌, ◌<◌, ◌≤◌, ◌≡◌, List, length, slice_index}
use Rattle.csdf_model.specs.declared.limits.TheConstants.{MAX_TOTAL_PER_FIRING}
use Rattle.csdf_pool.specs.Pool.{Shared}
use Rattle.csdf_core.specs.Plan.{Plan}
use Rattle.csdf_core.specs.Playable.{IsPlayable}
use Rattle.csdf_core.specs.State.{Present}
use Rattle.csdf_core.specs.Step.{count, given, begun_count, reserved}
use Rattle.csdf_core.specs.Ready.{IsFit}
use Rattle.csdf_core.specs.Shows.{ArePeaks, AreSharedOut}

pub record IsSound (plan : Plan) (p : Present) (peaks sums : List ℕ) (started kept : ℕ) (pool : Shared) : Type 0 where
  pub fit : IsFit plan p
  pub playable : IsPlayable plan
  pub peaked : length peaks ≡ length plan.channels
  pub high : ArePeaks peaks p.tokens
  pub chained : length pool.chains ≡ length plan.channels
  pub cells : AreSharedOut plan pool
  pub within : (a : ℕ) → count p a ≤ slice_index plan.limits a
  pub tallied : length sums ≡ length plan.sources
  pub summed : (a : ℕ) → a < length plan.sources → slice_index sums a ≡ given plan a (count p a)
  pub small : (a : ℕ) → a < length plan.sources → slice_index sums a ≤ MAX_TOTAL_PER_FIRING * count p a
  pub starts : started ≡ begun_count p
  pub keeps : kept ≡ reserved plan p
