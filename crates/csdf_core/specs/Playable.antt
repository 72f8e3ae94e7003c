-- What every plan keeps.
use Rattle.std.specs.Prelude.{◌≡◌, ◌<◌, ◌≤◌, length, sum_by, All}
use Rattle.std.specs.List.{AllByRecursion}
use Rattle.csdf_model.specs.declared.limits.TheConstants.{MAX_ACTORS, MAX_CHANNELS, MAX_CELLS, MAX_FIRINGS_PER_ACTOR}
use Rattle.csdf_core.specs.Plan.{Channel, Plan}

-- the initial tokens fit their channels, and all together the cells; the counts are small
pub record IsPlayable (plan : Plan) : Type 0 where
  pub fits : AllByRecursion (λ (c : Channel). length c.initial ≤ c.capacity) plan.channels
  pub cells : sum_by (λ (c : Channel). length c.initial) plan.channels ≤ plan.cells
  pub ends : AllByRecursion (λ (c : Channel). (c.from < length plan.sources) × (c.to < length plan.sources)) plan.channels
  pub few_cells : plan.cells ≤ MAX_CELLS
  pub few_actors : length plan.sources ≤ MAX_ACTORS
  pub few_channels : length plan.channels ≤ MAX_CHANNELS
  pub limited : length plan.limits ≡ length plan.sources
  pub few_firings : All (λ n. n ≤ MAX_FIRINGS_PER_ACTOR) plan.limits
