-- How long a run may be asked to go on.
use denote.Struct.Props as logic
use Rattle.std.specs.Prelude.{◌≤◌}
use Rattle.csdf_model.specs.declared.limits.TheConstants.{MAX_PERIODS}
use Rattle.csdf_analysis.specs.declared.length.Length.{Length}
use Rattle.csdf_analysis.specs.declared.length.Length.TheVariants as lengths

-- at least one period and at most as many as any graph may have, or until a source has run dry
abbrev pub MayBeAsked : Length → Type 0
MayBeAsked (lengths.Periods n) = (1 ≤ n) × (n ≤ MAX_PERIODS)
MayBeAsked lengths.UntilDry = Unit {0}

-- that it may has one proof at most
pub MayBeAsked-prop : (l : Length) → IsProp (MayBeAsked l)
MayBeAsked-prop (lengths.Periods n) = Prim.hlevel logic.props
MayBeAsked-prop lengths.UntilDry = Prim.hlevel logic.props
