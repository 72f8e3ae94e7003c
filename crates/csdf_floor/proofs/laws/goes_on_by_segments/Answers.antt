use Rattle.csdf_floor.proofs.Stretches.{goes_on_by_segments}
use Rattle.csdf_floor.proofs.laws.goes_on_by_segments.Goals as goal

pub returns : goal.returns
returns c = goes_on_by_segments
