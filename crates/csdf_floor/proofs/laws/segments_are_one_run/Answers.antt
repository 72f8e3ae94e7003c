use Rattle.csdf_floor.proofs.Continuing.{segments_are_one_run}
use Rattle.csdf_floor.proofs.laws.segments_are_one_run.Goals as goal

pub returns : goal.returns
returns c = segments_are_one_run
