use Rattle.csdf_floor.proofs.Unique.{has_sequential_run}
use Rattle.csdf_floor.proofs.laws.has_sequential_run.Goals as goal

pub returns : goal.returns
returns c = has_sequential_run
