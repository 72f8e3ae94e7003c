use Rattle.csdf_floor.proofs.Honestly.{runs_honestly}
use Rattle.csdf_floor.proofs.laws.runs_honestly.Goals as goal

pub returns : goal.returns
returns c = runs_honestly
