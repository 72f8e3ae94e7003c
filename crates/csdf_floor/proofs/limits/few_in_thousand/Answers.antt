use Rattle.csdf_floor.proofs.Works.{few_in_thousand}
use Rattle.csdf_floor.proofs.limits.few_in_thousand.Goals as goal

pub returns : goal.returns
returns c = few_in_thousand
