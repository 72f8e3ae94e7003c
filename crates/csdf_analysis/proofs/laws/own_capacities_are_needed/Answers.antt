use Rattle.csdf_analysis.proofs.AloneLemmas.{own_needed}
use Rattle.csdf_analysis.proofs.laws.own_capacities_are_needed.Goals as goal

pub returns : goal.returns
returns c = own_needed
