use Rattle.csdf_core.proofs.Ever.{runs_for_ever}
use Rattle.csdf_core.proofs.laws.runs_for_ever.Goals as goal

pub returns : goal.returns
returns c = runs_for_ever
