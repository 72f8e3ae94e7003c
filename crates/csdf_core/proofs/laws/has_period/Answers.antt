use Rattle.csdf_core.proofs.Ever.{has_period}
use Rattle.csdf_core.proofs.laws.has_period.Goals as goal

pub returns : goal.returns
returns c = has_period
