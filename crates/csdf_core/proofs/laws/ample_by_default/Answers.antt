use Rattle.csdf_core.proofs.Ever.{ample_by_default}
use Rattle.csdf_core.proofs.laws.ample_by_default.Goals as goal

pub returns : goal.returns
returns c = ample_by_default
