use Rattle.csdf_core.proofs.Ever.{phases_return}
use Rattle.csdf_core.proofs.laws.phases_return.Goals as goal

pub returns : goal.returns
returns c = phases_return
