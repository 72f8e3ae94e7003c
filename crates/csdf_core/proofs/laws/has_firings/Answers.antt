use Rattle.csdf_core.proofs.Ever.{has_firings}
use Rattle.csdf_core.proofs.laws.has_firings.Goals as goal

pub returns : goal.returns
returns c = has_firings
