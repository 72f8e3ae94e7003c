use Rattle.csdf_core.proofs.Ever.{printed_is_period}
use Rattle.csdf_core.proofs.laws.printed_is_period.Goals as goal

pub returns : goal.returns
returns c = printed_is_period
