use Rattle.std.proofs.Common.{rules}
use Rattle.csdf_kernel.proofs.filter.Filter.taps_at.Goals as goal

pub returns-clause-taps : goal.returns-clause-taps
returns-clause-taps c = search rules
