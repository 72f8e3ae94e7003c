use Rattle.std.proofs.Common.{rules}
use Rattle.csdf_core.proofs.firing_core.Core.block_of.Goals as goal

pub returns-clause-firings : goal.returns-clause-firings
returns-clause-firings c = search rules
