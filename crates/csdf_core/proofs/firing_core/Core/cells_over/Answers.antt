use Rattle.std.proofs.Common.{rules}
use Rattle.csdf_core.proofs.firing_core.Core.cells_over.Goals as goal

pub returns-clause-cells : goal.returns-clause-cells
returns-clause-cells c = search rules
