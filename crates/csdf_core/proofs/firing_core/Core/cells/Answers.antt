use Rattle.std.proofs.Common.{rules}
use Rattle.csdf_core.proofs.firing_core.Core.cells.Goals as goal

pub returns : goal.returns
returns c = search rules
