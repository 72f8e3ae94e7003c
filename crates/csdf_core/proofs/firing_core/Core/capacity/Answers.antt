use Rattle.std.proofs.Common.{rules}
use Rattle.csdf_core.proofs.firing_core.Core.capacity.Goals as goal

pub returns : goal.returns
returns c = search rules
