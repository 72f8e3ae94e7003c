use Rattle.std.proofs.Common.{rules}
use Rattle.csdf_core.proofs.firing_core.Core.finds.Goals as goal

pub returns-then-not-is_source : goal.returns-then-not-is_source
returns-then-not-is_source c = search rules

pub returns-else-not-is_source : goal.returns-else-not-is_source
returns-else-not-is_source c = search rules
