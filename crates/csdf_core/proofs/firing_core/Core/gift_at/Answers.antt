use Rattle.std.proofs.Common.{rules}
use Rattle.csdf_core.proofs.firing_core.Core.gift_at.Goals as goal

pub returns-clause-value : goal.returns-clause-value
returns-clause-value c = search rules
