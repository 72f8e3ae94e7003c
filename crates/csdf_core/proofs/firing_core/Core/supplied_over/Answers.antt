use Rattle.std.proofs.Common.{rules}
use Rattle.csdf_core.proofs.firing_core.Core.supplied_over.Goals as goal

pub returns-clause-supply : goal.returns-clause-supply
returns-clause-supply c = search rules
