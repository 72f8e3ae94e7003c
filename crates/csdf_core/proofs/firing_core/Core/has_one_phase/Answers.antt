use Rattle.std.proofs.Common.{rules}
use Rattle.csdf_core.proofs.firing_core.Core.has_one_phase.Goals as goal

pub returns-clause-takes : goal.returns-clause-takes
returns-clause-takes c = search rules

pub returns-clause-gives : goal.returns-clause-gives
returns-clause-gives c = search rules
