use Rattle.std.proofs.Common.{rules}
use Rattle.csdf_core.proofs.firing_core.Core.ahead.Goals as goal

pub returns-then-n-eq0-clause-some : goal.returns-then-n-eq0-clause-some
returns-then-n-eq0-clause-some c = search rules

pub returns-clause-can : goal.returns-clause-can
returns-clause-can c = search rules
