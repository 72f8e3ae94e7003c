use Rattle.std.proofs.Common.{rules}
use Rattle.csdf_analysis.proofs.room.accept_least.Goals as goal

pub returns-in-Err-clause-unchanged : goal.returns-in-Err-clause-unchanged
returns-in-Err-clause-unchanged c = search rules
