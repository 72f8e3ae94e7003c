use Rattle.std.proofs.Common.{rules}
use Rattle.csdf_tool.proofs.program.status_after.Goals as goal

pub returns-in-Err-clause-ends : goal.returns-in-Err-clause-ends
returns-in-Err-clause-ends g c = search rules
