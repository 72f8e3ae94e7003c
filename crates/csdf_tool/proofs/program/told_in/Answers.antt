use Rattle.std.proofs.Common.{rules}
use Rattle.csdf_tool.proofs.program.told_in.Goals as goal

pub returns-in-InUse : goal.returns-in-InUse
returns-in-InUse c = search rules

pub returns-in-InUse-2 : goal.returns-in-InUse-2
returns-in-InUse-2 c = search rules
