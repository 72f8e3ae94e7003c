use Rattle.std.proofs.Common.{rules}
use Rattle.csdf_answers.proofs.fault.ToolFault.status.Goals as goal

pub returns-in-Graph-9 : goal.returns-in-Graph-9
returns-in-Graph-9 c = search rules

pub returns-in-Worker : goal.returns-in-Worker
returns-in-Worker c = search rules

pub returns-in-InUse : goal.returns-in-InUse
returns-in-InUse c = search rules
