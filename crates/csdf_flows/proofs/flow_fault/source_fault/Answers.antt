use Rattle.std.proofs.Common.{rules}
use Rattle.csdf_flows.proofs.flow_fault.source_fault.Goals as goal

pub returns-in-Syntax : goal.returns-in-Syntax
returns-in-Syntax c = search rules
