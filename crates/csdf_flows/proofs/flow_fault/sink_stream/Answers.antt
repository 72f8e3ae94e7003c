use Rattle.std.proofs.Common.{rules}
use Rattle.csdf_flows.proofs.flow_fault.sink_stream.Goals as goal

pub returns-in-Standard : goal.returns-in-Standard
returns-in-Standard c = search rules
