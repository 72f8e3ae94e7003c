use Rattle.std.proofs.Common.{rules}
use Rattle.csdf_flows.proofs.flow_files.push_sink.Goals as goal

pub returns-in_ok-push_file : goal.returns-in_ok-push_file
returns-in_ok-push_file c = search rules
