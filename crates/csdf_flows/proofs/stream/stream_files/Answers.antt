use Rattle.std.proofs.Common.{rules}
use Rattle.csdf_flows.proofs.stream.stream_files.Goals as goal

pub returns-in-Some-clause-streamed : goal.returns-in-Some-clause-streamed
returns-in-Some-clause-streamed g c = search rules

pub returns-in-Some-clause-stopped : goal.returns-in-Some-clause-stopped
returns-in-Some-clause-stopped g c = search rules
