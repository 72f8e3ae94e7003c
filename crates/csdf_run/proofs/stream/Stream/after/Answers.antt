use Rattle.std.proofs.Common.{rules}
use Rattle.csdf_run.proofs.stream.Stream.after.Goals as goal

pub returns-clause-stream : goal.returns-clause-stream
returns-clause-stream c = search rules

pub returns-clause-sinks : goal.returns-clause-sinks
returns-clause-sinks c = search rules
