use Rattle.std.proofs.Common.{rules}
use Rattle.csdf_run.proofs.stream.Stream.is_over.Goals as goal

pub returns : goal.returns
returns c = search rules
