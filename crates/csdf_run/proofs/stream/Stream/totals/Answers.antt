use Rattle.std.proofs.Common.{rules}
use Rattle.csdf_run.proofs.stream.Stream.totals.Goals as goal

pub returns : goal.returns
returns c = search rules
