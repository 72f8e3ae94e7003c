use Rattle.std.proofs.Common.{rules}
use Rattle.csdf_stream.proofs.flow.Flow.is_done.Goals as goal

pub returns-else-is_over : goal.returns-else-is_over
returns-else-is_over c = search rules
