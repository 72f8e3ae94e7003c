use Rattle.std.proofs.Common.{rules}
use Rattle.csdf_stream.proofs.writer.write_in.Goals as goal

pub returns-in-Ok-clause-clipped : goal.returns-in-Ok-clause-clipped
returns-in-Ok-clause-clipped c = search rules
