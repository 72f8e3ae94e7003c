use Rattle.std.proofs.Common.{rules}
use Rattle.csdf_stream.proofs.lengths.last_length.Goals as goal

pub returns-clause-last : goal.returns-clause-last
returns-clause-last c = search rules
