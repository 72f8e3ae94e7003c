use Rattle.std.proofs.Common.{rules}
use Rattle.csdf_stream.proofs.lengths.within.Goals as goal

pub returns : goal.returns
returns c = search rules
