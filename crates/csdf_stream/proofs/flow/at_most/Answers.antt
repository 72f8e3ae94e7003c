use Rattle.std.proofs.Common.{rules}
use Rattle.csdf_stream.proofs.flow.at_most.Goals as goal

pub returns-in-Some : goal.returns-in-Some
returns-in-Some c = search rules
