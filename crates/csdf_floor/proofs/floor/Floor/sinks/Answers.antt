use Rattle.std.proofs.Common.{rules}
use Rattle.csdf_floor.proofs.floor.Floor.sinks.Goals as goal

pub returns : goal.returns
returns c = search rules
