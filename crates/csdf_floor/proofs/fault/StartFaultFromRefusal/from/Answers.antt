use Rattle.std.proofs.Common.{rules}
use Rattle.csdf_floor.proofs.fault.StartFaultFromRefusal.from.Goals as goal

pub returns : goal.returns
returns c = search rules
