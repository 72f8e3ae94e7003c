use Rattle.std.proofs.Common.{rules}
use Rattle.csdf_floor.proofs.floor.Floor.deliver.Goals as goal

pub deliver_value-requires : goal.deliver_value-requires
deliver_value-requires c = search rules
