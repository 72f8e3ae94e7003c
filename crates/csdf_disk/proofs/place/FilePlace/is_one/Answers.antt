use Rattle.std.proofs.Common.{rules}
use Rattle.csdf_disk.proofs.place.FilePlace.is_one.Goals as goal

pub returns-in-Other : goal.returns-in-Other
returns-in-Other c = search rules
