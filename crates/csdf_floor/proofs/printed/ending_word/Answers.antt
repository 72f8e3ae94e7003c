use Rattle.std.proofs.Common.{rules}
use Rattle.csdf_floor.proofs.printed.ending_word.Goals as goal

pub returns-in-Dry : goal.returns-in-Dry
returns-in-Dry c = search rules
