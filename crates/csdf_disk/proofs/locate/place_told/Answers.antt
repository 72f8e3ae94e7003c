use Rattle.std.proofs.Common.{rules}
use Rattle.csdf_disk.proofs.locate.place_told.Goals as goal

pub returns-in-Err-clause-unknown : goal.returns-in-Err-clause-unknown
returns-in-Err-clause-unknown c = search rules

pub returns-in-Ok-clause-other : goal.returns-in-Ok-clause-other
returns-in-Ok-clause-other c = search rules

pub returns-in-Err-2-clause-free : goal.returns-in-Err-2-clause-free
returns-in-Err-2-clause-free c = search rules
