use Rattle.std.proofs.Common.{rules}
use Rattle.csdf_crew.proofs.alone.make_some.Goals as goal

pub returns-in-Ok-clause-told : goal.returns-in-Ok-clause-told
returns-in-Ok-clause-told c = search rules
