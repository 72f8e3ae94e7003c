use Rattle.std.proofs.Common.{rules}
use Rattle.csdf_disk.proofs.look.opened_tokens.Goals as goal

pub returns-in_default-clause-unopened : goal.returns-in_default-clause-unopened
returns-in_default-clause-unopened c = search rules
