use Rattle.std.proofs.Common.{rules}
use Rattle.csdf_words.proofs.command.keeping_of.Goals as goal

pub returns-then-is_some : goal.returns-then-is_some
returns-then-is_some c = search rules
