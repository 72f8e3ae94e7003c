use Rattle.std.proofs.Common.{rules}
use Rattle.csdf_words.proofs.command.how_long_of.Goals as goal

pub returns-in-true-None-clause-value : goal.returns-in-true-None-clause-value
returns-in-true-None-clause-value c = search rules
