use Rattle.std.proofs.Common.{rules}
use Rattle.csdf_words.proofs.command.with_names.Goals as goal

pub returns-clause-rule : goal.returns-clause-rule
returns-clause-rule c = search rules
