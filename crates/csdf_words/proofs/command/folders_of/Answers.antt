use Rattle.std.proofs.Common.{rules}
use Rattle.csdf_words.proofs.command.folders_of.Goals as goal

pub returns-in-Some-clause-folders : goal.returns-in-Some-clause-folders
returns-in-Some-clause-folders c = search rules

pub returns-in-None-clause-folders : goal.returns-in-None-clause-folders
returns-in-None-clause-folders c = search rules
