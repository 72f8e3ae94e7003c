use Rattle.std.proofs.Common.{rules}
use Rattle.csdf_words.specs.CommandLine.{asked_by}
use Rattle.csdf_words.proofs.command.asked_by.Goals as goal

pub returns-in-capacity : goal.returns-in-capacity
unfolding asked_by
returns-in-capacity c = search rules
