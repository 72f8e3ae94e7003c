use Rattle.std.proofs.Common.{rules}
use Rattle.csdf_answers.proofs.fault.parts_of.Goals as goal

pub returns-in-TokenSyntax : goal.returns-in-TokenSyntax
returns-in-TokenSyntax c = search rules

pub returns-in-TokenCutOff : goal.returns-in-TokenCutOff
returns-in-TokenCutOff c = search rules

pub returns-in-InUse : goal.returns-in-InUse
returns-in-InUse c = search rules
