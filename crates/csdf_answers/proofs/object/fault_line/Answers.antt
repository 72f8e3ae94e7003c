use Rattle.std.proofs.Common.{rules}
use Rattle.csdf_answers.proofs.object.fault_line.Goals as goal

pub returns-in-Text : goal.returns-in-Text
returns-in-Text c = search rules
