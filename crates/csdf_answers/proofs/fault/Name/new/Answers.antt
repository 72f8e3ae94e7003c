use Rattle.std.proofs.Common.{rules}
use Rattle.csdf_answers.proofs.fault.Name.new.Goals as goal

pub returns : goal.returns
returns c = search rules
