use Rattle.std.proofs.Common.{rules}
use Rattle.csdf_answers.proofs.fault.Name.as_str.Goals as goal

pub returns : goal.returns
returns c = search rules
