use Rattle.std.proofs.Common.{rules}
use Rattle.csdf_answers.proofs.fault.Name.with_ending.Goals as goal

pub returns : goal.returns
returns c = search rules
