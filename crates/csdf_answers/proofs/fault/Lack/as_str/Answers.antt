use Rattle.std.proofs.Common.{rules}
use Rattle.csdf_answers.proofs.fault.Lack.as_str.Goals as goal

pub returns-in-SinksFolder : goal.returns-in-SinksFolder
returns-in-SinksFolder c = search rules
