use Rattle.std.proofs.Common.{rules}
use Rattle.csdf_answers.proofs.fault.unread.Goals as goal

pub returns-in-Read : goal.returns-in-Read
returns-in-Read c = search rules
