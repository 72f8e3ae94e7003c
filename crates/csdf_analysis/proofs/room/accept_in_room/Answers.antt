use Rattle.std.proofs.Common.{rules}
use Rattle.csdf_analysis.proofs.room.accept_in_room.Goals as goal

pub returns-in-Err-clause-refusal : goal.returns-in-Err-clause-refusal
returns-in-Err-clause-refusal c = search rules
