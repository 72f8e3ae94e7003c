use Rattle.std.proofs.Common.{rules}
use Rattle.csdf_crew.proofs.threads.place_after.Goals as goal

pub returns-in-Err-clause-answered : goal.returns-in-Err-clause-answered
returns-in-Err-clause-answered c = search rules

pub returns-in-Err-clause-free : goal.returns-in-Err-clause-free
returns-in-Err-clause-free c = search rules
