use Rattle.std.proofs.Common.{rules}
use Rattle.csdf_kernel.proofs.eval.Goals as goal

pub invariant_of-result : goal.invariant_of-result
invariant_of-result c = search rules

pub returns-in-Err-clause-handed_back : goal.returns-in-Err-clause-handed_back
returns-in-Err-clause-handed_back c = search rules

pub returns-in-Ok-clause-done : goal.returns-in-Ok-clause-done
returns-in-Ok-clause-done c = search rules

pub returns-in-Ok-clause-inline : goal.returns-in-Ok-clause-inline
returns-in-Ok-clause-inline c = search rules
