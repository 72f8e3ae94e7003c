use Rattle.std.proofs.Common.{rules}
use Rattle.csdf_explain.proofs.explained.tell_refusal.Goals as goal

pub returns-in-Deadlock-clause-told : goal.returns-in-Deadlock-clause-told
returns-in-Deadlock-clause-told c = search rules
