use Rattle.std.proofs.Common.{rules}
use Rattle.csdf_crew.proofs.threads.all_started.Goals as goal

pub returns-then-threads-places : goal.returns-then-threads-places
returns-then-threads-places c = search rules
