use Rattle.std.proofs.Common.{rules}
use Rattle.csdf_crew.proofs.threads.split_places.Goals as goal

pub loop-other-init : goal.loop-other-init
loop-other-init c = search rules

pub returns-clause-count : goal.returns-clause-count
returns-clause-count c = search rules
