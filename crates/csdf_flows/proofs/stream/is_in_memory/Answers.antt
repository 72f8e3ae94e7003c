use Rattle.std.proofs.Common.{rules}
use Rattle.csdf_flows.proofs.stream.is_in_memory.Goals as goal

pub returns-clause-large : goal.returns-clause-large
returns-clause-large g c = search rules
