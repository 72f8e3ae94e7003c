use Rattle.std.proofs.Common.{rules}
use Rattle.csdf_files.proofs.apart.keep_sinks_apart.Goals as goal

pub returns-clause-apart : goal.returns-clause-apart
returns-clause-apart g c = search rules
