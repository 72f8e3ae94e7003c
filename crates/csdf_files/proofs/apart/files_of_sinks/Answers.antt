use Rattle.std.proofs.Common.{rules}
use Rattle.csdf_files.proofs.apart.files_of_sinks.Goals as goal

pub returns : goal.returns
returns c = search rules
