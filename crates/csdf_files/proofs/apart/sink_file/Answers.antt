use Rattle.std.proofs.Common.{rules}
use Rattle.csdf_files.proofs.apart.sink_file.Goals as goal

pub returns : goal.returns
returns c = search rules
