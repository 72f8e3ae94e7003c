use Rattle.std.proofs.Common.{rules}
use Rattle.csdf_files.proofs.apart.graph_path.Goals as goal

pub returns-then-eq : goal.returns-then-eq
returns-then-eq c = search rules
