use Rattle.std.proofs.Common.{rules}
use Rattle.csdf_run.proofs.script.kept_script.Goals as goal

pub returns : goal.returns
returns c = search rules
