use Rattle.std.proofs.Common.{rules}
use Rattle.csdf_run_files.proofs.run.report_in.Goals as goal

pub returns-in-Json : goal.returns-in-Json
returns-in-Json c = search rules
