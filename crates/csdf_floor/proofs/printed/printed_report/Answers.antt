use Rattle.std.proofs.Common.{rules}
use Rattle.csdf_floor.proofs.printed.printed_report.Goals as goal

pub returns : goal.returns
returns c = search rules
