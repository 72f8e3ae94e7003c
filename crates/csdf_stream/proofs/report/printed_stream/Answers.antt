use Rattle.std.proofs.Common.{rules}
use Rattle.csdf_stream.proofs.report.printed_stream.Goals as goal

pub returns : goal.returns
returns c = search rules
