use Rattle.std.proofs.Common.{rules}
use Rattle.csdf_analysis.proofs.calls.repetition.entries.Goals as goal

pub returns : goal.returns
returns c = search rules
