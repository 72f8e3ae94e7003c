use Rattle.std.proofs.lemmas.Grind.{common_steps}
use Rattle.std.proofs.Common.{arith}
use Rattle.csdf_stream.proofs.report.push_clipped.Goals as goal

pub returns : goal.returns
returns c = grind (arith, common_steps)
