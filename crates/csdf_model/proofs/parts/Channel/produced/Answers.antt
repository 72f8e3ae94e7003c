use Rattle.std.proofs.Common.{rules}
use Rattle.csdf_model.proofs.parts.Channel.produced.Goals as goal

pub returns : goal.returns
returns c = search rules
