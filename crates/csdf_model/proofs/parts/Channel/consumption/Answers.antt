use Rattle.std.proofs.Common.{rules}
use Rattle.csdf_model.proofs.parts.Channel.consumption.Goals as goal

pub returns : goal.returns
returns c = search rules
