use Rattle.std.proofs.Common.{rules}
use Rattle.csdf_words.proofs.command.order_of.Goals as goal

pub returns : goal.returns
returns c = search rules
