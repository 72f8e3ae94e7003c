use Rattle.std.proofs.Common.{rules}
use Rattle.csdf_words.proofs.command.stream_with.Goals as goal

pub returns : goal.returns
returns c = search rules
