use Rattle.std.proofs.Common.{rules}
use Rattle.csdf_stream.proofs.options.TokenFormat.name.Goals as goal

pub returns-in-Text : goal.returns-in-Text
returns-in-Text c = search rules
