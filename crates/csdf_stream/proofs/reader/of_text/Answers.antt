use Rattle.std.proofs.Common.{rules}
use Rattle.csdf_stream.proofs.reader.of_text.Goals as goal

pub returns-in-Syntax : goal.returns-in-Syntax
returns-in-Syntax c = search rules
