use Rattle.std.proofs.Common.{rules}
use Rattle.csdf_bytes.proofs.token_reader.TokenReader.new.Goals as goal

pub returns : goal.returns
returns c = search rules
