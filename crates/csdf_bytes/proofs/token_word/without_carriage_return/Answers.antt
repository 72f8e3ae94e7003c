use Rattle.std.proofs.Common.{rules}
use Rattle.csdf_bytes.proofs.token_word.without_carriage_return.Goals as goal

pub returns-in_default-2 : goal.returns-in_default-2
returns-in_default-2 c = search rules
