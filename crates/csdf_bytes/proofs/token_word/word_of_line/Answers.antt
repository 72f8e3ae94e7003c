use Rattle.std.proofs.Common.{rules}
use Rattle.csdf_bytes.proofs.token_word.word_of_line.Goals as goal

pub returns : goal.returns
returns c = search rules
