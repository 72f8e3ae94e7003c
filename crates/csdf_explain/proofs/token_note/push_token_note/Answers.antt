use Rattle.std.proofs.Common.{rules}
use Rattle.csdf_explain.proofs.token_note.push_token_note.Goals as goal

pub returns-in-Some : goal.returns-in-Some
returns-in-Some c = search rules
