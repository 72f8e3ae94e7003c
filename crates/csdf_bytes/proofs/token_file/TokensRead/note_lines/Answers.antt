use Rattle.std.proofs.Common.{subst}
use Rattle.csdf_bytes.specs.FileTokens.{HasRead}
use Rattle.csdf_bytes.proofs.token_file.TokensRead.note_lines.Goals as goal

pub returns-in-Ok-clause-read : goal.returns-in-Ok-clause-read
returns-in-Ok-clause-read c = λ text so_far.
    c.read_file_lines-self.ensures.read text
    (subst (HasRead text c.args.self.now.lines.line c.args.self.now.lines.bytes c.args.self.now.tokens.items) c.in-Ok.is so_far)
