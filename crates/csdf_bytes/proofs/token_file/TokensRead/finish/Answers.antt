use Rattle.std.proofs.Common.{subst}
use Rattle.std.specs.Prelude.{OnOk}
use Rattle.csdf_bytes.specs.FileTokens.{HasRead}
use Rattle.csdf_bytes.specs.TokenStream.{IsOneLine}
use Rattle.csdf_bytes.proofs.FileTokensLemmas.{tells-found}
use Rattle.csdf_bytes.proofs.token_file.TokensRead.finish.Goals as goal

pub returns-in-Err : goal.returns-in-Err
returns-in-Err c = λ text so_far whole.
    tells-found text c.args.self.lines.bytes c.args.self.lines.line c.args.self.tokens.items c.in-Err.fault
    (subst (HasRead text c.args.self.lines.line c.args.self.lines.bytes c.args.self.tokens.items) c.in-Err.is so_far)

pub returns-in-Err-read_file_end : goal.returns-in-Err-read_file_end
returns-in-Err-read_file_end c = λ text so_far whole.
    c.in-Err-read_file_end.ensures text
    (subst (HasRead text c.args.self.lines.line c.args.self.lines.bytes c.args.self.tokens.items) c.in_default.is so_far)
    (subst (λ found. OnOk found (IsOneLine c.args.self.lines.bytes)) c.in_default.is whole)
