use Rattle.std.proofs.Common.{◌∙◌, sym}
use Rattle.csdf_explain.proofs.TokenNoteLemmas.{short_utf8}
use Rattle.csdf_explain.proofs.token_note.shown.Goals as goal

pub returns-in-Err : goal.returns-in-Err
returns-in-Err c = absurd (c.in-Err.ensures.cases.0 (short_utf8 c.args.line.now (sym c.is_short.ensures ∙ c.if-is_short.true)))
