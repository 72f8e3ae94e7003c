use Rattle.std.proofs.Common.{◌∙◌, ap, sym, subst, cond, length, List, Ok, Err}
use Rattle.std.specs.Prelude.{nat_lt, ℤ}
use Rattle.csdf_bytes.specs.FileTokens.{Tells}
use Rattle.csdf_bytes.specs.declared.tokens.TokenFault.TheVariants.{TooMany}
use Rattle.csdf_bytes.proofs.FileTokensLemmas.{tells-end, tells-fault}
use Rattle.csdf_bytes.proofs.token_file.read_file_end.Goals as goal

pub returns-in-Ok : goal.returns-in-Ok
returns-in-Ok c = λ text so_far one.
    tells-end text c.args.lines.now.bytes c.args.lines.now.line c.args.tokens.now.items c.read_last.new.tokens.items c.within_limit.result so_far one
    c.in-Ok.ensures.read
    (c.within_limit.ensures ∙ ap (λ (tokens : List ℤ). cond (nat_lt 1000000 (length tokens)) (Err TooMany) (Ok tt)) c.deref.ensures.value)

pub returns-in-Err : goal.returns-in-Err
returns-in-Err c = λ text so_far one.
    subst (λ fault. Tells text (Err fault)) (sym c.file_fault.ensures)
    (tells-fault text c.args.lines.now.bytes c.args.lines.now.line c.args.tokens.now.items c.in-Err.fault so_far one
    (λ same. c.in-Err.ensures.unread (ap Err same)) c.in-Err.ensures.fault)
