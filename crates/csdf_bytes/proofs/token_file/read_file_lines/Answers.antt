use Rattle.std.proofs.Common.{◌≤◌, ◌∙◌, ap, sym, subst, arith, cond, length, List, Ok, Err}
use Rattle.std.specs.Prelude.{nat_lt, ℤ}
use Rattle.csdf_bytes.specs.FileTokens.{HasRead}
use Rattle.csdf_bytes.specs.declared.tokens.TokenFault.TheVariants.{TooMany}
use Rattle.csdf_bytes.proofs.FileTokensLemmas.{has_read-fault, has_read-next}
use Rattle.csdf_bytes.proofs.token_file.read_file_lines.Goals as goal

pub returns-in-Ok-clause-read : goal.returns-in-Ok-clause-read
returns-in-Ok-clause-read c = λ text so_far.
    has_read-next text c.args.lines.now.bytes c.read_lines.new.self.bytes c.args.lines.now.line c.read_lines.new.self.line c.saturating_sub-most.result
    c.args.tokens.now.items c.read_lines.new.tokens.items c.within_limit.result so_far c.in-Ok.ensures.read c.in-Ok.ensures.few
    (omega (arith, c.saturating_sub-most.ensures, c.len.ensures))
    (c.within_limit.ensures ∙ ap (λ (tokens : List ℤ). cond (nat_lt 1000000 (length tokens)) (Err TooMany) (Ok tt)) c.deref.ensures.value)

pub returns-in-Err-clause-read : goal.returns-in-Err-clause-read
returns-in-Err-clause-read c = λ text so_far.
    let few : length c.read_lines.new.tokens.items ≤ 1000000 =
    let least = so_far.0 in omega (arith, least, c.in-Err.ensures.early, c.saturating_sub-most.ensures, c.len.ensures) in
    subst (λ fault. HasRead text c.read_lines.new.self.line c.read_lines.new.self.bytes c.read_lines.new.tokens.items (Err fault)) (sym c.file_fault.ensures)
    (has_read-fault text c.args.lines.now.bytes c.read_lines.new.self.bytes c.args.lines.now.line c.read_lines.new.self.line c.args.tokens.now.items
    c.read_lines.new.tokens.items c.in-Err.fault so_far c.in-Err.ensures.read few (λ same. c.in-Err.ensures.unread (ap Err same)) c.in-Err.ensures.fault)
