use Rattle.std.proofs.Common.{◌∷◌, [], ◌∙◌, ap, sym, arith, rules, Err}
use Rattle.std.proofs.lemmas.Int.{to_z-of_z}
use mir.Syntax.{w32}
use mir.Val.{SFits}
use Rattle.csdf_bytes.proofs.TokenStreamLemmas.{reads-blank, reads-fault, reads-token}
use Rattle.csdf_bytes.proofs.TokenTextLemmas.{pushed, test-blank, test-word}
use Rattle.csdf_bytes.proofs.whole_lines.push_token.Goals as goal

pub returns-then-is_empty-clause-read : goal.returns-then-is_empty-clause-read
returns-then-is_empty-clause-read c =
    reads-blank c.args.number c.args.line.now c.word_of_line-word.result.now c.args.tokens.now.items c.word_of_line-word.ensures
    (test-blank _ c.if-is_empty.ensures)

pub returns-clause-read : goal.returns-clause-read
returns-clause-read c =
    let fits : SFits w32 c.in-Ok.token = search rules in
    reads-token c.args.number c.args.line.now c.word_of_line-word.result.now c.in-Ok.token c.args.tokens.now.items c.push.new.self.items
    c.word_of_line-word.ensures (test-word _ c.if-is_empty.ensures) (sym c.in-Ok.ensures)
    (pushed c.args.tokens.now.items c.push.new.self.items _ c.in-Ok.token _ c.push.ensures.items c.if-is_err.ensures.negation
    (to_z-of_z w32 c.in-Ok.token fits))

pub returns-in-Err-clause-fault : goal.returns-in-Err-clause-fault
returns-in-Err-clause-fault c = λ _.
    reads-fault c.args.number c.args.line.now c.word_of_line-word.result.now c.in-Err.fault (omega (arith, c.ranges.number.fits)) c.word_of_line-word.ensures
    (test-word _ c.if-is_empty.ensures) (sym c.in-Err.ensures)
    ∙ ap (λ fault. Err fault ∷ []) (sym c.line_fault.ensures)
