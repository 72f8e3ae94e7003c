use Rattle.std.proofs.Common.{ℕ, ◌∙◌, List, subst, arith, rules, drop}
use Rattle.std.proofs.lemmas.Int.{to_z-of_z}
use Rattle.std.proofs.lemmas.List.{take_rest}
use mir.Syntax.{w32}
use mir.Val.{SFits}
use Rattle.csdf_bytes.specs.QuickLine.{QuickDigits}
use Rattle.csdf_bytes.proofs.QuickLemmas.{quick-minus, quick-plain}
use Rattle.csdf_bytes.proofs.quick_line.quick_line.Goals as goal

pub returns-then-text-eq45 : goal.returns-then-text-eq45
returns-then-text-eq45 c =
    let fits : SFits w32 c.with_sign.result = search rules in
    let found : QuickDigits (drop 1 c.args.text.now) c.in-Some.number c.in-Some.count =
    subst (λ (text : List ℕ). QuickDigits text c.in-Some.number c.in-Some.count) (take_rest c.args.text.now 1) c.in-Some.ensures in
    quick-minus c.args.text.now c.in-Some.count c.in-Some.number _ (let few = found.few in omega (arith, few, c.requires)) c.if-text-eq45.true found
    (to_z-of_z w32 c.with_sign.result fits ∙ c.with_sign.ensures)

pub returns : goal.returns
returns c =
    let fits : SFits w32 c.with_sign-2.result = search rules in
    let found : QuickDigits c.args.text.now c.in-Some-quick_digits.number c.in-Some-quick_digits.count = c.in-Some-quick_digits.ensures in
    quick-plain c.args.text.now c.in-Some-quick_digits.count c.in-Some-quick_digits.number _ (let few = found.few in omega (arith, few, c.requires)) found
    (to_z-of_z w32 c.with_sign-2.result fits ∙ c.with_sign-2.ensures)
