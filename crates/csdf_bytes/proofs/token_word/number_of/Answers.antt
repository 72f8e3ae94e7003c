use Rattle.std.proofs.Common.{◌≡◌, ◌*◌, ◌^◌, [], ◌∙◌, ap, sym, arith, drop}
use Rattle.std.proofs.lemmas.List.{drop_all}
use Rattle.std.specs.Str.Parse.{digits_value, digits_value_after}
use Rattle.csdf_bytes.proofs.TokenWordLemmas.{too_large, digit_value-among}
use Rattle.csdf_bytes.proofs.token_word.number_of.Goals as goal

pub returns-in_err-checked_mul : goal.returns-in_err-checked_mul
returns-in_err-checked_mul c =
    rw c.from_residual.ensures (λ small. let h = c.in_err-checked_mul.ensures in
    let large = too_large c.args.digits.now c.loop-digit.number c.loop-digit.digit-index (c.loop-digit.number * 10) c.loop-digit-test.true
    c.loop-digit.invariant.so_far (omega arith) in
    h (omega (arith, large, small)))

pub returns-in_err-number : goal.returns-in_err-number
returns-in_err-number c =
    rw c.from_residual-in_err-number.ensures (λ small. let h = c.in_err-number.ensures in
    let digit = digit_value-among c.args.digits.now c.loop-digit.digit-index c.requires c.loop-digit-test.true in
    let product = c.in_ok-checked_mul.ensures in
    let large = too_large c.args.digits.now c.loop-digit.number c.loop-digit.digit-index (2 ^ 32) c.loop-digit-test.true c.loop-digit.invariant.so_far
    (omega (arith, digit, product, c.from.ensures, h)) in
    omega (arith, large, small))

pub returns : goal.returns
returns c =
    let ended : drop c.loop-digit.digit-index c.args.digits.now ≡ [] = drop_all c.loop-digit.digit-index c.args.digits.now c.loop-digit-test.false in
    let whole : digits_value 10 c.args.digits.now ≡ c.loop-digit.number = c.loop-digit.invariant.so_far
    ∙ ap (digits_value_after 10 c.loop-digit.number) ended in
    (omega (arith, whole, c.loop-digit.invariant.small), sym whole)
