use Rattle.std.proofs.Common.{◌≡◌, ◌+◌, ◌-◌, ◌/◌, ◌%◌, ◌∷◌, ◌++◌, ◌∙◌, ap, sym, arith, length, drop, refl}
use Rattle.std.specs.Fmt.{decimal}
use Rattle.std.proofs.lemmas.Fmt.{decimal_digit}
use Rattle.csdf_bytes.proofs.TokenLineLemmas.{decimal-two, digits-pair, length-decimal-32, length-pair, put-one}
use Rattle.csdf_bytes.proofs.token_line.put_number.Goals as goal

pub loop-rest-init : goal.loop-rest-init
loop-rest-init c = record {
  before = omega arith;
  room = omega (arith, length-decimal-32 c.args.number c.ranges.number.fits);
  so_far = refl;
}

pub overflow_sub-start : goal.overflow_sub-start
overflow_sub-start c =
    let room = c.loop-rest.invariant.room in
    omega (arith, length-pair c.loop-rest.rest c.loop-rest-test.true c.loop-rest.auto.rest-fits.fits, room, c.requires.room)

pub loop-rest-preserved : goal.loop-rest-preserved
loop-rest-preserved c =
    let room = c.loop-rest.invariant.room in
    let before = c.loop-rest.invariant.before in
    let fewer = length-pair c.loop-rest.rest c.loop-rest-test.true c.loop-rest.auto.rest-fits.fits in
    let back : (c.loop-rest.start - 2) + 2 ≡ c.loop-rest.start = omega (arith, fewer, room, c.requires.room) in
    record {
      before = omega (arith, before);
      room = omega (arith, fewer, room, c.requires.room);
      so_far = digits-pair c.args.number c.loop-rest.rest (drop c.args.end c.args.bytes.now) (drop c.loop-rest.start c.loop-rest.bytes) c.loop-rest-test.true
          c.loop-rest.auto.rest-fits.fits c.loop-rest.invariant.so_far
          ∙ ap (λ k. decimal (c.loop-rest.rest / 100) ++ ((48 + c.loop-rest.rest % 100 / 10) ∷ (48 + c.loop-rest.rest % 100 % 10) ∷ drop k c.loop-rest.bytes)) (sym back)
          ∙ ap (λ written. decimal (c.loop-rest.rest / 100) ++ written) (sym c.put_pair.ensures.digits);
    }

pub overflow_sub-start-then-rest-ge10 : goal.overflow_sub-start-then-rest-ge10
overflow_sub-start-then-rest-ge10 c =
    let room = c.loop-rest.invariant.room in
    omega (arith, ap length (decimal-two c.loop-rest.rest c.if-rest-ge10.true c.loop-rest-test.false), room, c.requires.room)

pub overflow_sub-result : goal.overflow_sub-result
overflow_sub-result c =
    let room = c.loop-rest.invariant.room in
    omega (arith, ap length (decimal-two c.loop-rest.rest c.if-rest-ge10.true c.loop-rest-test.false), room, c.requires.room)

pub overflow_sub-bytes : goal.overflow_sub-bytes
overflow_sub-bytes c =
    let room = c.loop-rest.invariant.room in
    omega (arith, ap length (decimal_digit c.loop-rest.rest c.if-rest-ge10.false), room, c.requires.room)

pub overflow_sub-result-else-rest-ge10 : goal.overflow_sub-result-else-rest-ge10
overflow_sub-result-else-rest-ge10 c =
    let room = c.loop-rest.invariant.room in
    omega (arith, ap length (decimal_digit c.loop-rest.rest c.if-rest-ge10.false), room, c.requires.room)

pub returns-then-rest-ge10-clause-short : goal.returns-then-rest-ge10-clause-short
returns-then-rest-ge10-clause-short c =
    let room = c.loop-rest.invariant.room in
    omega (arith, ap length (decimal-two c.loop-rest.rest c.if-rest-ge10.true c.loop-rest-test.false), room, c.requires.room)

pub returns-then-rest-ge10-clause-digits : goal.returns-then-rest-ge10-clause-digits
returns-then-rest-ge10-clause-digits c =
    let room = c.loop-rest.invariant.room in
    let two = decimal-two c.loop-rest.rest c.if-rest-ge10.true c.loop-rest-test.false in
    let back : (c.loop-rest.start - 2) + 2 ≡ c.loop-rest.start = omega (arith, ap length two, room, c.requires.room) in
    c.put_pair-then-rest-ge10.ensures.digits
    ∙ ap (λ k. (48 + c.loop-rest.rest / 10) ∷ (48 + c.loop-rest.rest % 10) ∷ drop k c.loop-rest.bytes) back
    ∙ ap (λ digits. digits ++ drop c.loop-rest.start c.loop-rest.bytes) (sym two)
    ∙ sym c.loop-rest.invariant.so_far

pub returns-else-rest-ge10-clause-short : goal.returns-else-rest-ge10-clause-short
returns-else-rest-ge10-clause-short c =
    let room = c.loop-rest.invariant.room in
    omega (arith, ap length (decimal_digit c.loop-rest.rest c.if-rest-ge10.false), room, c.requires.room)

pub returns-else-rest-ge10-clause-digits : goal.returns-else-rest-ge10-clause-digits
returns-else-rest-ge10-clause-digits c =
    let room = c.loop-rest.invariant.room in
    let digit = decimal_digit c.loop-rest.rest c.if-rest-ge10.false in
    put-one c.loop-rest.bytes c.loop-rest.start (48 + c.loop-rest.rest) (omega (arith, ap length digit, room, c.requires.room))
    (let before = c.loop-rest.invariant.before in omega (arith, before, c.requires.within, c.loop-rest.auto.bytes))
    ∙ ap (λ digits. digits ++ drop c.loop-rest.start c.loop-rest.bytes) (sym digit)
    ∙ sym c.loop-rest.invariant.so_far
