use Rattle.std.proofs.Common.{◌+◌, ◌%◌, ◌<◌, ℕ, get_or, length, ap, arith}
use Rattle.csdf_bytes.proofs.QuickLemmas.{digit-small, digits-more, small-more}
use Rattle.csdf_bytes.proofs.quick_line.quick_number.Goals as goal

pub overflow_mul-number : goal.overflow_mul-number
overflow_mul-number c =
    let fits = small-more c.loop-count.count c.loop-count.number 0 c.loop-count-test.true c.loop-count.invariant.small (omega arith) in
    record { fits = omega (arith, fits.1) }

pub overflow_add-number : goal.overflow_add-number
overflow_add-number c =
    let fits = small-more c.loop-count.count c.loop-count.number ((c.from-digit.result + 4294967248) % 4294967296) c.loop-count-test.true
    c.loop-count.invariant.small c.if-digit-gt9.false in
    record { fits = fits.1 }

pub loop-count-preserved : goal.loop-count-preserved
loop-count-preserved c =
    let digit : ℕ = (c.from-digit.result + 4294967248) % 4294967296 in
    let byte = c.type_inv.text c.loop-count.count in
    let inside : c.loop-count.count < length c.args.text.now = omega (arith, c.loop-count-test.true, c.requires) in
    let is = digit-small (get_or c.args.text.now c.loop-count.count 0) digit byte.fits
    (ap (λ n. (n + 4294967248) % 4294967296) c.from-digit.ensures) c.if-digit-gt9.false in
    let more = digits-more c.args.text.now c.loop-count.count c.loop-count.number digit inside c.loop-count.invariant.digits
    c.loop-count.invariant.value is.0 is.1 in
    let fits = small-more c.loop-count.count c.loop-count.number digit c.loop-count-test.true c.loop-count.invariant.small more.0 in
    record { few = omega (arith, c.loop-count-test.true); digits = more.1; value = more.2; small = fits.0 }
