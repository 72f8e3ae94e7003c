use Rattle.std.proofs.Common.{length, arith, refl}
use Rattle.csdf_analysis.proofs.CountLemmas.{total_mono}
use Rattle.csdf_analysis.proofs.MostLemmas.{most_all, most_at, whole}
use Rattle.csdf_analysis.proofs.most.most_moved.Goals as goal

pub nonzero_div-whole : goal.nonzero_div-whole
nonzero_div-whole c =
    (whole c.args.rates.now c.args.tokens c.args.before c.total-2.result (length c.args.rates.now) c.requires refl c.total-2.ensures
    (omega (arith, c.total.ensures, c.if-total-tokens.false))).some

pub overflow_cast-whole : goal.overflow_cast-whole
overflow_cast-whole c =
    let few = (whole c.args.rates.now c.args.tokens c.args.before c.total-2.result (length c.args.rates.now) c.requires refl c.total-2.ensures
    (omega (arith, c.total.ensures, c.if-total-tokens.false))).few in
    omega (arith, few, c.ranges.before.fits)

pub overflow_mul-whole : goal.overflow_mul-whole
overflow_mul-whole c =
    let below = (whole c.args.rates.now c.args.tokens c.args.before c.total-2.result (length c.args.rates.now) c.requires refl c.total-2.ensures
    (omega (arith, c.total.ensures, c.if-total-tokens.false))).below in
    omega (arith, below, c.ranges.before.fits)

pub loop-firings-init : goal.loop-firings-init
loop-firings-init c =
    (whole c.args.rates.now c.args.tokens c.args.before c.total-2.result (length c.args.rates.now) c.requires refl c.total-2.ensures
    (omega (arith, c.total.ensures, c.if-total-tokens.false))).fits

pub returns-then-total-tokens-2 : goal.returns-then-total-tokens-2
returns-then-total-tokens-2 c =
    most_at c.args.rates.now c.args.tokens c.args.before c.loop-firings.firings (omega (arith, c.loop-firings-test.true)) c.loop-firings.invariant
    (omega (arith, c.total-in-loop-firings.ensures, c.if-total-tokens-2.true))

pub returns : goal.returns
returns c =
    let more = total_mono c.args.rates.now c.args.before c.loop-firings.firings (omega (arith, c.loop-firings-test.false)) in
    most_all c.args.rates.now c.args.tokens c.args.before (omega (arith, more, c.loop-firings.invariant))
