use Rattle.std.proofs.Common.{◌≡◌, ℕ, arith, ap, sym, ◌∙◌}
use Rattle.std.proofs.lemmas.Int.{ints, to_z-of_z}
use Rattle.csdf_kernel.specs.Value.{convolution}
use Rattle.csdf_kernel.proofs.NumberLemmas.{convolution_none, convolution_more, convolution_stops}
use Rattle.csdf_kernel.proofs.small.small_products_at.Goals as goal

pub loop-tap-init : goal.loop-tap-init
loop-tap-init c = (sym (convolution_none _ _ _), omega arith)

pub loop-tap-preserved : goal.loop-tap-preserved
loop-tap-preserved c = (grind (arith, ints, to_z-of_z, convolution_more), omega (arith, ints))

pub returns : goal.returns
returns c =
    let e : c.loop-tap.tap ≡ c.full_taps-tap-end.result = omega (arith, c.loop-tap-test.false, c.loop-tap.auto.tap-end) in
    c.loop-tap.invariant.0 ∙ ap (λ (n : ℕ). convolution c.args.weights.now n c.args.inputs.now c.args.place) e
    ∙ convolution_stops c.args.weights.now c.args.inputs.now c.args.place c.args.taps c.full_taps-tap-end.result
    c.full_taps-tap-end.ensures.taps c.full_taps-tap-end.ensures.all
