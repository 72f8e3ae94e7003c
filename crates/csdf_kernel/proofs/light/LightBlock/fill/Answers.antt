use Rattle.std.proofs.Common.{ℕ, ◌≡◌, ◌∙◌, subst, arith}
use native.Mathlib.Decide.{dec_lt}
use mathlib.Core.Logic.{dite}
use Rattle.csdf_kernel.specs.Light.{HoldsPlace, firing_token}
use Rattle.csdf_kernel.proofs.LightLemmas.{filled_is}
use Rattle.csdf_kernel.proofs.light.LightBlock.fill.Goals as goal

pub loop-place-preserved : goal.loop-place-preserved
loop-place-preserved c = record {
  long = c.fill_at.ensures.long ∙ c.loop-place.invariant.long;
  told = λ p lt f ge below. dite (dec_lt p c.loop-place.place)
      (λ less.
      c.fill_at.ensures.others f p (omega (arith, less, c.loop-place-test.true)) (λ same _ _. omega (arith, same, less))
      ∙ c.loop-place.invariant.told p less f ge below)
      (λ not_less.
      let e : c.loop-place.place ≡ p = omega (arith, lt, not_less) in
      subst (λ (q : ℕ). HoldsPlace (firing_token c.args.self.now q) c.args.self.now.each c.fill_at.new.values q 0 c.args.self.now.firings) e
      c.fill_at.ensures.told f ge below);
}

pub returns : goal.returns
returns c =
    filled_is c.args.self.now.filter.weights.now c.args.self.now.filter.taps c.args.self.now.filter.shift c.args.self.now.need c.args.self.now.each
    c.args.self.now.firings c.args.self.now.inputs.now c.loop-place.values c.loop-place.invariant.long
    (λ p lt. c.loop-place.invariant.told p (omega (arith, lt, c.loop-place-test.false)))
