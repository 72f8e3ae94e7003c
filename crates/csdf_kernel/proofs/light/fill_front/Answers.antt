use Rattle.std.proofs.Common.{ℕ, ◌≡◌, ◌+◌, ◌*◌, ◌<◌, ◌∙◌, List, length, slice_set, arith, ap, sym, subst, ℤ, to_z, of_z}
use Rattle.std.specs.Int.{w32}
use Rattle.std.proofs.lemmas.Int.{ints, to_z-of_z}
use Rattle.std.proofs.lemmas.Grind.{common_steps}
use Rattle.std.proofs.Math.Nat.{add-mul}
use Rattle.csdf_kernel.specs.Light.{HoldsPlace, KeepsOthers}
use Rattle.csdf_kernel.specs.Value.{filter_token}
use Rattle.csdf_kernel.proofs.LightLemmas.{told_more, others_more, suc_le_mul}
use Rattle.csdf_kernel.proofs.light.fill_front.Goals as goal

pub loop-firing-preserved : goal.loop-firing-preserved
loop-firing-preserved g c =
    let n : ℕ = c.loop-firing._firing in
    let each : ℕ = c.args.each in
    let place : ℕ = c.args.place in
    let values : List ℤ = c.loop-firing.values in
    let z : ℤ = to_z w32 (of_z w32 c.padded_token.result) in
    let token : ℕ → ℤ = λ f. filter_token c.args.weights.now g.row.N c.args.shift c.args.inputs.now (f * c.args.need + place) in
    let same : z ≡ filter_token c.args.weights.now g.row.N c.args.shift c.args.inputs.now c.loop-firing.at = grind (arith, ints, to_z-of_z) in
    let is : z ≡ token n = same ∙ ap (filter_token c.args.weights.now g.row.N c.args.shift c.args.inputs.now) c.loop-firing.invariant.at in
    let within : n * each + place < length values =
    let m = suc_le_mul n c.args.front each (omega (arith, c.loop-firing-test.true)) in
    omega (arith, m, c.requires.place, c.loop-firing.invariant.long, c.requires.long) in
    let to : n * each + place ≡ c.loop-firing.to = sym c.loop-firing.invariant.to in
    record {
      at = let e = add-mul n 1 c.args.need in omega (arith, e, c.loop-firing.invariant.at);
      to = let e = add-mul n 1 each in omega (arith, e, c.loop-firing.invariant.to);
      long = grind (arith, common_steps);
      told = subst (λ (t : ℕ). HoldsPlace token each (slice_set values t z) place 0 (n + 1)) to
          (told_more token each values place 0 n z within c.requires.place is c.loop-firing.invariant.told);
      others = subst (λ (t : ℕ). KeepsOthers each c.args.values.now (slice_set values t z) place 0 (n + 1)) to
          (others_more each c.args.values.now values place 0 n z (omega arith) c.requires.place c.loop-firing.invariant.others);
    }
