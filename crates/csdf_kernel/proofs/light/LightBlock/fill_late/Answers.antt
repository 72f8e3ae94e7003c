use Rattle.std.proofs.Common.{ℕ, ◌≡◌, ◌+◌, ◌*◌, ◌<◌, length, arith, ℤ, to_z, of_z, rules}
use Rattle.std.specs.Int.{w32}
use Rattle.std.proofs.lemmas.Int.{ints, to_z-of_z}
use Rattle.std.proofs.lemmas.Grind.{common_steps}
use Rattle.csdf_kernel.specs.Light.{firing_token}
use Rattle.csdf_kernel.proofs.LightLemmas.{told_more, others_more, suc_le_mul}
use Rattle.csdf_kernel.proofs.light.LightBlock.fill_late.Goals as goal

pub loop-firing-preserved : goal.loop-firing-preserved
loop-firing-preserved c =
    let n : ℕ = c.loop-firing.firing in
    let each : ℕ = c.args.self.now.each in
    let z : ℤ = to_z w32 (of_z w32 c.small_token.result) in
    let is : z ≡ firing_token c.args.self.now c.args.place n = grind (arith, ints, to_z-of_z) in
    let within : n * each + c.args.place < length c.loop-firing.values =
    let m = suc_le_mul n c.args.self.now.firings each (omega (arith, c.loop-firing-test.true)) in
    omega (arith, m, c.requires.place, c.loop-firing.invariant.long, c.requires.long) in
    record {
      long = grind (arith, common_steps);
      told = told_more (firing_token c.args.self.now c.args.place) each c.loop-firing.values c.args.place c.args.first n z within c.requires.place is
          c.loop-firing.invariant.told;
      others = others_more each c.args.values.now c.loop-firing.values c.args.place c.args.first n z c.loop-firing.auto.firing c.requires.place
          c.loop-firing.invariant.others;
    }

pub returns-clause-told : goal.returns-clause-told
returns-clause-told c = search rules
