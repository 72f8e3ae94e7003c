use Rattle.std.proofs.Common.{◌^◌, arith, ℤ, to_z, of_z}
use Rattle.std.specs.Int.{w128}
use Rattle.std.specs.Int.Signed.{shr_z}
use Rattle.std.proofs.lemmas.Int.{ints, to_z-of_z}
use Rattle.csdf_kernel.proofs.NumberLemmas.{shr_is, floor_below, floor_above}
use Rattle.csdf_kernel.proofs.numbers.shifted.Goals as goal

pub returns-clause-below : goal.returns-clause-below
returns-clause-below c = floor_below c.args.value _ c.args.shift (grind (arith, ints, to_z-of_z, shr_is))

pub returns-clause-above : goal.returns-clause-above
returns-clause-above c =
    let passed : ℤ → ℤ = λ z. to_z w128 (of_z w128 z) in
    let quotient = passed (shr_z (passed c.args.value) (2 ^ c.args.shift)) in
    floor_above c.args.value quotient c.args.shift (grind (arith, ints, to_z-of_z, shr_is))
