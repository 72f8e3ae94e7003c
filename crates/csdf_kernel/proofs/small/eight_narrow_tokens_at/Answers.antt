use Rattle.std.proofs.Common.{ℕ, ◌+◌, ℤ, arith}
use Rattle.std.proofs.lemmas.Int.{ints, to_z-of_z}
use Rattle.csdf_kernel.specs.Value.{filter_token}
use Rattle.csdf_kernel.proofs.PlaceLemmas.{eight_places}
use Rattle.csdf_kernel.proofs.small.eight_narrow_tokens_at.Goals as goal

pub returns : goal.returns
returns c =
    let token : ℕ → ℤ = λ i. filter_token c.args.weights.now 16 c.args.shift c.args.inputs.now (c.args.place + i) in
    let eight = eight_places token in
    grind (arith, ints, to_z-of_z, eight)
