use Rattle.std.proofs.lemmas.Grind.{common_steps}
use Rattle.std.proofs.Common.{refl, arith}
use Rattle.csdf_kernel.proofs.PlaceLemmas.{token_of_zeros}
use Rattle.csdf_kernel.proofs.small.window_from.Goals as goal

pub loop-at-init : goal.loop-at-init
loop-at-init c = record {
  long = refl;
  alike = λ i lt. absurd (omega (arith, lt));
  zeros = λ i _. token_of_zeros 32 i;
}

pub loop-at-smaller : goal.loop-at-smaller
loop-at-smaller c = grind (arith, common_steps)

pub loop-at-preserved : goal.loop-at-preserved
loop-at-preserved c = grind (arith, common_steps)

pub returns : goal.returns
returns c = grind (arith, common_steps)
