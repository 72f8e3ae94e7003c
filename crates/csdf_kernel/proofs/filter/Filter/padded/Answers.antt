use Rattle.std.proofs.lemmas.Grind.{common_steps}
use Rattle.std.proofs.Common.{refl, arith}
use Rattle.csdf_kernel.proofs.PlaceLemmas.{token_of_zeros}
use Rattle.csdf_kernel.proofs.filter.Filter.padded.Goals as goal

pub loop-tap-init : goal.loop-tap-init
loop-tap-init c = record {
  long = refl;
  alike = λ j lt. absurd (omega (arith, lt));
  zeros = λ j _. token_of_zeros 16 j;
}

pub loop-tap-preserved : goal.loop-tap-preserved
loop-tap-preserved c = grind (arith, common_steps)

pub returns : goal.returns
returns c = grind (arith, common_steps)
