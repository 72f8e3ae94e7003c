use Rattle.std.proofs.Common.{rules}
use Rattle.csdf_kernel.proofs.NumberLemmas.{shr_is}
use Rattle.csdf_kernel.proofs.small.small_shifted.Goals as goal

pub returns : goal.returns
returns c = search (rules, shr_is)
