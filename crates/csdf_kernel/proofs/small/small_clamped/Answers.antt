use Rattle.std.proofs.Common.{rules}
use Rattle.csdf_kernel.proofs.NumberLemmas.{clamp_is}
use Rattle.csdf_kernel.proofs.small.small_clamped.Goals as goal

pub returns : goal.returns
returns c = search (rules, clamp_is)
