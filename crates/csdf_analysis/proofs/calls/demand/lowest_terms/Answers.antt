use Rattle.std.proofs.Common.{rules}
use Rattle.csdf_analysis.proofs.DivisorLemmas.{divisor_some}
use Rattle.csdf_analysis.proofs.calls.demand.lowest_terms.Goals as goal

pub nonzero_div-result : goal.nonzero_div-result
nonzero_div-result c = divisor_some c.args.to c.gcd-divisor.result c.gcd-divisor.ensures.second c.requires.some_to

pub nonzero_div-result-2 : goal.nonzero_div-result-2
nonzero_div-result-2 c = divisor_some c.args.to c.gcd-divisor.result c.gcd-divisor.ensures.second c.requires.some_to

pub returns : goal.returns
returns c = search rules
