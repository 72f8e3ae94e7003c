use Rattle.std.proofs.Common.{◌<◌, sum, subst, sym}
use Rattle.csdf_analysis.proofs.LowerLemmas.{sum_small}
use Rattle.csdf_analysis.proofs.accepted.Accepted.total_capacity.Goals as goal

pub sum_of-requires : goal.sum_of-requires
sum_of-requires c = subst (λ bs. sum bs < 4294967296) (sym c.deref.ensures.value)
    (sum_small _ _ _ c.self.invariant.well_formed c.self.invariant.least.completes c.self.invariant.small)
