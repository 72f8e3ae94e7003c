-- What a worker has in hand, and the claim that it belongs to.
use Rattle.std.specs.Prelude.{Bool, true, false, Option, Some, None}
use Rattle.csdf_kernel.specs.declared.Job.{Job}
use Rattle.csdf_crew.specs.declared.claims.Claim.{Claim}

-- what contracts see of it: the job, and whether it was evaluated, behind the gate; the job determines its outputs
pub record HandView : Type 0 where
  pub job : Job
  pub is_made : Bool

-- the claim of a job
abbrev pub claim_for : Job → Claim
claim_for job = record { actor = job.actor; firing = job.firing }

-- the claim of a job that is there
abbrev pub claim_if : Bool → Job → Option Claim
claim_if true job = Some (claim_for job)
claim_if false job = None

-- the claim of what was made and is to be delivered
abbrev pub claim_in : HandView → Option Claim
claim_in hand = claim_if hand.is_made hand.job
