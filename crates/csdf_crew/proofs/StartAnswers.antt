-- What a start answers, of a block as of a number of firings.
use Rattle.std.proofs.Common.{◌≡◌, ℕ, Option, Some, None, Ok, Err, ap}
use Rattle.csdf_floor.specs.declared.fault.StartFault.{StartFault}
use Rattle.csdf_floor.specs.Floor.{IsStartAnswer}
use Rattle.csdf_crew.specs.Workers.{Block}

-- a start that is refused answers alike, whether it would have given a number of firings or a block
pub start_answer_as : (first : Option StartFault) (fault : StartFault) → IsStartAnswer {T = ℕ} first (Err fault) → IsStartAnswer {T = Block} first (Err fault)
start_answer_as (Some why) fault h = let e : fault ≡ why = cc in ap Err e
start_answer_as None fault h = h

pub start_answer_made : (first : Option StartFault) (count : ℕ) (block : Block) → IsStartAnswer {T = ℕ} first (Ok count) → IsStartAnswer {T = Block} first (Ok block)
start_answer_made (Some why) count block h = absurd (let e : Ok count ≡ Err why = h in cc)
start_answer_made None count block h = tt
