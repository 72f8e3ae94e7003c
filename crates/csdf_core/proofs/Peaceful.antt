-- Where no token moves, the peaks stay.
use Rattle.std.proofs.Common.{◌≡◌, ℕ, List, sym, ◌∙◌}
use Rattle.csdf_pool.specs.Pool.{Shared}
use Rattle.csdf_core.specs.Plan.{Plan}
use Rattle.csdf_core.specs.State.{Present}
use Rattle.csdf_core.specs.Shows.{raised}
use Rattle.csdf_core.specs.Sound.{IsSound}
use Rattle.csdf_core.proofs.Follows.{raised_same}

pub peaks_stay : (plan : Plan) (p : Present) (peaks sums : List ℕ) (started kept : ℕ) (pool : Shared) → IsSound plan p peaks sums started kept pool
    → raised peaks p.tokens ≡ peaks
peaks_stay plan p peaks sums started kept pool s = raised_same peaks p.tokens (s.peaked ∙ sym s.fit.queued) s.high
