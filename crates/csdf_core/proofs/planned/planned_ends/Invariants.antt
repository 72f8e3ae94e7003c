use Rattle.std.proofs.Common.{map}
use Rattle.std.specs.Prelude.{sum_by}
use Rattle.csdf_core.proofs.AmountLemmas.{HasAmounts}
use Rattle.csdf_core.specs.PlanInside.{channel_in}
use Rattle.csdf_core.specs.Sides.{amount_at}
use Rattle.csdf_core.proofs.planned.planned_ends.Given as goal

abbrev pub invariant-loop-phase : goal.invariant-loop-phase
invariant-loop-phase l = HasAmounts (λ phase. sum_by (amount_at l.side (map channel_in l.channels) phase) l.ends) l.phase l.moved.items
