use Rattle.csdf_floor.proofs.MostPeriods.{IsMostBelow}
use Rattle.csdf_floor.proofs.limits.most_periods.Given as goal

-- the most for the actors so far
abbrev pub invariant-loop-actor : goal.invariant-loop-actor
invariant-loop-actor l = IsMostBelow l.actor l.firings l.most
