use Rattle.std.proofs.Common.{sym, ◌∙◌, rules}
use Rattle.csdf_core.specs.Moves.{Close}
use Rattle.csdf_core.proofs.Follows.{follows_refused}
use Rattle.csdf_core.proofs.Peaceful.{peaks_stay}
use Rattle.csdf_core.proofs.firing_core.Core.close.Goals as goal

pub returns-in-Some-clause-step : goal.returns-in-Some-clause-step
returns-in-Some-clause-step c =
    rw (← c.self.view_is) (follows_refused _ (Close c.args.channel) c.in-Some.refusal (rw (← c.self.view_is) at (sym c.close_refusal.ensures ∙ c.in-Some.is))
    (peaks_stay _ _ _ _ _ _ _ c.self.invariant.sound) c.self.invariant.sound.cells)

pub close_tested-requires : goal.close_tested-requires
close_tested-requires c = search rules

pub returns-clause-step : goal.returns-clause-step
returns-clause-step c = search rules
