use Rattle.std.proofs.Common.{sym, ◌∙◌, rules}
use Rattle.csdf_core.specs.Moves.{Write}
use Rattle.csdf_core.proofs.Follows.{follows_refused}
use Rattle.csdf_core.proofs.Peaceful.{peaks_stay}
use Rattle.csdf_core.proofs.firing_core.Core.write.Goals as goal

pub returns-in-Some-clause-step : goal.returns-in-Some-clause-step
returns-in-Some-clause-step c =
    rw (← c.self.view_is) (follows_refused _ (Write c.args.actor c.args.tokens.now) c.in-Some.refusal
    (rw (← c.self.view_is) at (sym c.write_refusal.ensures ∙ c.in-Some.is)) (peaks_stay _ _ _ _ _ _ _ c.self.invariant.sound) c.self.invariant.sound.cells)

pub write_tested-requires : goal.write_tested-requires
write_tested-requires c = search rules

pub returns-clause-step : goal.returns-clause-step
returns-clause-step c = search rules

pub returns-clause-cells : goal.returns-clause-cells
returns-clause-cells c = search rules
