use Rattle.std.proofs.Common.{ℕ, List, get_or, ap, ◌∙◌}
use Rattle.csdf_core.specs.declared.side.Side.TheVariants.{Output}
use Rattle.csdf_core.proofs.OwnChannels.{amount_in_phase}
use Rattle.csdf_core.proofs.plan.Plan.gives.Goals as goal

pub returns-clause-value : goal.returns-clause-value
returns-clause-value c =
    ap (λ (rates : List ℕ). get_or rates c.args.turn.phase 0) c.rates-rates.ensures.value
    ∙ amount_in_phase Output c.args.self.now.channels c.args.turn.firing c.args.channel c.args.turn.phase c.requires.channel c.requires.phase
