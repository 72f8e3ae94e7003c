use Rattle.std.proofs.lemmas.Grind.{common_steps}
use Rattle.std.proofs.Common.{ap, arith, sym, ◌∙◌}
use Rattle.csdf_core.specs.Plan.{Plan}
use Rattle.csdf_core.specs.Rows.{gift}
use Rattle.csdf_floor.specs.Work.{program}
use Rattle.csdf_floor.proofs.PhaseValues.{gift_alone}
use Rattle.csdf_floor.proofs.work.Work.amount.Goals as goal

pub returns-then-is_source-clause-value : goal.returns-then-is_source-clause-value
returns-then-is_source-clause-value c =
    c.gift_at.ensures.value ∙ ap (λ (u : Plan). gift c.args.actor c.args.turn.firing u.channels) c.requires.plan
    ∙ sym (gift_alone (program c.args.self.now) c.args.actor c.args.turn.firing (sym c.is_source.ensures ∙ c.if-is_source.true))

pub returns-clause-value : goal.returns-clause-value
returns-clause-value c = grind (arith, common_steps)
