use Rattle.std.proofs.Common.{sym, ◌∙◌}
use Rattle.csdf_core.proofs.PortLemmas.{own_take, own_take_none}
use Rattle.csdf_core.proofs.readiness.own_take.Goals as goal

pub returns-then-consumer-actor-clause-value : goal.returns-then-consumer-actor-clause-value
returns-then-consumer-actor-clause-value c = c.takes.ensures.value
    ∙ own_take c.args.actor c.args.turn.firing c.args.plan.now.channels c.args.channel (sym c.consumer.ensures ∙ c.if-consumer-actor.true) c.requires.channel

pub returns-else-consumer-actor-clause-value : goal.returns-else-consumer-actor-clause-value
returns-else-consumer-actor-clause-value c =
    own_take_none c.args.actor c.args.turn.firing c.args.plan.now.channels c.args.channel (λ e. c.if-consumer-actor.false (c.consumer.ensures ∙ e))
