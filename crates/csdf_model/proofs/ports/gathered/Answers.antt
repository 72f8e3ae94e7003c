use Rattle.std.proofs.Common.{map, ap, ◌∙◌}
use Rattle.csdf_model.specs.Graph.{channel_view, ports_view, ports_of}
use Rattle.csdf_model.proofs.PortLemmas.{made_more}
use Rattle.csdf_model.proofs.ports.gathered.Goals as goal

pub loop-actor-preserved : goal.loop-actor-preserved
loop-actor-preserved c =
    ap (map ports_view) c.in_ok-push.ensures.items
    ∙ made_more ports_view (ports_of (map channel_view c.args.channels.now)) c.loop-actor.ports.items c.loop-actor.actor _ c.loop-actor.invariant
    (λ i. record { inputs = c.in_ok-of.ensures.inputs i; outputs = c.in_ok-of.ensures.outputs i })
