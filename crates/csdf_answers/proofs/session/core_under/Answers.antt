use Rattle.std.proofs.Common.{length, ap, ◌∙◌}
use Rattle.std.proofs.lemmas.Result.{IfOk-weaker}
use Rattle.csdf_graph.specs.ScriptText.{script_view}
use Rattle.csdf_answers.proofs.SessionLemmas.{few-limits, length-limits, length-made, plan_in-made}
use Rattle.csdf_answers.proofs.session.core_under.Goals as goal

pub new-requires-clause-limits : goal.new-requires-clause-limits
new-requires-clause-limits c = length-limits (length c.args.accepted.now.graph.actors) _ c.args.limits.items c.requires

pub new-requires-clause-supply : goal.new-requires-clause-supply
new-requires-clause-supply c =
    length-made _ _ c.actors.result.now c.args.accepted.now.graph.actors c.in_ok-supply.supply.items
    (c.actors.ensures.value ∙ ap (λ g. g.actors) c.graph.ensures.graph) c.in_ok-supply.ensures

pub new-requires-clause-few : goal.new-requires-clause-few
new-requires-clause-few c =
    few-limits (length c.args.accepted.now.graph.actors) _ c.args.limits.items c.requires c.args.script.now.limit_within

pub returns-clause-plan : goal.returns-clause-plan
returns-clause-plan c =
    let actors = c.actors.ensures.value ∙ ap (λ g. g.actors) c.graph.ensures.graph in
    let made = plan_in-made c.args.accepted.now (script_view c.args.script.now) c.actors.result.now c.args.limits.items
    c.in_ok-supply.supply.items actors c.requires c.in_ok-supply.ensures in
    IfOk-weaker c.new.result _ _ (λ core same. same ∙ made) c.new.ensures.plan
