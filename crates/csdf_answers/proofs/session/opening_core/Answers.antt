use Rattle.std.proofs.Common.{length, ap, ◌∙◌}
use Rattle.std.proofs.lemmas.Result.{IfOk-weaker}
use Rattle.csdf_graph.specs.ScriptText.{script_view}
use Rattle.csdf_core.specs.Plan.{Plan}
use Rattle.csdf_answers.proofs.SessionLemmas.{limits-made, length-channels}
use Rattle.csdf_answers.proofs.session.opening_core.Goals as goal

pub core_under-requires : goal.core_under-requires
core_under-requires c =
    limits-made c.args.accepted.now (script_view c.args.script.now).limit c.actors.result.now c.in_ok-limits.limits.items
    (c.actors.ensures.value ∙ ap (λ g. g.actors) c.graph.ensures.graph) c.in_ok-limits.ensures

pub returns-clause-channels : goal.returns-clause-channels
returns-clause-channels c =
    let as_many = length-channels c.args.accepted.now (script_view c.args.script.now) c.graph.ensures.accepted in
    IfOk-weaker c.core_under.result _ _ (λ core same. ap (λ (p : Plan). length p.channels) same ∙ as_many) c.core_under.ensures.plan
