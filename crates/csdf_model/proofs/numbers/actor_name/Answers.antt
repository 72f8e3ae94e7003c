use Rattle.std.proofs.lemmas.Grind.{common_steps}
use Rattle.std.proofs.Common.{◌∙◌, arith}
use Rattle.csdf_model.specs.Graph.{Actor, actor_view}
use Rattle.csdf_model.proofs.NameLemmas.{named_at}
use Rattle.csdf_model.proofs.numbers.actor_name.Goals as goal

pub returns-in-Some : goal.returns-in-Some
returns-in-Some c =
    let found = c.in-Some.ensures.lookup in
    c.as_str.ensures.value
    ∙ named_at actor_view (λ (m : Actor). m.name) c.args.actors.now c.args.number c.in-Some.actor.now found.3.0 found.1

pub returns-in-None : goal.returns-in-None
returns-in-None c = grind (arith, common_steps)
