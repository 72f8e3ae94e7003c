use Rattle.std.proofs.lemmas.Grind.{common_steps}
use Rattle.std.proofs.Common.{◌∙◌, arith}
use Rattle.csdf_model.specs.Graph.{Channel, channel_view}
use Rattle.csdf_model.proofs.NameLemmas.{named_at}
use Rattle.csdf_model.proofs.numbers.channel_name.Goals as goal

pub returns-in-Some : goal.returns-in-Some
returns-in-Some c =
    let found = c.in-Some.ensures.lookup in
    c.as_str.ensures.value
    ∙ named_at channel_view (λ (m : Channel). m.name) c.args.channels.now c.args.number c.in-Some.channel.now found.3.0 found.1

pub returns-in-None : goal.returns-in-None
returns-in-None c = grind (arith, common_steps)
