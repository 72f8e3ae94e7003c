use Rattle.std.proofs.Common.{◌==◌, ◌<◌, length, ap, subst, sym, ◌∙◌, arith}
use Rattle.std.specs.Prelude.{All}
use Rattle.csdf_model.specs.Graph.{Channel, Ports}
use Rattle.csdf_model.proofs.PortLemmas.{numbers_within, few_numbers}
use Rattle.csdf_model.proofs.graph.Graph.inputs.Goals as goal

pub returns-clause-value : goal.returns-clause-value
returns-clause-value c = c.deref.ensures.value ∙ ap (λ (p : Ports). p.inputs) c.ports_of.ensures.ports

pub returns-clause-within : goal.returns-clause-within
returns-clause-within c =
    let value = c.deref.ensures.value ∙ ap (λ (p : Ports). p.inputs) c.ports_of.ensures.ports in
    subst (All (λ n. n < length c.args.self.now.channels)) (sym value) (numbers_within (λ (d : Channel). d.to == c.args.actor) c.args.self.now.channels)

pub returns-clause-few : goal.returns-clause-few
returns-clause-few c =
    let value = c.deref.ensures.value ∙ ap (λ (p : Ports). p.inputs) c.ports_of.ensures.ports in
    omega (arith, ap length value, few_numbers (λ (d : Channel). d.to == c.args.actor) 0 c.args.self.now.channels, c.ports_of.ensures.few)
