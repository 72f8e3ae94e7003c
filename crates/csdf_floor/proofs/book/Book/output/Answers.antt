use Rattle.std.proofs.lemmas.Grind.{common_steps}
use Rattle.std.proofs.Common.{◌≡◌, ◌<◌, ◌-◌, ◌==◌, List, ℕ, length, get_or, ap, sym, subst, ◌∙◌, arith}
use Rattle.std.proofs.lemmas.List.Elements.{All-get_or}
use Rattle.csdf_core.specs.Plan.{Channel, Plan}
use Rattle.csdf_core.specs.Ports.{outputs_at}
use Rattle.csdf_core.specs.Step.{producer}
use Rattle.csdf_core.proofs.PortLemmas.{numbers_within}
use Rattle.csdf_floor.proofs.Closes.{from_actor}
use Rattle.csdf_floor.proofs.book.Book.output.Goals as goal

pub offset_bounds-outputs-place : goal.offset_bounds-outputs-place
offset_bounds-outputs-place c =
    let same : c.outputs.result.now ≡ outputs_at c.self.inside.core.plan.channels c.args.actor = c.outputs.ensures.value in
    let lt : c.args.place < length c.outputs.result.now =
    subst (λ (ns : List ℕ). c.args.place < length ns) (sym same) (rw (← c.self.view_is) at c.requires.place) in
    omega (arith, lt, c.outputs.ensures.few)

pub bounds-outputs-place : goal.bounds-outputs-place
bounds-outputs-place c =
    let same : c.outputs.result.now ≡ outputs_at c.self.inside.core.plan.channels c.args.actor = c.outputs.ensures.value in
    subst (λ (ns : List ℕ). c.args.place < length ns) (sym same) (rw (← c.self.view_is) at c.requires.place)

pub returns-clause-value : goal.returns-clause-value
returns-clause-value c =
    rw (← c.self.view_is) (ap (λ (ns : List ℕ). get_or ns c.args.place 0) c.outputs.ensures.value)

pub returns-clause-channel : goal.returns-clause-channel
returns-clause-channel c =
    let plan : Plan = c.self.inside.core.plan in
    let same : c.outputs.result.now ≡ outputs_at plan.channels c.args.actor = c.outputs.ensures.value in
    rw (← c.self.view_is) (subst (λ (ns : List ℕ). get_or ns c.args.place 0 < length plan.channels) (sym same)
    (All-get_or (λ n. n < length plan.channels) (outputs_at plan.channels c.args.actor) c.args.place 0 (rw (← c.self.view_is) at c.requires.place)
    (numbers_within (λ (d : Channel). d.from == c.args.actor) plan.channels)))

pub returns-clause-producer : goal.returns-clause-producer
returns-clause-producer c =
    let plan : Plan = c.self.inside.core.plan in
    let same : c.outputs.result.now ≡ outputs_at plan.channels c.args.actor = c.outputs.ensures.value in
    let whole = from_actor c.args.actor 0 c.args.place plan.channels (rw (← c.self.view_is) at c.requires.place) in
    rw (← c.self.view_is) (subst (λ (ns : List ℕ). producer plan (get_or ns c.args.place 0) ≡ c.args.actor) (sym same)
    (ap (producer plan) (let e : get_or (outputs_at plan.channels c.args.actor) c.args.place 0 ≡ get_or (outputs_at plan.channels c.args.actor) c.args.place
    0 - 0 = omega arith in e) ∙ whole))

pub outputs-requires : goal.outputs-requires
outputs-requires c = grind (arith, common_steps)
