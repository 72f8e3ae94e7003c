use Rattle.std.proofs.lemmas.Grind.{common_steps}
use Rattle.std.proofs.Common.{arith, length, map, refl, sym, ap, subst, ◌∙◌, string_bytes}
use Rattle.std.proofs.lemmas.List.{length-map}
use Rattle.std.proofs.lemmas.Result.{IfOk-weaker}
use Rattle.csdf_model.specs.Graph.{Graph, channel_view}
use Rattle.csdf_core.specs.State.{opening}
use Rattle.csdf_answers.specs.Lines.{line_view}
use Rattle.csdf_answers.specs.Printed.{names_of}
use Rattle.csdf_answers.specs.Session.{PrintsLines}
use Rattle.csdf_answers.proofs.replay.text_on.Goals as goal

pub turn_all-requires-clause-same : goal.turn_all-requires-clause-same
turn_all-requires-clause-same c =
    sym (length-map c.channels-channels.result.now channel_view)
    ∙ ap length (c.channels-channels.ensures.value ∙ ap (λ (g : Graph). g.channels) c.graph.ensures.graph) ∙ sym c.in_ok-core.ensures.channels

pub returns : goal.returns
returns c =
    let channels = c.channels-channels.ensures.value ∙ ap (λ (g : Graph). g.channels) c.graph.ensures.graph in
    let lines = map line_view c.args.lines.now in
    let plan = c.in_ok-core.core.plan in
    let names = names_of c.args.accepted.now.graph.channels in
    IfOk-weaker c.turn_all.result _ _ (λ text turned.
    let named = subst (λ cs. PrintsLines (names_of cs) plan (opening plan) lines (string_bytes text)) channels (turned (opening plan) c.in_ok-core.ensures.opening) in (
      c.args.accepted.now,
      c.graph.ensures.accepted,
      refl,
      subst (λ p. PrintsLines names p (opening p) lines (string_bytes text)) c.in_ok-core.ensures.plan named,
    )) c.turn_all.ensures

pub opening_core-requires : goal.opening_core-requires
opening_core-requires c = grind (arith, common_steps)

pub returns-in_err-core : goal.returns-in_err-core
returns-in_err-core c = grind (arith, common_steps)

pub turn_all-requires-clause-few : goal.turn_all-requires-clause-few
turn_all-requires-clause-few c = grind (arith, common_steps)
