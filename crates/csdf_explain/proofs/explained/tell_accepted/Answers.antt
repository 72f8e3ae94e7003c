use Rattle.std.proofs.Common.{◌≡◌, ◌∙◌, ap, sum}
use Rattle.std.proofs.lemmas.Result.{IfOk-weaker}
use Rattle.csdf_model.specs.Graph.{Graph}
use Rattle.csdf_explain.specs.Explained.{accepted_text}
use Rattle.csdf_explain.proofs.explained.tell_accepted.Goals as goal

pub returns : goal.returns
returns c =
    let given : c.cells.result ≡ c.args.accepted.now.graph.cells = c.cells.ensures ∙ ap (λ (g : Graph). g.cells) c.graph.ensures.graph in
    IfOk-weaker c.accepted_text.result _ _
    (λ text told. told ∙ ap (λ n. accepted_text n c.cells.result) c.total_capacity-needed.ensures
    ∙ ap (accepted_text (sum c.args.accepted.now.capacities)) given)
    c.accepted_text.ensures
