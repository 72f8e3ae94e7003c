use Rattle.std.proofs.Common.{string_bytes, ◌∙◌}
use Rattle.std.proofs.lemmas.Result.{IfOk-weaker}
use Rattle.csdf_model.specs.Graph.{actor_view, channel_view}
use Rattle.csdf_model.proofs.CopyLemmas.{map_copied, kept_copy}
use Rattle.csdf_model.proofs.graph.Graph.try_copy.Goals as goal

pub new-requires : goal.new-requires
new-requires c =
    let a = map_copied _ actor_view (λ x y h. h) _ _ c.in_ok-actors.ensures.cases.0 in
    let k = map_copied _ channel_view (λ x y h. h) _ _ c.in_ok-channels.ensures.cases.0 in
    let p = map_copied _ string_bytes (λ x y h. h) _ _ c.in_ok-actor_names.ensures.cases in
    let q = map_copied _ string_bytes (λ x y h. h) _ _ c.in_ok-channel_names.ensures.cases in
    kept_copy _ _ _ _ _ _ p q (λ i. record { actors = a i; channels = k i; cells = c.self.inside.cells }) c.self.invariant.0

pub returns : goal.returns
returns c =
    let a = map_copied _ actor_view (λ x y h. h) _ _ c.in_ok-actors.ensures.cases.0 in
    let k = map_copied _ channel_view (λ x y h. h) _ _ c.in_ok-channels.ensures.cases.0 in
    IfOk-weaker c.new.result _ _ (λ graph is. is ∙ (λ i. record { actors = a i; channels = k i; cells = c.self.inside.cells }) ∙ c.self.view_is) c.new.ensures
