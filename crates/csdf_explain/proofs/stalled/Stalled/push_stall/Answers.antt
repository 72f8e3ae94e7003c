use Rattle.std.proofs.Common.{◌∙◌, List, ap, map, sym}
use Rattle.std.proofs.lemmas.Result.{on_ok_weaker}
use Rattle.csdf_model.specs.Graph.{Channel, channel_view}
use Rattle.csdf_explain.specs.Circle.{circle, waiting_but}
use Rattle.csdf_explain.proofs.ExplainLemmas.{waits_told}
use Rattle.csdf_explain.proofs.stalled.Stalled.push_stall.Goals as goal

pub returns : goal.returns
returns c =
    let s = c.args.self.now in
    let these_is = c.deref-4.ensures.value ∙ c.in_ok-these.ensures ∙ ap (circle (map channel_view c.channels.result.now)) c.deref.ensures.value
    ∙ ap (λ (cs : List Channel). circle cs s.stall.waits.items) c.channels.ensures.value in
    let others_is = c.deref-5.ensures.value ∙ c.in_ok-others.ensures
    ∙ ap (λ them. waiting_but them 0 c.deref-3.result.now) (c.deref-2.ensures.value ∙ sym c.deref-4.ensures.value)
    ∙ ap (waiting_but c.deref-4.result.now 0) c.deref-3.ensures.value in
    on_ok_weaker c.push_others.result (λ told. waits_told s _ _ _ _ _ these_is others_is (c.in_ok-push_circle.ensures {u = tt}) told) c.push_others.ensures
