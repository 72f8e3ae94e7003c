use Rattle.std.proofs.Common.{◌≡◌, false, List, length, replicate, ap, sym, ◌∙◌}
use Rattle.std.proofs.lemmas.List.{length-map}
use Rattle.csdf_model.specs.Graph.{Channel, Graph, channel_view}
use Rattle.csdf_run.specs.declared.totals.ChannelTotal.{ChannelTotal}
use Rattle.csdf_run.specs.Streaming.{StreamView}
use Rattle.csdf_run.specs.Totals.{no_total}
use Rattle.csdf_run.proofs.Totalling.{totals_at_first}
use Rattle.csdf_run.proofs.stream.Stream.new.Goals as goal

pub returns : goal.returns
returns c =
    let len : length c.channels.result.now ≡ length c.args.accepted.graph.channels =
    sym (length-map c.channels.result.now channel_view)
    ∙ ap (λ (cs : List Channel). length cs) c.channels.ensures.value
    ∙ ap (λ (g : Graph). length g.channels) c.graph.ensures.graph in
    ap {B = StreamView} (λ (ts : List ChannelTotal). record { accepted = c.args.accepted; totals = ts; is_over = false })
    (c.in_ok-totals.ensures ∙ ap (λ n. replicate n no_total) len ∙ totals_at_first c.args.accepted)
