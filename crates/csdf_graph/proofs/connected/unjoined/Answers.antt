use Rattle.std.proofs.Common.{sym, ◌∙◌, map}
use Rattle.csdf_model.specs.Graph.{channel_view}
use Rattle.csdf_graph.proofs.JoinedLemmas.{connected_joined, joined_connected}
use Rattle.csdf_graph.proofs.connected.unjoined.Goals as goal

pub returns : goal.returns
returns c = (
  (λ yes. connected_joined c.args.count (map channel_view c.args.channels.now) (sym c.in_ok-apart.ensures ∙ yes)),
  (λ joined. c.in_ok-apart.ensures ∙ joined_connected c.args.count (map channel_view c.args.channels.now) c.requires joined),
)
