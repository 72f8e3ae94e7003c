use Rattle.std.proofs.Common.{arith, map}
use Rattle.csdf_model.specs.Graph.{channel_view, ports_view, ports_of}
use Rattle.csdf_model.proofs.PortLemmas.{made_count, made_at}
use Rattle.csdf_model.proofs.graph.Graph.ports_of.Goals as goal

pub index-requires : goal.index-requires
index-requires c =
    let lt = rw (← c.self.view_is) at c.requires in
    let count = made_count ports_view (ports_of (map channel_view c.self.inside.channels.items)) c.self.inside.ports.items _ c.self.invariant.1 in
    omega (arith, lt, count, c.self.inside.ports.ok.0)

pub returns-clause-ports : goal.returns-clause-ports
returns-clause-ports c =
    let lt = rw (← c.self.view_is) at c.requires in
    rw (← c.self.view_is)
    (made_at ports_view (ports_of (map channel_view c.self.inside.channels.items)) c.self.inside.ports.items _ c.args.actor _ c.self.invariant.1 lt
    c.index.ensures)
