use Rattle.std.proofs.Common.{sym, ◌∙◌}
use Rattle.csdf_words.specs.CommandLine.{stream_view}
use Rattle.csdf_flows.proofs.StreamLemmas.{refuses}
use Rattle.csdf_flows.proofs.stream.accepted_of.Goals as goal

pub returns-clause-refused : goal.returns-clause-refused
returns-clause-refused c =
    refuses (stream_view c.args.order) c.args.bytes.now c.in_ok-graph.graph c.accepted_in_room.result c.in_ok-graph.ensures
    (sym c.in_ok-lack.ensures ∙ c.in_default.is) c.accepted_in_room.ensures.refused
