use Rattle.csdf_analysis.proofs.RoomyLemmas.{auto_roomy_where}
use Rattle.csdf_analysis.proofs.room.accept_with_auto_room.Goals as goal

pub returns-in-Ok-clause-graph : goal.returns-in-Ok-clause-graph
returns-in-Ok-clause-graph c =
    auto_roomy_where c.args.graph c.in-Ok.vector.q.items c.auto_room-periods.result c.accept_roomy.result c.auto_room-periods.ensures
    c.accept_roomy.ensures.graph c.accept_roomy.ensures.firings
