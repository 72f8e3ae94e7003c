use Rattle.csdf_analysis.proofs.LowerLemmas.{within_at, room_at}
use Rattle.std.proofs.Common.{rules}
use Rattle.csdf_analysis.proofs.calls.stall.bounds_of.Goals as goal

pub returns-in-Given : goal.returns-in-Given
returns-in-Given c = search rules

pub full_capacities-requires-clause-channels : goal.full_capacities-requires-clause-channels
full_capacities-requires-clause-channels c =
    within_at c.args.graph.now c.args.vector.now.r.items c.args.vector.now.q.items _ _ c.channels.ensures.well_formed c.requires c.deref.ensures.value c.channels.ensures.value

pub full_capacities-requires-clause-room : goal.full_capacities-requires-clause-room
full_capacities-requires-clause-room c =
    room_at c.args.graph.now c.args.vector.now.r.items c.args.vector.now.q.items _ _ c.requires c.deref.ensures.value c.channels.ensures.value

pub first_bounds-requires-clause-channels : goal.first_bounds-requires-clause-channels
first_bounds-requires-clause-channels c =
    within_at c.args.graph.now c.args.vector.now.r.items c.args.vector.now.q.items _ _ c.channels-in-Given.ensures.well_formed c.requires
    c.deref-in-Given.ensures.value c.channels-in-Given.ensures.value

pub first_bounds-requires-clause-room : goal.first_bounds-requires-clause-room
first_bounds-requires-clause-room c =
    room_at c.args.graph.now c.args.vector.now.r.items c.args.vector.now.q.items _ _ c.requires c.deref-in-Given.ensures.value
    c.channels-in-Given.ensures.value
