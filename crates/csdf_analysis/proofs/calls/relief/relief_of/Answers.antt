use Rattle.csdf_analysis.proofs.ReliefLemmas.{waits_within}
use Rattle.csdf_analysis.proofs.calls.relief.relief_of.Goals as goal

pub first_relief-requires-clause-exist : goal.first_relief-requires-clause-exist
first_relief-requires-clause-exist c =
    waits_within c.args.graph.now.channels c.args.vector.now.q.items _ c.args.stall.now c.deref.result.now c.requires.stall c.deref.ensures.value
