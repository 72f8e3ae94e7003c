use Rattle.std.proofs.Common.{rules}
use Rattle.csdf_analysis.proofs.room.accept_or_hand_back.Goals as goal

pub returns-in-Auto-clause-graph : goal.returns-in-Auto-clause-graph
returns-in-Auto-clause-graph c = search rules
