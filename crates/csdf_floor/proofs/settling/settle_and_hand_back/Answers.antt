use Rattle.std.proofs.Common.{rules}
use Rattle.csdf_floor.proofs.settling.settle_and_hand_back.Goals as goal

pub into_settled-requires : goal.into_settled-requires
into_settled-requires c = search rules

pub returns-clause-answer : goal.returns-clause-answer
returns-clause-answer c = search rules

pub returns-clause-totals : goal.returns-clause-totals
returns-clause-totals c = search rules
