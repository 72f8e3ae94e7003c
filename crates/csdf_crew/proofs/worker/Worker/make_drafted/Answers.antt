use Rattle.std.proofs.Common.{rules}
use Rattle.csdf_crew.proofs.worker.Worker.make_drafted.Goals as goal

pub settle_block-answer-requires-clause-holds : goal.settle_block-answer-requires-clause-holds
settle_block-answer-requires-clause-holds c = search rules

pub settle_block-answer-requires-clause-made : goal.settle_block-answer-requires-clause-made
settle_block-answer-requires-clause-made c = search rules

pub give_back-requires-clause-holds : goal.give_back-requires-clause-holds
give_back-requires-clause-holds c = search rules

pub make_and_draft-made-requires-clause-claim : goal.make_and_draft-made-requires-clause-claim
make_and_draft-made-requires-clause-claim c = search rules
