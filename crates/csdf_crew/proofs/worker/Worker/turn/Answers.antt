use Rattle.std.proofs.lemmas.Grind.{common_steps}
use Rattle.std.proofs.Common.{rules, arith}
use Rattle.csdf_crew.proofs.worker.Worker.turn.Goals as goal

pub settle_start-answer-requires-clause-holds : goal.settle_start-answer-requires-clause-holds
settle_start-answer-requires-clause-holds g c = search rules

pub returns-clause-made : goal.returns-clause-made
returns-clause-made g c = search rules

pub finish-requires-clause-holds : goal.finish-requires-clause-holds
finish-requires-clause-holds g c = grind (arith, common_steps)

pub finish-requires-clause-actor : goal.finish-requires-clause-actor
finish-requires-clause-actor g c = grind (arith, common_steps)
