use Rattle.std.proofs.Common.{arith}
use Rattle.std.proofs.lemmas.Grind.{common_steps}
use Rattle.csdf_crew.proofs.worker.work.Goals as goal

pub returns-in-Err-clause-board : goal.returns-in-Err-clause-board
returns-in-Err-clause-board g c = grind (arith, common_steps)

pub loop-preserved : goal.loop-preserved
loop-preserved g c = grind (arith, common_steps)

pub loop-init : goal.loop-init
loop-init g c = grind (arith, common_steps)

pub returns-in-Err-clause-free : goal.returns-in-Err-clause-free
returns-in-Err-clause-free g c = grind (arith, common_steps)

pub advance-requires-clause-holds : goal.advance-requires-clause-holds
advance-requires-clause-holds g c = grind (arith, common_steps)

pub advance-requires-clause-actor : goal.advance-requires-clause-actor
advance-requires-clause-actor g c = grind (arith, common_steps)

pub advance-requires-clause-place : goal.advance-requires-clause-place
advance-requires-clause-place g c = grind (arith, common_steps)
