use Rattle.std.proofs.Common.{arith}
use Rattle.std.proofs.lemmas.Grind.{common_steps}
use Rattle.csdf_run.proofs.texts.feeds_of.Goals as goal

pub returns-in_err-push_feed-clause-refused : goal.returns-in_err-push_feed-clause-refused
returns-in_err-push_feed-clause-refused c = grind (arith, common_steps)

pub returns-in_err-push_feed-2-clause-refused : goal.returns-in_err-push_feed-2-clause-refused
returns-in_err-push_feed-2-clause-refused c = grind (arith, common_steps)

pub returns-clause-feeds : goal.returns-clause-feeds
returns-clause-feeds c = grind (arith, common_steps)

pub loop-number-preserved : goal.loop-number-preserved
loop-number-preserved c = grind (arith, common_steps)
