use Rattle.std.proofs.Common.{arith, rules}
use Rattle.std.proofs.lemmas.Grind.{common_steps}
use Rattle.csdf_run_files.proofs.run.with_feed.Goals as goal

pub returns-in_ok-push-in-Ok-told : goal.returns-in_ok-push-in-Ok-told
returns-in_ok-push-in-Ok-told c = grind (arith, common_steps)

pub returns-in-Err-told : goal.returns-in-Err-told
returns-in-Err-told c = search rules
