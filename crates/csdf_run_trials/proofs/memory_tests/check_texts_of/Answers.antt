use Rattle.std.proofs.Common.{arith}
use Rattle.csdf_floor.proofs.Works.{few_in_thousand}
use Rattle.csdf_run_trials.proofs.memory_tests.check_texts_of.Goals as goal

pub run_texts-requires-clause-goes_on : goal.run_texts-requires-clause-goes_on
run_texts-requires-clause-goes_on g c = λ κs within. (omega arith, λ a file. few_in_thousand a 1 file.holds.accepted (omega arith))
