use Rattle.csdf_claims.proofs.Examples.{is_lawful, no_idle_word, no_second_holder, no_undone_firing}
use Rattle.csdf_run_trials.proofs.claim_tests.lawful_by_example.Goals as goal

pub returns : goal.returns
returns c = record { lawful = is_lawful; idle = no_idle_word; twice = no_second_holder; undone = no_undone_firing }
