use Rattle.std.proofs.Common.{rules}
use Rattle.csdf_run_trials.proofs.limits.floor_tests.settled.Goals as goal

pub settle-requires-clause-few_firings : goal.settle-requires-clause-few_firings
settle-requires-clause-few_firings g c = let few = c.may_run.ensures.0 in search (rules, few)
