use Rattle.std.proofs.Common.{sym, subst, rules}
use Rattle.csdf_kernel.specs.declared.Job.{Job}
use Rattle.csdf_claims.specs.Board.{Holds}
use Rattle.csdf_crew.proofs.Held.{keeps_finished}
use Rattle.csdf_crew.proofs.worker.pass.Goals as goal

pub enter-requires-clause-holds : goal.enter-requires-clause-holds
enter-requires-clause-holds g c =
    subst (λ (job : Job). Holds c.args.place.now.view job.actor job.firing) (sym c.job-job.ensures) c.requires.holds.second

pub returns-clause-finished : goal.returns-clause-finished
returns-clause-finished g c = keeps_finished c.args.place.now.view c.enter.new.place.view c.enter.ensures.keeps

pub returns-clause-passed : goal.returns-clause-passed
returns-clause-passed g c = search rules
