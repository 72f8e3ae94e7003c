use Rattle.std.proofs.Common.{◌∙◌, ap, max}
use Rattle.csdf_told.proofs.CrewLemmas.{paying}
use Rattle.csdf_told.proofs.crew.paying_workers.Goals as goal

pub returns-then-gains_by_workers-clause-value : goal.returns-then-gains_by_workers-clause-value
returns-then-gains_by_workers-clause-value c =
    c.max.ensures ∙ ap (λ n. max n 1) c.min.ensures
    ∙ paying c.args.accepted.now c.args.processors c.gains_by_workers.result _ c.gains_by_workers.ensures c.if-gains_by_workers.true

pub returns-else-gains_by_workers-clause-value : goal.returns-else-gains_by_workers-clause-value
returns-else-gains_by_workers-clause-value c =
    paying c.args.accepted.now c.args.processors c.gains_by_workers.result _ c.gains_by_workers.ensures c.if-gains_by_workers.false
