use Rattle.csdf_floor.specs.Work.{program}
use Rattle.csdf_floor.proofs.Makings.{on_ok}
use Rattle.csdf_floor.proofs.Works.{counted}
use Rattle.std.proofs.Common.{ap, ◌∙◌}
use Rattle.csdf_floor.specs.Journal.{output_counts}
use Rattle.csdf_floor.proofs.book.Book.counts_into.Goals as goal

pub returns-clause-value : goal.returns-clause-value
returns-clause-value c =
    rw (← c.self.view_is) (on_ok c.put_counts.result _ _
    (λ e. counted (program c.self.inside.work) c.self.inside.core.plan c.args.actor c.turn-turn.result.firing c.put_counts.new.counts.items
    c.self.invariant.kept.plan e ∙ ap (output_counts (program c.self.inside.work) c.args.actor) c.turn-turn.ensures.firing) c.put_counts.ensures.value)
