use Rattle.csdf_floor.specs.Work.{program}
use Rattle.csdf_floor.proofs.Works.{counted}
use Rattle.std.proofs.Common.{◌≡◌, ℕ, List, map, ap, refl, sym, ◌∙◌}
use Rattle.csdf_core.specs.Ports.{give_at, outputs_at}
use Rattle.csdf_core.specs.Step.{count}
use Rattle.csdf_floor.specs.Journal.{output_counts}
use Rattle.csdf_floor.proofs.book.Book.are_counts.Goals as goal

pub returns : goal.returns
returns c =
    let puts : List ℕ = map (give_at c.self.inside.core.plan.channels c.turn-turn.result.firing) (outputs_at c.self.inside.core.plan.channels c.args.actor) in
    let told : puts ≡ output_counts (program c.self.inside.work) c.args.actor (count c.self.inside.core.now c.args.actor) =
    counted (program c.self.inside.work) c.self.inside.core.plan c.args.actor c.turn-turn.result.firing puts c.self.invariant.kept.plan refl
    ∙ ap (output_counts (program c.self.inside.work) c.args.actor) c.turn-turn.ensures.firing in
    rw (← c.self.view_is) ((λ is. c.are_counts.ensures.0 is ∙ told), (λ same. c.are_counts.ensures.1 (same ∙ sym told)))
