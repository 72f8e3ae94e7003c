use Rattle.std.proofs.Common.{List, ℕ, map, subst, sym, ap, ◌∙◌}
use Rattle.csdf_model.specs.Graph.{actor_view, channel_view}
use Rattle.csdf_analysis.specs.Repetition.{IsLeastRepetition, IsSmall}
use Rattle.csdf_analysis.proofs.LeastLemmas.{entries_of, entries_small, members_least}
use Rattle.csdf_analysis.proofs.calls.repetition.cycles.Goals as goal

pub returns-clause-least : goal.returns-clause-least
returns-clause-least c =
    let actors = map actor_view c.args.actors.now in
    let channels = map channel_view c.args.channels.now in
    let members = c.in_ok-members.members.items in
    subst (λ (r : List ℕ). IsLeastRepetition actors channels r) (ap entries_of (sym c.deref.ensures.value)
    ∙ sym c.in_ok-r.ensures) (members_least actors channels members c.in_ok-members.ensures.members)

pub returns-clause-small : goal.returns-clause-small
returns-clause-small c =
    let actors = map actor_view c.args.actors.now in
    let members = c.in_ok-members.members.items in
    subst (λ (r : List ℕ). IsSmall r) (ap entries_of (sym c.deref.ensures.value)
    ∙ sym c.in_ok-r.ensures) (entries_small actors members c.in_ok-members.ensures.members.entries)
