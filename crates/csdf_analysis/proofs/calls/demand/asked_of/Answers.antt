use Rattle.std.proofs.Common.{◌≤◌, map, subst, sym}
use Rattle.csdf_model.specs.Graph.{actor_view, channel_view}
use Rattle.csdf_analysis.proofs.DemandLemmas.{ask_all, leave_free}
use Rattle.csdf_analysis.proofs.JoinLemmas.{entry_few, entry_some}
use Rattle.csdf_analysis.proofs.calls.demand.asked_of.Goals as goal

pub lowest_terms-requires-clause-some_from : goal.lowest_terms-requires-clause-some_from
lowest_terms-requires-clause-some_from c =
    subst (λ n. 1 ≤ n) (sym c.from.ensures)
    (entry_some _ c.args.members.now c.args.channel.now.from c.requires.entries c.requires.link.from)

pub lowest_terms-requires-clause-some_to : goal.lowest_terms-requires-clause-some_to
lowest_terms-requires-clause-some_to c =
    subst (λ n. 1 ≤ n) (sym c.from-then-from-to.ensures)
    (entry_some _ c.args.members.now c.args.channel.now.to c.requires.entries c.requires.link.to)

pub lowest_terms-requires-clause-few_from : goal.lowest_terms-requires-clause-few_from
lowest_terms-requires-clause-few_from c =
    subst (λ n. n ≤ 1024) (sym c.from.ensures)
    (entry_few _ c.args.members.now c.args.channel.now.from c.requires.entries c.requires.link.from)

pub lowest_terms-requires-clause-few_to : goal.lowest_terms-requires-clause-few_to
lowest_terms-requires-clause-few_to c =
    subst (λ n. n ≤ 1024) (sym c.from-then-from-to.ensures)
    (entry_few _ c.args.members.now c.args.channel.now.to c.requires.entries c.requires.link.to)

pub returns-then-from-to : goal.returns-then-from-to
returns-then-from-to c =
    let actors = map actor_view c.args.actors.now in
    let channel = channel_view c.args.channel.now in
    λ done members. ask_all actors done channel c.args.members.now _ _ c.lowest_terms.result c.requires.link c.if-from-to.true c.from.ensures
    c.from-then-from-to.ensures c.lowest_terms.ensures members

pub returns-else-from-to : goal.returns-else-from-to
returns-else-from-to c =
    let actors = map actor_view c.args.actors.now in
    let channel = channel_view c.args.channel.now in
    λ done members. leave_free actors done channel c.args.members.now c.requires.link c.if-from-to.false members
