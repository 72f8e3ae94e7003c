use Rattle.std.proofs.Common.{List, map, subst, sym}
use Rattle.std.specs.Prelude.{All, IfErr, IfOk}
use Rattle.std.proofs.lemmas.List.Elements.{All-take}
use Rattle.csdf_model.specs.Graph.{Channel, actor_view, channel_view}
use Rattle.csdf_analysis.specs.Members.{AreMembers, IsLink}
use Rattle.csdf_analysis.specs.Repetition.{IsRefused}
use Rattle.csdf_analysis.proofs.DemandLemmas.{front_seen}
use Rattle.csdf_analysis.proofs.calls.demand.members_before.Goals as goal

pub balanced-requires-clause-channels : goal.balanced-requires-clause-channels
balanced-requires-clause-channels c =
    let actors = map actor_view c.args.actors.now in
    subst (λ (cs : List Channel). All (IsLink actors) cs) (sym (front_seen c.args.channels.now c.args.number))
    (All-take (IsLink actors) c.args.number (map channel_view c.args.channels.now) c.requires.channels)

pub returns-clause-members : goal.returns-clause-members
returns-clause-members c =
    let actors = map actor_view c.args.actors.now in
    subst (λ (cs : List Channel). IfOk c.balanced.result (λ v. AreMembers actors cs v.items)) (front_seen c.args.channels.now c.args.number)
    c.balanced.ensures.members

pub returns-clause-refusal : goal.returns-clause-refusal
returns-clause-refusal c =
    let actors = map actor_view c.args.actors.now in
    subst (λ (cs : List Channel). IfErr c.balanced.result (IsRefused actors cs)) (front_seen c.args.channels.now c.args.number) c.balanced.ensures.refusal
