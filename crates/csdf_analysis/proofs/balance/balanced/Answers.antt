use Rattle.std.proofs.lemmas.Grind.{common_steps}
use Rattle.std.proofs.Common.{◌<◌, List, [], length, map, subst, sym, ap, ◌∙◌, arith}
use Rattle.std.specs.Prelude.{option_map}
use Rattle.std.proofs.lemmas.List.{length-map}
use Rattle.csdf_model.specs.Graph.{actor_view, channel_view}
use Rattle.csdf_analysis.specs.declared.members.Member.{Member}
use Rattle.csdf_analysis.specs.Members.{IsLink, AreMembers, Joins, alone}
use Rattle.csdf_analysis.proofs.LeastLemmas.{alone_members, first_unbalanced, next_members, channel_at, channel_has}
use Rattle.csdf_analysis.proofs.balance.balanced.Goals as goal

pub loop-place-init : goal.loop-place-init
loop-place-init c =
    let actors = map actor_view c.args.actors.now in
    let len = length-map c.args.actors.now actor_view in
    subst (λ (ms : List Member). AreMembers actors [] ms) (ap alone len ∙ sym c.in_ok-members.ensures) (alone_members actors)

pub joined-requires-clause-channel : goal.joined-requires-clause-channel
joined-requires-clause-channel c =
    channel_has (IsLink (map actor_view c.args.actors.now)) c.args.channels.now c.loop-place.place c.index-channels-place.result c.loop-place-test.true
    c.index-channels-place.is c.requires.channels

pub returns-in-None-clause-refusal : goal.returns-in-None-clause-refusal
returns-in-None-clause-refusal c =
    let actors = map actor_view c.args.actors.now in
    let channels = map channel_view c.args.channels.now in
    let channel = channel_view c.index-channels-place.result in
    let len = length-map c.args.channels.now channel_view in
    let here : c.loop-place.place < length channels = omega (arith, len, c.loop-place-test.true) in
    first_unbalanced actors channels c.loop-place.members.items c.loop-place.place channel here
    (channel_at c.args.channels.now c.loop-place.place c.index-channels-place.result c.index-channels-place.is) c.loop-place.invariant
    (subst (λ o. Joins actors channel c.loop-place.members.items (option_map (λ v. v.items) o)) c.in-None.is c.in_ok-next.ensures)

pub loop-place-preserved : goal.loop-place-preserved
loop-place-preserved c =
    let actors = map actor_view c.args.actors.now in
    let channels = map channel_view c.args.channels.now in
    let channel = channel_view c.index-channels-place.result in
    let len = length-map c.args.channels.now channel_view in
    let here : c.loop-place.place < length channels = omega (arith, len, c.loop-place-test.true) in
    next_members actors channels c.loop-place.members.items c.in-Some.next.items c.loop-place.place channel here
    (channel_at c.args.channels.now c.loop-place.place c.index-channels-place.result c.index-channels-place.is) c.loop-place.invariant
    (subst (λ o. Joins actors channel c.loop-place.members.items (option_map (λ v. v.items) o)) c.in-Some.is c.in_ok-next.ensures)

pub returns-clause-members : goal.returns-clause-members
returns-clause-members c = grind (arith, common_steps)
