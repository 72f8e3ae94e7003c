use Rattle.std.proofs.Common.{List, map, subst, sym, ◌∙◌}
use Rattle.std.specs.Prelude.{option_map}
use Rattle.std.proofs.lemmas.Result.{IfOk-weaker}
use Rattle.csdf_model.specs.Graph.{actor_view, channel_view}
use Rattle.csdf_analysis.specs.declared.members.Member.{Member}
use Rattle.csdf_analysis.specs.Members.{Moves}
use Rattle.csdf_analysis.proofs.JoinLemmas.{merge_joins, merge_read, same_group_read, put_read, taken_read, same_keeps, same_refuses}
use Rattle.csdf_analysis.proofs.balance.joined.Goals as goal

pub returns-then-from-to : goal.returns-then-from-to
returns-then-from-to c =
    let actors = map actor_view c.args.actors.now in
    let channel = channel_view c.args.channel.now in
    let members = c.args.members.items in
    let link = c.requires.channel in
    let merge = merge_read actors channel members c.merge_of.result c.index-from.result.now c.index-to.result.now c.put_in-put.result c.taken_out-taken.result
    link c.requires.members
    c.index-from.ensures c.index-to.ensures c.put_in-put.ensures c.taken_out-taken.ensures c.if-from-to.true c.merge_of.ensures in
    IfOk-weaker c.merged.result _ _ (λ next moves.
    merge_joins actors channel members c.merge_of.result c.merge_of.ensures.divisor link merge (option_map (λ v. v.items) next)
    (subst (λ (ms : List Member). Moves c.merge_of.result ms (option_map (λ v. v.items) next)) c.deref.ensures.value moves)) c.merged.ensures

pub returns-then-put-taken : goal.returns-then-put-taken
returns-then-put-taken c =
    let actors = map actor_view c.args.actors.now in
    let channel = channel_view c.args.channel.now in
    let members = c.args.members.items in
    let link = c.requires.channel in
    let group = same_group_read actors channel members c.index-from.result.now c.index-to.result.now link c.requires.members c.index-from.ensures
    c.index-to.ensures c.if-from-to.false in
    let put = put_read actors channel members c.index-from.result.now c.put_in-put.result link c.requires.members c.index-from.ensures c.put_in-put.ensures in
    let taken = taken_read actors channel members c.index-to.result.now c.taken_out-taken.result link c.requires.members c.index-to.ensures
    c.taken_out-taken.ensures in
    λ done kept. same_keeps actors done channel members link group (sym put ∙ c.if-put-taken.true ∙ taken) kept

pub returns-else-put-taken : goal.returns-else-put-taken
returns-else-put-taken c =
    let actors = map actor_view c.args.actors.now in
    let channel = channel_view c.args.channel.now in
    let members = c.args.members.items in
    let link = c.requires.channel in
    let group = same_group_read actors channel members c.index-from.result.now c.index-to.result.now link c.requires.members c.index-from.ensures
    c.index-to.ensures c.if-from-to.false in
    let put = put_read actors channel members c.index-from.result.now c.put_in-put.result link c.requires.members c.index-from.ensures c.put_in-put.ensures in
    let taken = taken_read actors channel members c.index-to.result.now c.taken_out-taken.result link c.requires.members c.index-to.ensures
    c.taken_out-taken.ensures in
    λ done kept can. same_refuses actors done channel members link group (λ same. c.if-put-taken.false (put ∙ same ∙ sym taken)) kept can
