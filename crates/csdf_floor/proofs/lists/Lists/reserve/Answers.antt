use Rattle.std.proofs.Common.{◌<◌, length, ap, arith, ◌∙◌}
use Rattle.std.proofs.lemmas.List.{length-map}
use Rattle.std.proofs.lemmas.Result.{IfOk-weaker}
use Rattle.std.proofs.Math.Seq.{map-set_same}
use Rattle.csdf_floor.proofs.Works.{room_at}
use Rattle.csdf_floor.proofs.lists.Lists.reserve.Goals as goal

pub returns-clause-lists : goal.returns-clause-lists
returns-clause-lists c =
    rw (← c.self.view_is) (map-set_same (λ v. v.items) c.self.inside.lists.items c.args.actor c.reserve.new.self c.index_mut.result.now (c.reserve.ensures.items
    ∙ ap (λ v. v.items) c.index_mut.ensures.value))

pub returns-clause-room : goal.returns-clause-room
returns-clause-room c =
    let lt : c.args.actor < length c.self.inside.lists.items =
    (let there = rw (← c.self.view_is) at c.requires in omega (arith, there, length-map c.self.inside.lists.items (λ v. v.items))) in
    IfOk-weaker c.reserve.result _ _ (λ ok le. room_at c.self.inside.lists.items c.args.actor c.reserve.new.self c.args.more lt le) c.reserve.ensures.ok
