use Rattle.std.proofs.lemmas.Grind.{common_steps}
use Rattle.std.proofs.Common.{◌≡◌, ap, arith, subst, sym, ◌∙◌}
use Rattle.std.specs.Prelude.{sum}
use Rattle.smallvec.specs.SmallVec.{HasRoomFor}
use Rattle.csdf_core.specs.Rows.{gift}
use Rattle.csdf_floor.specs.Work.{program}
use Rattle.csdf_floor.proofs.Sequential.{sum_of_counts}
use Rattle.csdf_floor.proofs.Works.{counted}
use Rattle.csdf_floor.proofs.work.Work.push_phase.Goals as goal

pub push_value-requires-clause-room : goal.push_value-requires-clause-room
push_value-requires-clause-room c =
    let total : sum c.as_slice.result.now ≡ gift c.args.actor c.args.turn.firing (program c.args.self.now).plan.channels =
    ap sum (counted (program c.args.self.now) c.args.core.now.plan c.args.actor c.args.turn.firing c.as_slice.result.now c.requires.plan
    (c.as_slice.ensures ∙ c.in_ok-put_counts.ensures.value))
    ∙ sum_of_counts c.args.actor c.args.turn.firing (program c.args.self.now).plan.channels in
    subst (HasRoomFor c.args.outputs.now) (sym total) c.requires.room

pub returns-clause-items : goal.returns-clause-items
returns-clause-items c =
    let told = counted (program c.args.self.now) c.args.core.now.plan c.args.actor c.args.turn.firing c.as_slice.result.now c.requires.plan
    (c.as_slice.ensures ∙ c.in_ok-put_counts.ensures.value) in
    grind (arith, common_steps, told)
