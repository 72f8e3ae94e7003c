use Rattle.std.proofs.lemmas.Grind.{common_steps}
use Rattle.std.proofs.Common.{◌≡◌, ◌<◌, length, refl, arith}
use Rattle.csdf_model.specs.Graph.{actor_view}
use Rattle.csdf_floor.proofs.Sames.{same_more, same_item}
use Rattle.csdf_floor.proofs.same.are_same_actors.Goals as goal

pub returns-then-not-is_same_actor : goal.returns-then-not-is_same_actor
returns-then-not-is_same_actor c =
    let there : c.loop-i.i < length c.args.right.now = omega (arith, c.if-left-right.false, c.loop-i-test.true) in (
      λ e. absurd (cc),
      λ same. c.if-not-is_same_actor.ensures.1
          (same_item actor_view c.args.left.now c.args.right.now c.loop-i.i c.index-left-i.result c.index-right-i.result c.loop-i-test.true there
          c.index-left-i.is c.index-right-i.is same),
    )

pub loop-i-preserved : goal.loop-i-preserved
loop-i-preserved c =
    let each : length c.args.left.now ≡ length c.args.right.now = omega (arith, c.if-left-right.false) in
    same_more actor_view c.args.left.now c.args.right.now c.loop-i.i c.index-left-i.result c.index-right-i.result c.loop-i-test.true each c.index-left-i.is
    c.index-right-i.is c.loop-i.invariant (c.if-not-is_same_actor.ensures.0 refl)

pub returns-then-left-right : goal.returns-then-left-right
returns-then-left-right c = grind (arith, common_steps)

pub returns : goal.returns
returns c = grind (arith, common_steps)
