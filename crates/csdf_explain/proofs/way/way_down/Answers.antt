use Rattle.std.proofs.Common.{◌≡◌, ◌-◌, ◌∙◌, suc, Some, map, ap, arith}
use Rattle.csdf_model.specs.Graph.{channel_view}
use Rattle.csdf_explain.proofs.WayLemmas.{down_all, down_more, some_step}
use Rattle.csdf_explain.proofs.way.way_down.Goals.{else-loop-left-test, then-loop-left-test+in_default}
use Rattle.csdf_explain.proofs.way.way_down.Goals as goal

pub loop-left-preserved : goal.loop-left-preserved
loop-left-preserved c = λ start are at.
    (let before = c.loop-left.invariant start are at in
    down_more (map channel_view c.args.channels.now) start c.loop-left.actor c.args.from c.args.count c.loop-left.left c.in-Some.number c.in-Some.next
    c.loop-left.way.items c.push.new.self.items c.args.distances.now are before.0 c.loop-left-test.true c.in-Some.ensures.found
    c.in_ok-push.ensures.items before.1)

pub returns : goal.returns
returns c = λ start are at.
    (let before = c.loop-left.invariant start are at in
    elim c.loop-left-test.branch [
      | else-loop-left-test w ↦
          down_all (map channel_view c.args.channels.now) start c.loop-left.actor c.args.from c.args.count c.loop-left.left c.loop-left.way.items
          c.args.distances.now are at before.0 (omega (arith, w.loop-left-test.false)) before.1
      | then-loop-left-test+in_default w ↦
          let whole : c.loop-left.left ≡ suc (c.loop-left.left - 1) = omega (arith, w.loop-left-test.true) in
          let some = some_step (map channel_view c.args.channels.now) start c.loop-left.actor (c.loop-left.left - 1) c.args.distances.now are
          (before.0 ∙ ap Some whole) in
          absurd (w.step.ensures.none w.in_default.is some.0 some.1 some.2)
    ])
