use Rattle.std.proofs.lemmas.Grind.{common_steps}
use Rattle.std.proofs.Common.{length, ap, sym, refl, ◌∙◌, arith}
use Rattle.std.proofs.lemmas.List.{length-map}
use Rattle.csdf_model.specs.Graph.{actor_view}
use Rattle.csdf_floor.proofs.Works.{feed_next, feeds_are}
use Rattle.csdf_floor.proofs.work.are_feeds.Goals as goal

pub loop-actor-preserved : goal.loop-actor-preserved
loop-actor-preserved c = λ a lt.
    feed_next c.args.graph.now c.args.feeds.now c.loop-actor.actor a c.index-feeds-actor.result c.deref.result.now c.index-feeds-actor.is c.loop-actor-test.true
    c.deref.ensures.value (c.if-not-is_feed.ensures.0 refl) c.loop-actor.invariant lt

pub returns : goal.returns
returns c = (
  λ e. feeds_are c.args.graph.now c.args.feeds.now (c.if-feeds-actors.false ∙ sym (length-map c.actors.result.now actor_view)
      ∙ ap length c.actors.ensures.value) (λ a lt. c.loop-actor.invariant a (omega (arith, lt, c.loop-actor-test.false))),
  λ same. refl,
)

pub returns-then-not-is_feed : goal.returns-then-not-is_feed
returns-then-not-is_feed c = grind (arith, common_steps)

pub returns-then-feeds-actors : goal.returns-then-feeds-actors
returns-then-feeds-actors c = grind (arith, common_steps)

pub is_feed-requires : goal.is_feed-requires
is_feed-requires c = grind (arith, common_steps)

pub overflow_cast-actor : goal.overflow_cast-actor
overflow_cast-actor c = grind (arith, common_steps)
