use Rattle.std.proofs.Common.{◌<◌, ◌≤◌, length, refl, sym, ◌∙◌, ap, arith}
use Rattle.std.proofs.lemmas.List.{take_more_same, take_all}
use Rattle.csdf_floor.proofs.Books.{counted}
use Rattle.csdf_floor.proofs.book.Book.has_counts.Goals as goal

pub returns-then-totals-actors : goal.returns-then-totals-actors
returns-then-totals-actors c =
    let each = counted _ _ c.self.invariant in
    rw (← c.self.view_is) (λ e. absurd (cc), λ same. absurd (c.if-totals-actors.true (ap length (sym same) ∙ each ∙ sym c.actors.ensures.value)))

pub loop-actor-preserved : goal.loop-actor-preserved
loop-actor-preserved c =
    let each = counted _ _ c.self.invariant in
    let there : c.loop-actor.actor < length c.self.inside.core.now.counts =
    omega (arith, each, c.actors.ensures.value, c.if-totals-actors.false, c.loop-actor-test.true) in
    rw (← c.self.view_is)
    (take_more_same c.args.totals.now c.self.inside.core.now.counts c.loop-actor.actor 0 c.loop-actor-test.true there
    (rw (← c.self.view_is) at c.loop-actor.invariant) (c.if-totals-actor.false ∙ c.fired.ensures.value))

pub returns : goal.returns
returns c =
    let each = counted _ _ c.self.invariant in
    let len : length c.self.inside.core.now.counts ≤ c.loop-actor.actor =
    omega (arith, each, c.actors.ensures.value, c.if-totals-actors.false, c.loop-actor-test.false) in
    let front = rw (← c.self.view_is) at c.loop-actor.invariant in
    rw (← c.self.view_is) (
      λ e. sym (sym (take_all c.loop-actor.actor c.args.totals.now c.loop-actor-test.false) ∙ front
          ∙ take_all c.loop-actor.actor c.self.inside.core.now.counts len),
      λ same. refl,
    )
