use Rattle.std.proofs.Common.{◌+◌, ℕ, ◌≡◌, List, ap, ◌∙◌, arith}
use Rattle.csdf_core.specs.Plan.{Channel}
use Rattle.csdf_core.specs.Rows.{gift}
use Rattle.csdf_floor.proofs.Notings.{gifts_on}
use Rattle.csdf_floor.proofs.noting.gifts_of.Goals as goal

pub loop-firing-preserved : goal.loop-firing-preserved
loop-firing-preserved c =
    let cs : List Channel = c.args.core.now.plan.channels in
    let gives : c.gift_at.result ≡ gift c.args.actor c.loop-firing._firing cs = c.gift_at.ensures.value
    ∙ ap (λ (k : ℕ). gift c.args.actor k cs) c.loop-firing.invariant.firing in
    record {
      firing = omega (arith, c.turn_after-turn.ensures.firing, c.loop-firing.invariant.firing);
      in_phase = c.turn_after-turn.ensures.in_phase;
      low = c.turn_after-turn.ensures.low;
      gifts = gifts_on cs c.args.actor c.loop-firing._firing (c.fired-first.result + c.args.n) c.gift_at.result c.loop-firing.gifts.items
          c.push_reserved.new.self.items _ c.loop-firing-test.true gives c.push_reserved.ensures.items c.loop-firing.invariant.gifts;
      len = omega (arith, c.push_reserved.ensures.len, c.loop-firing.invariant.len, c.loop-firing-test.true);
      room = omega (arith, c.push_reserved.ensures.capacity, c.loop-firing.invariant.room);
    }
