use Rattle.std.proofs.Common.{◌-◌, ◌/◌, ℕ, inl, inr, map, arith}
use Rattle.csdf_model.specs.Graph.{channel_view}
use Rattle.csdf_analysis.proofs.CountLemmas.{less_or_not}
use Rattle.csdf_analysis.proofs.MostLemmas.{given_mono, given_none}
use Rattle.csdf_analysis.proofs.most.most_given.Goals as goal

pub loop-low-init : goal.loop-low-init
loop-low-init c = record {
  order = omega arith;
  high = omega arith;
  fits = omega (arith, given_none (map channel_view c.args.channels.now) c.args.actor);
  greatest = λ n le fits. le;
}

pub loop-low-preserved : goal.loop-low-preserved
loop-low-preserved c =
    let middle : ℕ = c.loop-low.high - (c.loop-low.high - c.loop-low.low) / 2 in
    record {
      order = omega arith;
      high = omega arith;
      fits = c.loop-low.invariant.fits;
      greatest = λ n le fits. elim (less_or_not n middle) [
        | inl lt ↦ omega arith
        | inr ge ↦
            let more = given_mono (map channel_view c.args.channels.now) c.args.actor middle n ge in
            absurd (omega (arith, more, fits, c.given_by-in-loop-low.ensures, c.if-given_by-tokens-2.false))
      ];
    }
