use Rattle.std.proofs.Common.{ℕ, ◌≤◌, List, get_or, arith, below_more, subst, sym}
use Rattle.std.specs.Prelude.{ℤ}
use Rattle.csdf_core.specs.Engine.{HasRoom, IsHeld}
use Rattle.csdf_core.specs.Plan.{Channel}
use Rattle.csdf_core.specs.Ports.{tokens_in}
use Rattle.csdf_core.specs.Sides.{LetsThrough}
use Rattle.csdf_core.proofs.SideLemmas.{fewer_through}
use Rattle.csdf_core.proofs.engine.let_through.Goals as goal
use Rattle.csdf_core.proofs.engine.let_through.Goals.{in-Input, in-Output}

pub loop-channel-preserved : goal.loop-channel-preserved
loop-channel-preserved c =
    let cs : List Channel = c.args.plan.now.channels in
    let tokens : List (List ℤ) = tokens_in c.args.pool.now in
    let here : ℕ = get_or c.ends-ends.result.now c.loop-channel.channel-index 0 in
    let step : (c.match-side.cycles ≤ c.loop-channel.cycles) × LetsThrough c.args.side cs tokens c.args.actor c.args.k c.args.phases c.match-side.cycles here =
    elim c.match-side.branch [
      | in-Input w ↦ (
        omega (arith, w.cycles-is, w.held_in-cycles.ensures.most),
        subst (λ s. LetsThrough s cs tokens c.args.actor c.args.k c.args.phases c.match-side.cycles here) (sym w.in-Input.is)
            (subst (λ n. IsHeld cs tokens c.args.actor c.args.k c.args.phases n here) (sym w.cycles-is) w.held_in-cycles.ensures.held),
      )
      | in-Output w ↦ (
        omega (arith, w.cycles-is, w.room_in-cycles.ensures.most),
        subst (λ s. LetsThrough s cs tokens c.args.actor c.args.k c.args.phases c.match-side.cycles here) (sym w.in-Output.is)
            (subst (λ n. HasRoom cs tokens c.args.actor c.args.k c.args.phases n here) (sym w.cycles-is) w.room_in-cycles.ensures.room),
      )
    ] in (
      omega (arith, step.0, c.loop-channel.invariant.0),
      below_more (λ j. LetsThrough c.args.side cs tokens c.args.actor c.args.k c.args.phases c.match-side.cycles (get_or c.ends-ends.result.now j 0))
          c.loop-channel.channel-index
          (λ j lt. fewer_through c.args.side cs tokens c.args.actor c.args.k c.args.phases c.match-side.cycles c.loop-channel.cycles
          (get_or c.ends-ends.result.now j 0) step.0 (c.loop-channel.invariant.1 j lt))
          step.1,
    )
