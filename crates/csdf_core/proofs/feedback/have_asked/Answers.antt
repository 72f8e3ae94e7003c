use Rattle.std.proofs.Common.{◌≡◌, ◌≤◌, ◌+◌, ℕ, [], length, get_or, ap, subst, sym, ◌∙◌, refl, below_more, arith}
use Rattle.std.proofs.lemmas.Grind.{common_steps}
use Rattle.std.proofs.lemmas.List.{length-map}
use Rattle.csdf_pool.specs.Pool.{Held}
use Rattle.csdf_core.specs.Blocks.{capacity_at}
use Rattle.csdf_core.specs.Feedback.{HaveRoomFor}
use Rattle.csdf_core.specs.Feedback.{fills_at}
use Rattle.csdf_core.specs.Ports.{tokens_at, tokens_in}
use Rattle.csdf_core.proofs.BlockPorts.{by_places}
use Rattle.csdf_core.proofs.PortLemmas.{tokens_at-map}
use Rattle.csdf_core.proofs.feedback.have_asked.Goals as goal

pub returns-then-from-given : goal.returns-then-from-given
returns-then-from-given c = grind (arith, common_steps)

pub filled_of-given-requires-clause-channel : goal.filled_of-given-requires-clause-channel
filled_of-given-requires-clause-channel c = c.outputs-outputs.ensures.within c.loop-channel.channel-index 0 c.loop-channel-test.true

pub overflow_add-from : goal.overflow_add-from
overflow_add-from c = omega (arith, c.len.type_inv, c.from.ensures, c.filled_of-given.ensures.small, c.ranges.n.fits)

pub loop-channel-preserved : goal.loop-channel-preserved
loop-channel-preserved c =
    let i : ℕ = c.loop-channel.channel-index in
    let x : ℕ = get_or c.outputs-outputs.result.now i 0 in
    let held : c.len.result ≡ length (tokens_at (tokens_in c.args.pool.now) x) =
    c.len.ensures ∙ sym (ap length (tokens_at-map c.args.pool.now.chains x) ∙ length-map (get_or c.args.pool.now.chains x []) (λ (h : Held). h.1)) in
    below_more (λ j. length (tokens_at (tokens_in c.args.pool.now) (get_or c.outputs-outputs.result.now j 0)) + fills_at c.args.plan.now.channels c.args.own c.args.turn.firing c.args.n (get_or c.outputs-outputs.result.now j 0)
    ≤ capacity_at c.args.plan.now.channels (get_or c.outputs-outputs.result.now j 0)) i c.loop-channel.invariant
    (omega (arith, held, c.from.ensures, c.if-from-given.false, c.filled_of-given.ensures.value, c.capacity.ensures, c.from-in-loop-channel.ensures))

pub returns : goal.returns
returns c = (
  λ _. subst (HaveRoomFor c.args.plan.now.channels (tokens_in c.args.pool.now) (fills_at c.args.plan.now.channels c.args.own c.args.turn.firing c.args.n)) c.outputs-outputs.ensures.value
      (by_places _ c.outputs-outputs.result.now (λ j lt. c.loop-channel.invariant j (omega (arith, lt, c.loop-channel-test.false)))),
  λ _. refl,
)
