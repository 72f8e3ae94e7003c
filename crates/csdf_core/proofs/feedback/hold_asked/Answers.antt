use Rattle.std.proofs.Common.{◌≡◌, ◌≤◌, ℕ, [], length, get_or, ap, subst, sym, ◌∙◌, refl, below_more, arith}
use Rattle.std.proofs.lemmas.Grind.{common_steps}
use Rattle.std.proofs.lemmas.List.{length-map}
use Rattle.csdf_pool.specs.Pool.{Held}
use Rattle.csdf_core.specs.Blocks.{HoldAll}
use Rattle.csdf_core.specs.Feedback.{asks_at}
use Rattle.csdf_core.specs.Ports.{tokens_at, tokens_in}
use Rattle.csdf_core.proofs.BlockPorts.{by_places}
use Rattle.csdf_core.proofs.PortLemmas.{tokens_at-map}
use Rattle.csdf_core.proofs.feedback.hold_asked.Goals as goal

pub returns-then-from-needed : goal.returns-then-from-needed
returns-then-from-needed c = grind (arith, common_steps)

pub asked_of-needed-requires-clause-channel : goal.asked_of-needed-requires-clause-channel
asked_of-needed-requires-clause-channel c = c.inputs-inputs.ensures.within c.loop-channel.channel-index 0 c.loop-channel-test.true

pub asked_of-needed-requires-clause-own : goal.asked_of-needed-requires-clause-own
asked_of-needed-requires-clause-own c = c.inputs-inputs.ensures.own c.loop-channel.channel-index 0 c.loop-channel-test.true

pub loop-channel-preserved : goal.loop-channel-preserved
loop-channel-preserved c =
    let i : ℕ = c.loop-channel.channel-index in
    let x : ℕ = get_or c.inputs-inputs.result.now i 0 in
    let held : c.len.result ≡ length (tokens_at (tokens_in c.args.pool.now) x) =
    c.len.ensures ∙ sym (ap length (tokens_at-map c.args.pool.now.chains x) ∙ length-map (get_or c.args.pool.now.chains x []) (λ (h : Held). h.1)) in
    below_more (λ j. asks_at c.args.plan.now.channels c.args.own c.args.turn.firing c.args.n (get_or c.inputs-inputs.result.now j 0)
    ≤ length (tokens_at (tokens_in c.args.pool.now) (get_or c.inputs-inputs.result.now j 0))) i c.loop-channel.invariant
    (omega (arith, held, c.from.ensures, c.if-from-needed.false, c.asked_of-needed.ensures.value))

pub returns : goal.returns
returns c = (
  λ _. subst (HoldAll (tokens_in c.args.pool.now) (asks_at c.args.plan.now.channels c.args.own c.args.turn.firing c.args.n)) c.inputs-inputs.ensures.value
      (by_places _ c.inputs-inputs.result.now (λ j lt. c.loop-channel.invariant j (omega (arith, lt, c.loop-channel-test.false)))),
  λ _. refl,
)
