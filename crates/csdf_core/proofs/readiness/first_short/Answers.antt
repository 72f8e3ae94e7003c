use Rattle.std.proofs.lemmas.Grind.{common_steps}
use Rattle.std.proofs.Common.{◌≡◌, length, sym, ap, ◌∙◌, arith}
use Rattle.std.specs.Prelude.{find}
use Rattle.std.proofs.lemmas.List.{length-map}
use Rattle.csdf_pool.specs.Pool.{held_tokens}
use Rattle.csdf_core.specs.Ports.{short_at, tokens_in}
use Rattle.csdf_core.proofs.PortLemmas.{find_here, find_none, first_short}
use Rattle.csdf_core.proofs.readiness.first_short.Goals as goal

pub returns-then-is_short : goal.returns-then-is_short
returns-then-is_short c =
    let len : length (tokens_in c.args.pool.now) ≡ length c.args.plan.now.channels = length-map c.args.pool.now.chains held_tokens ∙ c.requires.same in
    find_here (short_at c.args.plan.now.channels c.args.turn.firing (tokens_in c.args.pool.now)) c.inputs-inputs.result.now c.loop-channel.channel-index 0 _
    c.loop-channel-test.true (sym c.is_short.ensures ∙ c.if-is_short.true) c.loop-channel.invariant
    ∙ ap (find (short_at c.args.plan.now.channels c.args.turn.firing (tokens_in c.args.pool.now))) c.inputs-inputs.ensures.value
    ∙ first_short c.args.actor c.args.turn.firing c.args.plan.now.channels (tokens_in c.args.pool.now) len

pub returns : goal.returns
returns c =
    let len : length (tokens_in c.args.pool.now) ≡ length c.args.plan.now.channels = length-map c.args.pool.now.chains held_tokens ∙ c.requires.same in
    find_none (short_at c.args.plan.now.channels c.args.turn.firing (tokens_in c.args.pool.now)) c.inputs-inputs.result.now c.loop-channel.channel-index _
    c.loop-channel-test.false c.loop-channel.invariant
    ∙ ap (find (short_at c.args.plan.now.channels c.args.turn.firing (tokens_in c.args.pool.now))) c.inputs-inputs.ensures.value
    ∙ first_short c.args.actor c.args.turn.firing c.args.plan.now.channels (tokens_in c.args.pool.now) len

pub loop-channel-preserved : goal.loop-channel-preserved
loop-channel-preserved c = grind (arith, common_steps)
