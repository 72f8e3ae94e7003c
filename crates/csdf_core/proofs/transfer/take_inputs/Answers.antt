use Rattle.std.proofs.Common.{◌≡◌, ◌+◌, ◌-◌, ◌++◌, take, ap, sym, subst, ◌∙◌, refl, rules, arith}
use Rattle.std.specs.Prelude.{sum_by}
use Rattle.std.proofs.lemmas.Grind.{common_steps}
use Rattle.std.proofs.lemmas.Slice.{overwrites}
use borrow.Rule.Slice.PartMut.{put_mid}
use Rattle.csdf_core.specs.Ports.{take_at, tokens_in, EnoughOver}
use Rattle.csdf_core.proofs.PortLemmas.{need_is, sum_done}
use Rattle.csdf_core.proofs.transfer.take_inputs.Goals as goal

pub loop-channel-init : goal.loop-channel-init
loop-channel-init c =
    let all : sum_by (take_at c.args.plan.now.channels c.args.turn.firing) c.inputs-inputs.result.now ≡ _ =
    ap (sum_by (take_at c.args.plan.now.channels c.args.turn.firing)) c.inputs-inputs.ensures.value
    ∙ need_is c.args.actor c.args.turn.firing c.args.plan.now.channels in
    record {
      same = c.requires.same;
      enough = subst (λ ns. EnoughOver (take_at c.args.plan.now.channels c.args.turn.firing) ns (tokens_in c.args.pool.now))
          (sym c.inputs-inputs.ensures.value)
          c.requires.enough;
      count = omega arith;
      whole = omega (arith, all, c.requires.room);
      answer = refl;
      rest = refl;
      left = refl;
      cells = refl;
      partition = c.requires.partition;
      size = refl;
    }

pub loop-channel-preserved : goal.loop-channel-preserved
loop-channel-preserved c =
    let front : take (c.loop-channel.at + c.takes-n.result)
    (put_mid c.loop-channel.at (c.loop-channel.at + c.takes-n.result - c.loop-channel.at) c.loop-channel.into c.take_tokens.new.into) ≡ take
    c.loop-channel.at c.loop-channel.into ++ c.take_tokens.new.into = search (rules, overwrites) in
    record {
      same = c.take_tokens.ensures.same ∙ c.loop-channel.invariant.same;
      enough = grind (arith, common_steps);
      count = grind (arith, common_steps);
      whole = grind (arith, common_steps);
      answer = grind (arith, common_steps, front);
      rest = search (rules, overwrites);
      left = grind (arith, common_steps);
      cells = grind (arith, common_steps);
      partition = c.take_tokens.ensures.partition;
      size = c.take_tokens.ensures.size ∙ c.loop-channel.invariant.size;
    }

pub returns-clause-count : goal.returns-clause-count
returns-clause-count c =
    sum_done (take_at c.args.plan.now.channels c.args.turn.firing) c.inputs-inputs.result.now c.loop-channel.channel-index c.loop-channel.at
    c.loop-channel-test.false c.loop-channel.invariant.count
    ∙ ap (sum_by (take_at c.args.plan.now.channels c.args.turn.firing)) c.inputs-inputs.ensures.value
    ∙ need_is c.args.actor c.args.turn.firing c.args.plan.now.channels

pub take_tokens-requires-clause-enough : goal.take_tokens-requires-clause-enough
take_tokens-requires-clause-enough c = grind (arith, common_steps)

pub slice_bounds-take_tokens-end : goal.slice_bounds-take_tokens-end
slice_bounds-take_tokens-end c = grind (arith, common_steps)

pub take_tokens-requires-clause-channel : goal.take_tokens-requires-clause-channel
take_tokens-requires-clause-channel c = grind (arith, common_steps)
