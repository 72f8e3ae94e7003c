use Rattle.std.proofs.Common.{◌≡◌, ◌+◌, ◌-◌, ◌++◌, take, ap, sym, subst, ◌∙◌, refl, rules, arith}
use Rattle.std.specs.Prelude.{sum_by}
use Rattle.std.proofs.lemmas.Grind.{common_steps}
use Rattle.std.proofs.lemmas.Slice.{overwrites}
use borrow.Rule.Slice.PartMut.{put_mid}
use Rattle.csdf_core.specs.Blocks.{fronts, HoldAll}
use Rattle.csdf_core.specs.Ports.{take_at, tokens_at, tokens_in}
use Rattle.csdf_core.proofs.BlockTokens.{fronts_done}
use Rattle.csdf_core.proofs.PortLemmas.{need_is, sum_done}
use Rattle.csdf_core.proofs.gathering.copy_next.Goals as goal

pub loop-channel-init : goal.loop-channel-init
loop-channel-init c =
    let all : sum_by (take_at c.args.plan.now.channels c.args.turn.firing) c.inputs-inputs.result.now ≡ _ =
    ap (sum_by (take_at c.args.plan.now.channels c.args.turn.firing)) c.inputs-inputs.ensures.value
    ∙ need_is c.args.actor c.args.turn.firing c.args.plan.now.channels in
    record {
      enough = subst (λ ns. HoldAll (tokens_in c.args.pool.now) (take_at c.args.plan.now.channels c.args.turn.firing) ns)
          (sym c.inputs-inputs.ensures.value)
          c.requires.enough;
      count = omega arith;
      whole = omega (arith, all, c.requires.all);
      answer = refl;
    }

pub loop-channel-preserved : goal.loop-channel-preserved
loop-channel-preserved c =
    let front : take (c.loop-channel.at + c.takes.result)
    (put_mid c.loop-channel.at (c.loop-channel.at + c.takes.result - c.loop-channel.at) c.loop-channel.into c.copy_tokens.new.into) ≡ take
    c.loop-channel.at c.loop-channel.into ++ c.copy_tokens.new.into = search (rules, overwrites) in
    record {
      enough = grind (arith, common_steps);
      count = grind (arith, common_steps);
      whole = grind (arith, common_steps);
      answer = grind (arith, common_steps, front);
    }

pub returns : goal.returns
returns c =
    let at = sum_done (take_at c.args.plan.now.channels c.args.turn.firing) c.inputs-inputs.result.now c.loop-channel.channel-index c.loop-channel.at
    c.loop-channel-test.false c.loop-channel.invariant.count in
    fronts_done _ c.inputs-inputs.result.now c.loop-channel.channel-index c.loop-channel.at _ _ _ c.loop-channel-test.false
    (at ∙ c.loop-channel.invariant.whole) c.loop-channel.invariant.answer
    ∙ ap (λ ns. fronts (take_at c.args.plan.now.channels c.args.turn.firing) ns (tokens_at (tokens_in c.args.pool.now))) c.inputs-inputs.ensures.value
