use Rattle.std.proofs.lemmas.Grind.{common_steps}
use Rattle.std.proofs.Common.{ap, ◌∙◌, refl, arith, ◌≡◌, length}
use Rattle.std.specs.Prelude.{sum_by}
use Rattle.csdf_core.specs.Ports.{give_at}
use Rattle.csdf_core.proofs.PortLemmas.{gift_is}
use Rattle.csdf_core.proofs.transfer.put_outputs.Goals as goal

pub loop-channel-init : goal.loop-channel-init
loop-channel-init c =
    let all : sum_by (give_at c.args.plan.now.channels c.args.turn.firing) c.outputs-outputs.result.now ≡ length c.args.tokens.now =
    ap (sum_by (give_at c.args.plan.now.channels c.args.turn.firing)) c.outputs-outputs.ensures.value
    ∙ gift_is c.args.actor c.args.turn.firing c.args.plan.now.channels ∙ c.requires.all in
    record {
      same = c.requires.same;
      all = omega (arith, all);
      room = omega (arith, c.requires.room);
      put = refl;
      cells = refl;
      partition = c.requires.partition;
      size = refl;
    }

pub loop-channel-preserved : goal.loop-channel-preserved
loop-channel-preserved c = record { same = grind (arith, common_steps); all = grind (arith, common_steps); room = grind (arith, common_steps); put = grind (arith, common_steps); cells = grind (arith, common_steps); partition = c.put_tokens.ensures.partition; size = grind (arith, common_steps) }

pub put_tokens-requires-clause-room : goal.put_tokens-requires-clause-room
put_tokens-requires-clause-room c = grind (arith, common_steps)

pub slice_bounds-put_tokens-end : goal.slice_bounds-put_tokens-end
slice_bounds-put_tokens-end c = grind (arith, common_steps)
