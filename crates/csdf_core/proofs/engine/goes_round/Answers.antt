use Rattle.std.proofs.Common.{refl, below_more}
use Rattle.csdf_core.specs.Engine.{FindsIn, FindsOut}
use Rattle.csdf_core.specs.Ports.{tokens_in}
use Rattle.csdf_core.proofs.engine.goes_round.Goals as goal

pub loop-i-preserved : goal.loop-i-preserved
loop-i-preserved c = record {
  ins = below_more (λ j. FindsIn c.args.plan.now.channels (tokens_in c.args.pool.now) c.args.actor c.args.k j c.args.channel) c.loop-i.i
      c.loop-i.invariant.ins (c.if-not-finds_in.ensures refl);
  outs = below_more (λ j. FindsOut c.args.plan.now.channels (tokens_in c.args.pool.now) c.args.actor c.args.k j c.args.channel) c.loop-i.i
      c.loop-i.invariant.outs (c.if-not-finds_out.ensures refl);
}
