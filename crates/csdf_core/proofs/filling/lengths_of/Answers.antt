use Rattle.std.proofs.lemmas.Grind.{common_steps}
use Rattle.std.proofs.Common.{◌+◌, ◌∙◌, ◌++◌, ap, arith, drop, map, length}
use Rattle.csdf_core.specs.Ports.{tokens_in}
use Rattle.csdf_core.proofs.Fillings.{lengths_more}
use Rattle.csdf_core.proofs.filling.lengths_of.Goals as goal

pub loop-channel-preserved : goal.loop-channel-preserved
loop-channel-preserved c =
    ap (λ xs. xs ++ map length (drop (c.loop-channel.channel + 1) (tokens_in c.args.pool.now))) c.in_ok-push.ensures.items
    ∙ lengths_more c.args.pool.now.chains c.loop-channel.lengths.items _ c.loop-channel.channel c.len.result
    (let t = c.loop-channel-test.true in let n = c.requires in omega arith) c.len.ensures c.loop-channel.invariant

pub returns : goal.returns
returns c = grind (arith, common_steps)
