use Rattle.std.proofs.Common.{List, ◌++◌, set, ap, ◌∙◌}
use Rattle.std.specs.Prelude.{ℤ}
use Rattle.csdf_core.specs.Ports.{tokens_in, tokens_at}
use Rattle.csdf_core.proofs.Passing.{part_of}
use Rattle.csdf_core.proofs.block_moves.put_share.Goals as goal

pub returns-clause-put : goal.returns-clause-put
returns-clause-put c =
    c.put_tokens.ensures.put
    ∙ ap (λ (u : List ℤ). set (tokens_in c.args.pool.now) c.args.channel (tokens_at (tokens_in c.args.pool.now) c.args.channel ++ u))
    (part_of c.args.share.from c.args.few c.args.share.own c.args.written.now c.requires.few)
