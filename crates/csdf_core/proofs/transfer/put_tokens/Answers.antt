use Rattle.std.proofs.lemmas.Grind.{common_steps}
use Rattle.std.proofs.Common.{length, get_or, set, take, map, ◌++◌, [], sym, ap, ◌∙◌, arith}
use Rattle.std.specs.List.{zip}
use Rattle.csdf_pool.specs.Pool.{held_tokens}
use Rattle.csdf_pool.proofs.CallerLemmas.{held_tokens-put}
use Rattle.csdf_core.proofs.PortLemmas.{tokens_in-set, tokens_at-map}
use Rattle.csdf_core.proofs.transfer.put_tokens.Goals as goal

pub returns-clause-put : goal.returns-clause-put
returns-clause-put c =
    ap (map held_tokens) c.put_all.ensures.chains
    ∙ tokens_in-set c.args.pool.now.chains c.args.channel
    (get_or c.args.pool.now.chains c.args.channel [] ++ zip (take (length c.args.tokens.now) c.args.pool.now.free) c.args.tokens.now)
    ∙ ap (set (map held_tokens c.args.pool.now.chains) c.args.channel)
    (held_tokens-put (get_or c.args.pool.now.chains c.args.channel []) c.args.pool.now.free c.args.tokens.now c.requires.room
    ∙ ap (λ ts. ts ++ c.args.tokens.now) (sym (tokens_at-map c.args.pool.now.chains c.args.channel)))

pub returns-clause-free : goal.returns-clause-free
returns-clause-free c = grind (arith, common_steps)
