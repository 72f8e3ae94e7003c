use Rattle.std.proofs.Common.{List, length, get_or, set, take, drop, map, [], sym, ap, ◌∙◌, arith}
use Rattle.std.proofs.lemmas.List.{drop-map, length-append, length-map, length-take-le}
use Rattle.csdf_pool.specs.Pool.{Held, held_tokens, held_cells}
use Rattle.csdf_core.proofs.PortLemmas.{tokens_in-set, tokens_at-map}
use Rattle.csdf_core.proofs.several.drop_tokens.Goals as goal

pub returns-clause-left : goal.returns-clause-left
returns-clause-left c =
    ap (map held_tokens) c.drop_front.ensures.chains
    ∙ tokens_in-set c.args.pool.now.chains c.args.channel (drop c.args.n (get_or c.args.pool.now.chains c.args.channel []))
    ∙ ap (set (map held_tokens c.args.pool.now.chains) c.args.channel)
    (sym (drop-map (λ held. held.1) c.args.n (get_or c.args.pool.now.chains c.args.channel []))
    ∙ ap (drop c.args.n) (sym (tokens_at-map c.args.pool.now.chains c.args.channel)))

pub returns-clause-free : goal.returns-clause-free
returns-clause-free c =
    let chain : List Held = get_or c.args.pool.now.chains c.args.channel [] in
    let long = ap length (tokens_at-map c.args.pool.now.chains c.args.channel) in
    let tokens = length-map chain (λ (held : Held). held.1) in
    let enough = c.requires.enough in
    let some = length-take-le c.args.n chain (omega (arith, long, tokens, enough)) in
    let free = ap length c.drop_front.ensures.free in
    omega (arith, free, length-append c.args.pool.now.free (held_cells (take c.args.n chain)), length-map (take c.args.n chain) (λ (held : Held). held.0), some)
