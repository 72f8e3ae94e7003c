use Rattle.std.proofs.Common.{rules, length, get_or, set, take, drop, map, [], sym, ap, ◌∙◌}
use Rattle.std.proofs.lemmas.List.{take-map, drop-map}
use Rattle.csdf_pool.specs.Pool.{held_tokens}
use Rattle.csdf_core.proofs.PortLemmas.{tokens_in-set, tokens_at-map}
use Rattle.csdf_core.proofs.transfer.take_tokens.Goals as goal

pub returns-clause-tokens : goal.returns-clause-tokens
returns-clause-tokens c =
    c.take_into.ensures.tokens ∙ sym (take-map (λ held. held.1) (length c.args.into.now) (get_or c.args.pool.now.chains c.args.channel []))
    ∙ ap (take (length c.args.into.now)) (sym (tokens_at-map c.args.pool.now.chains c.args.channel))

pub returns-clause-left : goal.returns-clause-left
returns-clause-left c =
    ap (map held_tokens) c.take_into.ensures.chains
    ∙ tokens_in-set c.args.pool.now.chains c.args.channel (drop (length c.args.into.now) (get_or c.args.pool.now.chains c.args.channel []))
    ∙ ap (set (map held_tokens c.args.pool.now.chains) c.args.channel)
    (sym (drop-map (λ held. held.1) (length c.args.into.now) (get_or c.args.pool.now.chains c.args.channel []))
    ∙ ap (drop (length c.args.into.now)) (sym (tokens_at-map c.args.pool.now.chains c.args.channel)))

pub returns-clause-cells : goal.returns-clause-cells
returns-clause-cells c = search rules
