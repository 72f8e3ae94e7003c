use Rattle.std.proofs.Common.{length, get_or, take, [], sym, ap, ◌∙◌}
use Rattle.std.proofs.lemmas.List.{take-map}
use Rattle.csdf_pool.specs.Pool.{Held}
use Rattle.csdf_core.proofs.PortLemmas.{tokens_at-map}
use Rattle.csdf_core.proofs.gathering.copy_tokens.Goals as goal

pub returns : goal.returns
returns c =
    c.copy_front.ensures ∙ sym (take-map (λ (held : Held). held.1) (length c.args.into.now) (get_or c.args.pool.now.chains c.args.channel []))
    ∙ ap (take (length c.args.into.now)) (sym (tokens_at-map c.args.pool.now.chains c.args.channel))
