use Rattle.std.proofs.lemmas.Grind.{common_steps}
use Rattle.std.proofs.Common.{ℕ, List, [], Option, length, get_or, take, ap, sym, ◌∙◌, arith}
use Rattle.std.proofs.lemmas.List.{take-map}
use Rattle.csdf_pool.specs.Pool.{Held}
use Rattle.csdf_core.specs.Blocks.{from_front}
use Rattle.csdf_core.specs.Feedback.{others_of}
use Rattle.csdf_core.specs.Ports.{tokens_in}
use Rattle.csdf_core.proofs.PortLemmas.{tokens_at-map}
use Rattle.csdf_core.proofs.feedback.copy_other.Goals as goal

pub returns-in-Some : goal.returns-in-Some
returns-in-Some c =
    let n : ℕ = length c.args.into.now in
    let chain : List Held = get_or c.args.pool.now.chains c.in-Some.channel [] in
    c.copy_front.ensures
    ∙ sym (take-map (λ (held : Held). held.1) n chain)
    ∙ ap (take n) (sym (tokens_at-map c.args.pool.now.chains c.in-Some.channel))
    ∙ ap (λ (o : Option ℕ). from_front (others_of o) n (tokens_in c.args.pool.now)) (sym c.in-Some.is)

pub copy_front-requires-clause-enough : goal.copy_front-requires-clause-enough
copy_front-requires-clause-enough c = grind (arith, common_steps)
