use Rattle.std.proofs.Common.{◌≡◌, ◌<◌, ◌-◌, ◌++◌, ℕ, List, length, get_or, set, drop, [], ap, sym, ◌∙◌, arith, set-set, get_or-set_same}
use Rattle.std.specs.Prelude.{ℤ}
use Rattle.std.proofs.lemmas.List.{length-map}
use Rattle.csdf_pool.specs.Pool.{Held, held_tokens}
use Rattle.csdf_core.specs.Engine.{gives_to}
use Rattle.csdf_core.specs.Ports.{tokens_in, tokens_at}
use Rattle.csdf_core.proofs.Passing.{drop_both_by}
use Rattle.csdf_core.proofs.PortLemmas.{tokens_at-map}
use Rattle.csdf_core.proofs.block_moves.pass_output.Goals as goal

pub returns-clause-put : goal.returns-clause-put
returns-clause-put c =
    let d : ℕ = c.args.channel in
    let ts : List (List ℤ) = tokens_in c.args.pool.now in
    let t : List ℤ = tokens_at ts d in
    let given : List ℤ = gives_to c.args.plan.now.channels c.args.actor d c.args.turn.firing c.args.n c.args.tokens.now in
    let taken : ℕ = c.taken_back-taken.result in
    let gone : ℕ = c.min-gone.result in
    let chain : List Held = get_or c.args.pool.now.chains d [] in
    let long : length t ≡ c.from.result =
    ap length (tokens_at-map c.args.pool.now.chains d) ∙ length-map chain (λ (held : Held). held.1) ∙ sym c.len.ensures ∙ sym c.from.ensures in
    let within : d < length ts = omega (arith, length-map c.args.pool.now.chains held_tokens, c.requires.same, c.requires.channel) in
    let left : List (List ℤ) = tokens_in c.drop_many.new.pool in
    c.put_given.ensures.put
    ∙ ap (λ (us : List (List ℤ)). set us d (tokens_at us d ++ drop (taken - gone) given)) c.drop_many.ensures.left
    ∙ ap (λ (u : List ℤ). set (set ts d (drop gone t)) d (u ++ drop (taken - gone) given)) (get_or-set_same ts d (drop gone t) [] within)
    ∙ set-set ts d (drop gone t) (drop gone t ++ drop (taken - gone) given)
    ∙ ap (set ts d)
    (sym (drop_both_by taken gone t given (omega (arith, c.min-gone.ensures)) (omega (arith, c.min-gone.ensures, long))
    (λ less. omega (arith, c.min-gone.ensures, long, less)))
    ∙ ap (λ (x : ℕ). drop x (t ++ given)) c.taken_back-taken.ensures)
