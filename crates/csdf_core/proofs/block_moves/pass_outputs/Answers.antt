use Rattle.std.proofs.Common.{◌≡◌, ◌<◌, ◌≤◌, ◌+◌, ℕ, List, ◌∷◌, length, get_or, drop, ap, subst, sym, ◌∙◌, arith}
use Rattle.std.specs.Prelude.{ℤ, sum_by}
use Rattle.std.specs.List.{AllByRecursion}
use Rattle.std.proofs.lemmas.List.{length-map, drop_more}
use Rattle.std.proofs.lemmas.List.Elements.{All-drop, recursion_from_All}
use Rattle.csdf_pool.specs.Pool.{held_tokens}
use Rattle.csdf_pool.proofs.CallerLemmas.{sizes_add_up}
use Rattle.csdf_core.specs.Passing.{changed, passed}
use Rattle.csdf_core.specs.Plan.{Channel}
use Rattle.csdf_core.specs.Ports.{tokens_in, tokens_at}
use Rattle.csdf_core.proofs.CoreLemmas.{held-chains}
use Rattle.csdf_core.proofs.Passing.{room_for}
use Rattle.csdf_core.proofs.Shares.{back_gives, length-passed}
use Rattle.csdf_core.proofs.block_moves.pass_outputs.Goals as goal

pub pass_output-requires-clause-back : goal.pass_output-requires-clause-back
pass_output-requires-clause-back c =
    let i : ℕ = c.loop-channel.channel-index in
    let lt = c.loop-channel-test.true in
    back_gives c.args.plan.now.channels c.args.actor (get_or c.outputs-outputs.result.now i 0) c.requires.back
    (c.outputs-outputs.ensures.within i 0 lt) (c.outputs-outputs.ensures.own i 0 lt) c.args.turn.firing c.args.n

pub pass_output-requires-clause-room : goal.pass_output-requires-clause-room
pass_output-requires-clause-room c =
    let i : ℕ = c.loop-channel.channel-index in
    let lt = c.loop-channel-test.true in
    let ns : List ℕ = c.outputs-outputs.result.now in
    let d : ℕ = get_or ns i 0 in
    let cs : List Channel = c.args.plan.now.channels in
    let k : ℕ = c.args.turn.firing in
    let n : ℕ = c.args.n in
    let v : List ℤ = c.args.tokens.now in
    let ts : List (List ℤ) = tokens_in c.loop-channel.pool in
    let make : ℕ → List ℤ → List ℤ = passed cs c.args.actor k n v in
    let rest : drop i ns ≡ d ∷ drop (i + 1) ns = drop_more ns i 0 lt in
    let queued : length ts ≡ length cs = length-map c.loop-channel.pool.chains held_tokens ∙ c.loop-channel.invariant.same in
    let here : AllByRecursion (λ e. e < length ts) (d ∷ drop (i + 1) ns) =
    subst (λ (size : ℕ). AllByRecursion (λ e. e < size) (d ∷ drop (i + 1) ns)) (sym queued)
    (subst (AllByRecursion (λ e. e < length cs)) rest
    (recursion_from_All (λ e. e < length cs) (drop i ns) (All-drop (λ e. e < length cs) i ns c.outputs-outputs.ensures.within))) in
    let longer : AllByRecursion (λ e. (t : List ℤ) → length t ≤ length (make e t)) (d ∷ drop (i + 1) ns) =
    subst (AllByRecursion (λ e. (t : List ℤ) → length t ≤ length (make e t))) rest
    (recursion_from_All (λ e. (t : List ℤ) → length t ≤ length (make e t)) (drop i ns)
    (All-drop (λ e. (t : List ℤ) → length t ≤ length (make e t)) i ns
    (λ j z less t.
    (let e : ℕ = get_or ns j z in
    let long = length-passed cs c.args.actor e c.requires.back (c.outputs-outputs.ensures.within j z less) (c.outputs-outputs.ensures.own j z less)
    k n v t c.requires.all in
    let gains = back_gives cs c.args.actor e c.requires.back (c.outputs-outputs.ensures.within j z less) (c.outputs-outputs.ensures.own j z less) k n in
    let r : length t ≤ length (make e t) = omega (arith, long, gains) in r)))) in
    let room = room_for make d (drop (i + 1) ns) ts here longer in
    let whole : sum_by length (changed make (d ∷ drop (i + 1) ns) ts) ≤ c.args.pool.now.size =
    (let same = ap (λ (ms : List ℕ). sum_by length (changed make ms ts)) rest in
    let left = ap (sum_by length) c.loop-channel.invariant.put in
    let outs = ap (λ (ms : List ℕ). sum_by length (changed make ms (tokens_in c.args.pool.now))) c.outputs-outputs.ensures.value in
    omega (arith, same, left, outs, c.requires.room)) in
    let all = sizes_add_up c.loop-channel.pool c.loop-channel.invariant.partition in
    let chains = held-chains c.loop-channel.pool.chains in
    let size = c.loop-channel.invariant.size in
    let long = length-passed cs c.args.actor d c.requires.back (c.outputs-outputs.ensures.within i 0 lt) (c.outputs-outputs.ensures.own i 0 lt)
    k n v (tokens_at ts d) c.requires.all in
    omega (arith, room, whole, all, chains, size, long)
