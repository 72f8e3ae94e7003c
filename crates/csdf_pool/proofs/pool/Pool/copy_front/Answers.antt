use Rattle.std.proofs.Common.{◌≡◌, ◌<◌, ◌∙◌, length, take, get_or, map, All, ap, ap₂, sym, subst, subst₂}
use Rattle.csdf_pool.specs.declared.ends.Ends.{Ends}
use Rattle.csdf_pool.specs.Chains.{linked_from}
use Rattle.csdf_pool.specs.Inside.{no_cells, token_at}
use Rattle.csdf_pool.specs.Pool.{Shared, chain_of, held_tokens}
use Rattle.csdf_pool.proofs.Segments.{segment_within}
use Rattle.csdf_pool.proofs.Moves.{tokens_taken}
use Rattle.csdf_pool.proofs.Views.{Chosen, to_take}
use Rattle.csdf_pool.proofs.pool.Pool.copy_front.Goals as goal
use Rattle.csdf_pool.proofs.pool.Pool.copy_front.Goals.{After-deref}

-- what the call knows of the chain
at_copy : (c : After-deref)
    → Chosen c.self.inside.chains.items c.args.chain c.index-from.result.now (get_or c.self.inside.chains.items c.args.chain no_cells) (length c.args.tokens.now)
at_copy c =
    let inside = c.self.inside in
    to_take inside.links.items inside.tokens.items inside.chains.items inside.free c.args.self.now c.self.view_is c.args.chain
    (length c.args.tokens.now) c.index-from.result.now c.requires.chain c.requires.enough c.index-from.ensures

in_links : (c : After-deref)
    → All (λ cell. cell < length c.deref.result.now) (linked_from c.deref.result.now c.index-from.result.now.front (length c.args.tokens.now))
in_links c =
    let t = at_copy c in
    let inside = c.self.inside in
    let n = length c.args.tokens.now in
    subst₂ (λ l (e : Ends). All (λ cell. cell < length l) (linked_from l e.front n)) (sym c.deref.ensures.value) (sym t.is)
    (segment_within inside.links.items (get_or inside.chains.items c.args.chain no_cells) n t.size (c.self.invariant.each_chain c.args.chain t.known))

pub copy_out-requires-clause-in_links : goal.copy_out-requires-clause-in_links
copy_out-requires-clause-in_links c = in_links (goal.at.copy_out-requires-clause-in_links c).After-deref

pub copy_out-requires-clause-in_table : goal.copy_out-requires-clause-in_table
copy_out-requires-clause-in_table c =
    let size : length c.deref-2.result.now ≡ length c.deref.result.now =
    ap length c.deref-2.ensures.value ∙ c.self.invariant.same_size ∙ sym (ap length c.deref.ensures.value) in
    subst (λ k. All (λ cell. cell < k) (linked_from c.deref.result.now c.index-from.result.now.front (length c.args.tokens.now))) (sym size)
    (in_links (goal.at.copy_out-requires-clause-in_table c).After-deref)

pub returns : goal.returns
returns c =
    let t = at_copy (goal.at.returns c).After-deref in
    let inside = c.self.inside in
    let n = length c.args.tokens.now in
    c.copy_out.ensures.tokens
    ∙ ap₂ (λ l (e : Ends). map (token_at c.deref-2.result.now) (linked_from l e.front n)) c.deref.ensures.value t.is
    ∙ ap (λ t. map (token_at t) (linked_from inside.links.items (get_or inside.chains.items c.args.chain no_cells).front n)) c.deref-2.ensures.value
    ∙ tokens_taken inside.links.items inside.tokens.items inside.chains.items inside.free c.self.invariant c.args.chain t.known n t.size
    ∙ ap (λ (pool : Shared). held_tokens (take n (chain_of pool c.args.chain))) c.self.view_is
