use Rattle.std.proofs.Common.{arith, ◌≡◌, ◌<◌, ◌≤◌, ◌-◌, ◌++◌, ◌∙◌, length, take, drop, set, get_or, map, All, ap, ap₂, sym, subst, subst₂}
use Rattle.csdf_pool.specs.declared.ends.Ends.{Ends}
use Rattle.csdf_pool.specs.Cells.{EachOnce}
use Rattle.csdf_pool.specs.Chains.{linked_from, cells_of, IsChain, MovesCells}
use Rattle.csdf_pool.specs.Inside.{no_cells, token_at, held_in, IsSound}
use Rattle.csdf_pool.specs.Pool.{Shared, chain_of, held_cells, held_tokens}
use Rattle.csdf_pool.proofs.OneByOne.{same_pools, takes_are}
use Rattle.csdf_pool.proofs.Segments.{segment_within, segment_end}
use Rattle.csdf_pool.proofs.Moves.{chain_fits, ends_apart, IsSound-taken, chains_taken, free_taken, tokens_taken}
use Rattle.csdf_pool.proofs.Tables.{written_back, some_of}
use Rattle.csdf_pool.proofs.Views.{Chosen, to_take}
use Rattle.csdf_pool.proofs.pool.Pool.take_into.Goals as goal

pub overflow_cast-n : goal.overflow_cast-n
overflow_cast-n c =
    let inside = c.self.inside in
    let t = to_take inside.links.items inside.tokens.items inside.chains.items inside.free c.args.self.now c.self.view_is c.args.chain
    (length c.args.tokens.now) c.index.result.now c.requires.chain c.requires.enough c.index.ensures in
    let fits = chain_fits inside.links.items inside.tokens.items inside.chains.items inside.free c.self.invariant c.args.chain t.known in
    omega (arith, t.size, c.self.invariant.size_fits, fits)

-- what the call knows of the chain, before the tokens are copied, before the cells move and at the end
at_copy : (c : goal.After-copy_out-arg-1)
    → Chosen c.self.inside.chains.items c.args.chain c.index.result.now (get_or c.self.inside.chains.items c.args.chain no_cells) (length c.args.tokens.now)
at_copy c =
    let inside = c.self.inside in
    to_take inside.links.items inside.tokens.items inside.chains.items inside.free c.args.self.now c.self.view_is c.args.chain
    (length c.args.tokens.now) c.index.result.now c.requires.chain c.requires.enough c.index.ensures

at_move : (c : goal.After-move_cells-arg-1)
    → Chosen c.self.inside.chains.items c.args.chain c.index.result.now (get_or c.self.inside.chains.items c.args.chain no_cells) (length c.args.tokens.now)
at_move c =
    let inside = c.self.inside in
    to_take inside.links.items inside.tokens.items inside.chains.items inside.free c.args.self.now c.self.view_is c.args.chain
    (length c.args.tokens.now) c.index.result.now c.requires.chain c.requires.enough c.index.ensures

at_end : (c : goal.After-self-2-1)
    → Chosen c.self.inside.chains.items c.args.chain c.index.result.now (get_or c.self.inside.chains.items c.args.chain no_cells) (length c.args.tokens.now)
at_end c =
    let inside = c.self.inside in
    to_take inside.links.items inside.tokens.items inside.chains.items inside.free c.args.self.now c.self.view_is c.args.chain
    (length c.args.tokens.now) c.index.result.now c.requires.chain c.requires.enough c.index.ensures

-- the cells that moved, and the links as the pool has them then
moves : (c : goal.After-self-2-1)
    → MovesCells c.self.inside.links.items c.move_cells.new.links (get_or c.self.inside.chains.items c.args.chain no_cells) c.move_cells.new.from
    c.self.inside.free c.move_cells.new.to (length c.args.tokens.now)
moves c =
    let n = length c.args.tokens.now in
    subst₂ (λ l e. MovesCells l c.move_cells.new.links e c.move_cells.new.from c.self.inside.free c.move_cells.new.to n)
    c.deref_mut.ensures.value (at_end c).is c.move_cells.ensures

new_links : (c : goal.After-self-2-1)
    → take c.self.inside.links.len (c.move_cells.new.links ++ drop (length c.move_cells.new.links) c.self.inside.links.items) ≡ c.move_cells.new.links
new_links c =
    written_back c.self.inside.links.len c.move_cells.new.links (drop (length c.move_cells.new.links) c.self.inside.links.items)
    (c.move_cells.auto.links ∙ c.deref_mut.ensures.len)

pub copy_out-last-requires-clause-in_links : goal.copy_out-last-requires-clause-in_links
copy_out-last-requires-clause-in_links c =
    let t = at_copy c in
    let inside = c.self.inside in
    let n = length c.args.tokens.now in
    subst₂ (λ l (e : Ends). All (λ cell. cell < length l) (linked_from l e.front n)) (sym c.deref.ensures.value) (sym t.is)
    (segment_within inside.links.items (get_or inside.chains.items c.args.chain no_cells) n t.size (c.self.invariant.each_chain c.args.chain t.known))

pub copy_out-last-requires-clause-in_table : goal.copy_out-last-requires-clause-in_table
copy_out-last-requires-clause-in_table c =
    let size : length c.deref-2.result.now ≡ length c.deref.result.now =
    ap length c.deref-2.ensures.value ∙ c.self.invariant.same_size ∙ sym (ap length c.deref.ensures.value) in
    subst (λ k. All (λ cell. cell < k) (linked_from c.deref.result.now c.index.result.now.front (length c.args.tokens.now))) (sym size)
    (copy_out-last-requires-clause-in_links c)

pub move_cells-requires-clause-from_chain : goal.move_cells-requires-clause-from_chain
move_cells-requires-clause-from_chain c =
    let t = at_move c in
    let inside = c.self.inside in
    let n = length c.args.tokens.now in
    subst₂ IsChain (sym c.deref_mut.ensures.value) (sym t.is) (c.self.invariant.each_chain c.args.chain t.known)

pub move_cells-requires-clause-apart : goal.move_cells-requires-clause-apart
move_cells-requires-clause-apart c =
    let t = at_move c in
    let inside = c.self.inside in
    let n = length c.args.tokens.now in
    subst₂ (λ l e. EachOnce (cells_of l e ++ cells_of l inside.free)) (sym c.deref_mut.ensures.value) (sym t.is)
    (ends_apart inside.links.items inside.tokens.items inside.chains.items inside.free c.self.invariant c.args.chain t.known)

pub move_cells-requires-clause-enough : goal.move_cells-requires-clause-enough
move_cells-requires-clause-enough c =
    let t = at_move c in
    let inside = c.self.inside in
    let n = length c.args.tokens.now in
    subst (λ (e : Ends). n ≤ e.length) (sym t.is) t.size

pub move_cells-requires-clause-last : goal.move_cells-requires-clause-last
move_cells-requires-clause-last c =
    let t = at_move c in
    let inside = c.self.inside in
    let n = length c.args.tokens.now in
    c.copy_out-last.ensures.last
    ∙ ap (λ l. get_or (linked_from l c.index.result.now.front n) (n - 1) 0) (c.deref.ensures.value ∙ sym c.deref_mut.ensures.value)
    ∙ segment_end c.deref_mut.result.now c.index.result.now n (subst (λ (e : Ends). n ≤ e.length) (sym t.is) t.size)
    (some_of n c.is_empty.result c.is_empty.ensures c.if-is_empty.false)

pub invariant_of-self : goal.invariant_of-self
invariant_of-self c =
    let t = at_end c in
    let inside = c.self.inside in
    let n = length c.args.tokens.now in
    subst (λ l. IsSound l inside.tokens.items (set inside.chains.items c.args.chain c.move_cells.new.from) c.move_cells.new.to) (sym (new_links c))
    (IsSound-taken inside.links.items inside.tokens.items inside.chains.items inside.free c.self.invariant c.args.chain t.known
    c.move_cells.new.links c.move_cells.new.from c.move_cells.new.to n (c.move_cells.auto.links ∙ ap length c.deref_mut.ensures.value) (moves c))

pub returns-clause-tokens : goal.returns-clause-tokens
returns-clause-tokens c =
    let t = at_end c in
    let inside = c.self.inside in
    let n = length c.args.tokens.now in
    c.copy_out-last.ensures.tokens
    ∙ ap₂ (λ l (e : Ends). map (token_at c.deref-2.result.now) (linked_from l e.front n)) c.deref.ensures.value t.is
    ∙ ap (λ t. map (token_at t) (linked_from inside.links.items (get_or inside.chains.items c.args.chain no_cells).front n)) c.deref-2.ensures.value
    ∙ tokens_taken inside.links.items inside.tokens.items inside.chains.items inside.free c.self.invariant c.args.chain t.known n t.size
    ∙ ap (λ (pool : Shared). held_tokens (take n (chain_of pool c.args.chain))) c.self.view_is

pub returns-clause-chains : goal.returns-clause-chains
returns-clause-chains c =
    let t = at_end c in
    let inside = c.self.inside in
    let n = length c.args.tokens.now in
    ap (λ l. map (held_in l inside.tokens.items) (set inside.chains.items c.args.chain c.move_cells.new.from)) (new_links c)
    ∙ chains_taken inside.links.items inside.tokens.items inside.chains.items inside.free c.self.invariant c.args.chain t.known
    c.move_cells.new.links c.move_cells.new.from c.move_cells.new.to n (c.move_cells.auto.links ∙ ap length c.deref_mut.ensures.value) (moves c)
    ∙ ap (λ (pool : Shared). set pool.chains c.args.chain (drop n (chain_of pool c.args.chain))) c.self.view_is

pub returns-clause-free : goal.returns-clause-free
returns-clause-free c =
    let t = at_end c in
    let inside = c.self.inside in
    let n = length c.args.tokens.now in
    ap (λ l. cells_of l c.move_cells.new.to) (new_links c)
    ∙ free_taken inside.links.items inside.tokens.items inside.chains.items inside.free c.self.invariant c.args.chain t.known
    c.move_cells.new.links c.move_cells.new.from c.move_cells.new.to n (c.move_cells.auto.links ∙ ap length c.deref_mut.ensures.value) (moves c)
    ∙ ap (λ (pool : Shared). pool.free ++ held_cells (take n (chain_of pool c.args.chain))) c.self.view_is

pub returns-clause-shared_out : goal.returns-clause-shared_out
returns-clause-shared_out c = (invariant_of-self c).partition

pub returns-clause-one_by_one : goal.returns-clause-one_by_one
returns-clause-one_by_one c =
    let inside = c.self.inside in
    let n = length c.args.tokens.now in
    let pool = c.args.self.now in
    same_pools _ (record {
      size = pool.size;
      chains = set pool.chains c.args.chain (drop n (chain_of pool c.args.chain));
      free = pool.free ++ held_cells (take n (chain_of pool c.args.chain));
    })
    (ap length (new_links c) ∙ c.move_cells.auto.links ∙ ap length c.deref_mut.ensures.value ∙ ap (λ (shown : Shared). shown.size) c.self.view_is)
    (returns-clause-chains c)
    (returns-clause-free c)
    ∙ sym (takes_are pool.size c.args.chain pool.chains pool.free n c.requires.chain)
