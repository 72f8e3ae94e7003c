use Rattle.std.proofs.Common.{arith, ◌≡◌, ◌<◌, ◌++◌, ◌∙◌, ℕ, length, take, drop, set, get_or, zip, map, All, ap, ap₂, sym, subst, subst₂, refl}
use Rattle.csdf_pool.specs.Cells.{times, EachOnce}
use Rattle.csdf_pool.specs.Chains.{linked_from, cells_of, IsChain, MovesCells}
use Rattle.csdf_pool.specs.Inside.{no_cells, token_at, held_in, IsSound}
use Rattle.csdf_pool.specs.Pool.{Shared, chain_of}
use Rattle.csdf_pool.proofs.OneByOne.{same_pools, puts_are}
use Rattle.csdf_pool.proofs.Segments.{segment_within, segment_once, segment_end}
use Rattle.csdf_pool.proofs.Moves.{free_fits, free_apart, IsSound-put, chains_put}
use Rattle.csdf_pool.proofs.Tables.{written_back, some_of}
use Rattle.csdf_pool.proofs.Views.{Chosen, length-free, to_put}
use Rattle.csdf_pool.proofs.pool.Pool.put_all.Goals as goal

pub overflow_cast-n : goal.overflow_cast-n
overflow_cast-n c =
    let inside = c.self.inside in
    omega (
      arith,
      c.requires.room,
      c.self.invariant.size_fits,
      length-free inside.links.items inside.tokens.items inside.chains.items inside.free c.args.self.now c.self.view_is,
      free_fits inside.links.items inside.tokens.items inside.chains.items inside.free c.self.invariant,
    )

-- what the call knows of the chain, before the cells are filled, before they move and at the end
at_fill : (c : goal.After-deref_mut)
    → Chosen c.self.inside.chains.items c.args.chain c.index.result.now c.self.inside.free (length c.args.tokens.now)
at_fill c =
    let inside = c.self.inside in
    to_put inside.links.items inside.tokens.items inside.chains.items inside.free c.args.self.now c.self.view_is c.args.chain
    (length c.args.tokens.now) c.index.result.now c.requires.chain c.requires.room c.index.ensures

at_move : (c : goal.After-ends-2-1)
    → Chosen c.self.inside.chains.items c.args.chain c.index.result.now c.self.inside.free (length c.args.tokens.now)
at_move c =
    let inside = c.self.inside in
    to_put inside.links.items inside.tokens.items inside.chains.items inside.free c.args.self.now c.self.view_is c.args.chain
    (length c.args.tokens.now) c.index.result.now c.requires.chain c.requires.room c.index.ensures

at_end : (c : goal.After-self-3-1)
    → Chosen c.self.inside.chains.items c.args.chain c.index.result.now c.self.inside.free (length c.args.tokens.now)
at_end c =
    let inside = c.self.inside in
    to_put inside.links.items inside.tokens.items inside.chains.items inside.free c.args.self.now c.self.view_is c.args.chain
    (length c.args.tokens.now) c.index.result.now c.requires.chain c.requires.room c.index.ensures

-- the cells that moved and the tokens in them, and links and tokens as the pool has them then
moves : (c : goal.After-self-3-1)
    → MovesCells c.self.inside.links.items c.move_cells.new.links c.self.inside.free c.move_cells.new.from
    (get_or c.self.inside.chains.items c.args.chain no_cells) c.move_cells.new.to (length c.args.tokens.now)
moves c =
    let n = length c.args.tokens.now in
    subst₂ (λ l e. MovesCells l c.move_cells.new.links c.self.inside.free c.move_cells.new.from e c.move_cells.new.to n)
    c.deref_mut-2.ensures.value (at_end c).is c.move_cells.ensures

filled : (c : goal.After-self-3-1)
    → map (token_at c.fill-last.new.table) (linked_from c.self.inside.links.items c.self.inside.free.front (length c.args.tokens.now)) ≡ c.args.tokens.now
filled c =
    let n = length c.args.tokens.now in
    subst (λ l. map (token_at c.fill-last.new.table) (linked_from l c.self.inside.free.front n) ≡ c.args.tokens.now) c.deref.ensures.value
    c.fill-last.ensures.tokens

kept : (c : goal.After-self-3-1) (cell : ℕ) → times cell (linked_from c.self.inside.links.items c.self.inside.free.front (length c.args.tokens.now)) ≡ 0
    → token_at c.fill-last.new.table cell ≡ token_at c.self.inside.tokens.items cell
kept c cell none =
    let n = length c.args.tokens.now in
    c.fill-last.ensures.others cell (ap (λ l. times cell (linked_from l c.self.inside.free.front n)) c.deref.ensures.value ∙ none)
    ∙ ap (λ t. token_at t cell) c.deref_mut.ensures.value

new_links : (c : goal.After-self-3-1)
    → take c.self.inside.links.len (c.move_cells.new.links ++ drop (length c.move_cells.new.links) c.self.inside.links.items) ≡ c.move_cells.new.links
new_links c =
    written_back c.self.inside.links.len c.move_cells.new.links (drop (length c.move_cells.new.links) c.self.inside.links.items)
    (c.move_cells.auto.links ∙ c.deref_mut-2.ensures.len)

new_tokens : (c : goal.After-self-3-1)
    → take c.self.inside.tokens.len (c.fill-last.new.table ++ drop (length c.fill-last.new.table) c.self.inside.tokens.items) ≡ c.fill-last.new.table
new_tokens c =
    written_back c.self.inside.tokens.len c.fill-last.new.table (drop (length c.fill-last.new.table) c.self.inside.tokens.items)
    (c.fill-last.auto.table ∙ c.deref_mut.ensures.len)

pub fill-last-requires-clause-in_links : goal.fill-last-requires-clause-in_links
fill-last-requires-clause-in_links c =
    let t = at_fill c in
    let inside = c.self.inside in
    let n = length c.args.tokens.now in
    subst (λ l. All (λ cell. cell < length l) (linked_from l inside.free.front n)) (sym c.deref.ensures.value)
    (segment_within inside.links.items inside.free n t.size c.self.invariant.free_chain)

pub fill-last-requires-clause-in_table : goal.fill-last-requires-clause-in_table
fill-last-requires-clause-in_table c =
    let size : length c.deref_mut.result.now ≡ length c.deref.result.now =
    ap length c.deref_mut.ensures.value ∙ c.self.invariant.same_size ∙ sym (ap length c.deref.ensures.value) in
    subst (λ k. All (λ cell. cell < k) (linked_from c.deref.result.now c.self.inside.free.front (length c.args.tokens.now))) (sym size)
    (fill-last-requires-clause-in_links c)

pub fill-last-requires-clause-once : goal.fill-last-requires-clause-once
fill-last-requires-clause-once c =
    let t = at_fill c in
    let inside = c.self.inside in
    let n = length c.args.tokens.now in
    subst (λ l. EachOnce (linked_from l inside.free.front n)) (sym c.deref.ensures.value)
    (segment_once inside.links.items inside.free n t.size _
    (free_apart inside.links.items inside.tokens.items inside.chains.items inside.free c.self.invariant c.args.chain t.known))

pub move_cells-requires-clause-to_chain : goal.move_cells-requires-clause-to_chain
move_cells-requires-clause-to_chain c =
    let t = at_move c in
    let inside = c.self.inside in
    subst₂ IsChain (sym c.deref_mut-2.ensures.value) (sym t.is) (c.self.invariant.each_chain c.args.chain t.known)

pub move_cells-requires-clause-apart : goal.move_cells-requires-clause-apart
move_cells-requires-clause-apart c =
    let t = at_move c in
    let inside = c.self.inside in
    subst₂ (λ l e. EachOnce (cells_of l inside.free ++ cells_of l e)) (sym c.deref_mut-2.ensures.value) (sym t.is)
    (free_apart inside.links.items inside.tokens.items inside.chains.items inside.free c.self.invariant c.args.chain t.known)

pub move_cells-requires-clause-enough : goal.move_cells-requires-clause-enough
move_cells-requires-clause-enough c = (at_move c).size

pub move_cells-requires-clause-last : goal.move_cells-requires-clause-last
move_cells-requires-clause-last c =
    let t = at_move c in
    let inside = c.self.inside in
    let n = length c.args.tokens.now in
    c.fill-last.ensures.last
    ∙ ap₂ (λ l k. get_or (linked_from l inside.free.front n) k 0) (c.deref.ensures.value ∙ sym c.deref_mut-2.ensures.value) refl
    ∙ segment_end c.deref_mut-2.result.now inside.free n t.size (some_of n c.is_empty.result c.is_empty.ensures c.if-is_empty.false)

pub invariant_of-self : goal.invariant_of-self
invariant_of-self c =
    let t = at_end c in
    let inside = c.self.inside in
    let n = length c.args.tokens.now in
    subst₂ (λ l t. IsSound l t (set inside.chains.items c.args.chain c.move_cells.new.to) c.move_cells.new.from) (sym (new_links c)) (sym (new_tokens c))
    (IsSound-put inside.links.items inside.tokens.items inside.chains.items inside.free c.self.invariant c.args.chain t.known
    c.move_cells.new.links c.move_cells.new.to c.move_cells.new.from n (c.move_cells.auto.links ∙ ap length c.deref_mut-2.ensures.value)
    c.fill-last.new.table c.args.tokens.now t.size (c.fill-last.auto.table ∙ ap length c.deref_mut.ensures.value) (moves c) (filled c) (kept c))

pub returns-clause-chains : goal.returns-clause-chains
returns-clause-chains c =
    let t = at_end c in
    let inside = c.self.inside in
    let n = length c.args.tokens.now in
    ap₂ (λ l t. map (held_in l t) (set inside.chains.items c.args.chain c.move_cells.new.to)) (new_links c) (new_tokens c)
    ∙ chains_put inside.links.items inside.tokens.items inside.chains.items inside.free c.self.invariant c.args.chain t.known
    c.move_cells.new.links c.move_cells.new.to c.move_cells.new.from n (c.move_cells.auto.links ∙ ap length c.deref_mut-2.ensures.value)
    c.fill-last.new.table c.args.tokens.now t.size (c.fill-last.auto.table ∙ ap length c.deref_mut.ensures.value) (moves c) (filled c) (kept c)
    ∙ ap (λ (pool : Shared). set pool.chains c.args.chain (chain_of pool c.args.chain ++ zip (take n pool.free) c.args.tokens.now)) c.self.view_is

pub returns-clause-shared_out : goal.returns-clause-shared_out
returns-clause-shared_out c = (invariant_of-self c).partition

pub returns-clause-one_by_one : goal.returns-clause-one_by_one
returns-clause-one_by_one c =
    let inside = c.self.inside in
    let n = length c.args.tokens.now in
    let pool = c.args.self.now in
    same_pools _ (record {
      size = pool.size;
      chains = set pool.chains c.args.chain (chain_of pool c.args.chain ++ zip (take n pool.free) c.args.tokens.now);
      free = drop n pool.free;
    })
    (ap length (new_links c) ∙ c.move_cells.auto.links ∙ ap length c.deref_mut-2.ensures.value ∙ ap (λ (shown : Shared). shown.size) c.self.view_is)
    (returns-clause-chains c)
    (ap (λ l. cells_of l c.move_cells.new.from) (new_links c) ∙ (moves c).left ∙ ap (λ (shown : Shared). drop n shown.free) c.self.view_is)
    ∙ sym (puts_are pool.size c.args.chain pool.chains pool.free c.args.tokens.now c.requires.chain c.requires.room)
