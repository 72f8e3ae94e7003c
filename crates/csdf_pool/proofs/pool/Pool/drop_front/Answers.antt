use Rattle.std.proofs.Common.{◌≡◌, ◌≤◌, ◌-◌, ◌++◌, ◌∙◌, length, take, drop, set, get_or, map, ap, sym, subst, subst₂}
use Rattle.csdf_pool.specs.declared.ends.Ends.{Ends}
use Rattle.csdf_pool.specs.Cells.{EachOnce}
use Rattle.csdf_pool.specs.Chains.{cells_of, IsChain, MovesCells}
use Rattle.csdf_pool.specs.Inside.{no_cells, held_in, IsSound}
use Rattle.csdf_pool.specs.Pool.{Shared, chain_of, held_cells}
use Rattle.csdf_pool.proofs.OneByOne.{same_pools, takes_are}
use Rattle.csdf_pool.proofs.Moves.{ends_apart, IsSound-taken, chains_taken, free_taken}
use Rattle.csdf_pool.proofs.Tables.{written_back}
use Rattle.csdf_pool.proofs.Views.{Chosen, to_take}
use Rattle.csdf_pool.proofs.pool.Pool.drop_front.Goals as goal
use Rattle.csdf_pool.proofs.pool.Pool.drop_front.Goals.{After-deref}

-- what the call knows of the chain, before the tokens are copied, before the cells move and at the end
at_copy : (c : After-deref)
    → Chosen c.self.inside.chains.items c.args.chain c.index.result.now (get_or c.self.inside.chains.items c.args.chain no_cells) (c.args.n)
at_copy c =
    let inside = c.self.inside in
    to_take inside.links.items inside.tokens.items inside.chains.items inside.free c.args.self.now c.self.view_is c.args.chain
    (c.args.n) c.index.result.now c.requires.chain c.requires.enough c.index.ensures

at_move : (c : goal.After-move_cells-arg-1)
    → Chosen c.self.inside.chains.items c.args.chain c.index.result.now (get_or c.self.inside.chains.items c.args.chain no_cells) (c.args.n)
at_move c =
    let inside = c.self.inside in
    to_take inside.links.items inside.tokens.items inside.chains.items inside.free c.args.self.now c.self.view_is c.args.chain
    (c.args.n) c.index.result.now c.requires.chain c.requires.enough c.index.ensures

at_end : (c : goal.After-self-2-1)
    → Chosen c.self.inside.chains.items c.args.chain c.index.result.now (get_or c.self.inside.chains.items c.args.chain no_cells) (c.args.n)
at_end c =
    let inside = c.self.inside in
    to_take inside.links.items inside.tokens.items inside.chains.items inside.free c.args.self.now c.self.view_is c.args.chain
    (c.args.n) c.index.result.now c.requires.chain c.requires.enough c.index.ensures

-- the cells that moved, and the links as the pool has them then
moves : (c : goal.After-self-2-1)
    → MovesCells c.self.inside.links.items c.move_cells.new.links (get_or c.self.inside.chains.items c.args.chain no_cells) c.move_cells.new.from
    c.self.inside.free c.move_cells.new.to (c.args.n)
moves c =
    let n = c.args.n in
    subst₂ (λ l e. MovesCells l c.move_cells.new.links e c.move_cells.new.from c.self.inside.free c.move_cells.new.to n)
    c.deref_mut.ensures.value (at_end c).is c.move_cells.ensures

new_links : (c : goal.After-self-2-1)
    → take c.self.inside.links.len (c.move_cells.new.links ++ drop (length c.move_cells.new.links) c.self.inside.links.items) ≡ c.move_cells.new.links
new_links c =
    written_back c.self.inside.links.len c.move_cells.new.links (drop (length c.move_cells.new.links) c.self.inside.links.items)
    (c.move_cells.auto.links ∙ c.deref_mut.ensures.len)

pub end_after-end-requires-clause-chain : goal.end_after-end-requires-clause-chain
end_after-end-requires-clause-chain c =
    let t = at_copy (goal.at.end_after-end-requires-clause-chain c).After-deref in
    subst₂ IsChain (sym c.deref.ensures.value) (sym t.is) (c.self.invariant.each_chain c.args.chain t.known)

pub end_after-end-requires-clause-enough : goal.end_after-end-requires-clause-enough
end_after-end-requires-clause-enough c =
    let t = at_copy (goal.at.end_after-end-requires-clause-enough c).After-deref in
    let n = c.args.n in
    subst (λ (e : Ends). n ≤ e.length) (sym t.is) t.size

pub move_cells-requires-clause-from_chain : goal.move_cells-requires-clause-from_chain
move_cells-requires-clause-from_chain c =
    let t = at_move c in
    let inside = c.self.inside in
    let n = c.args.n in
    subst₂ IsChain (sym c.deref_mut.ensures.value) (sym t.is) (c.self.invariant.each_chain c.args.chain t.known)

pub move_cells-requires-clause-apart : goal.move_cells-requires-clause-apart
move_cells-requires-clause-apart c =
    let t = at_move c in
    let inside = c.self.inside in
    let n = c.args.n in
    subst₂ (λ l e. EachOnce (cells_of l e ++ cells_of l inside.free)) (sym c.deref_mut.ensures.value) (sym t.is)
    (ends_apart inside.links.items inside.tokens.items inside.chains.items inside.free c.self.invariant c.args.chain t.known)

pub move_cells-requires-clause-enough : goal.move_cells-requires-clause-enough
move_cells-requires-clause-enough c =
    let t = at_move c in
    let inside = c.self.inside in
    let n = c.args.n in
    subst (λ (e : Ends). n ≤ e.length) (sym t.is) t.size

pub move_cells-requires-clause-last : goal.move_cells-requires-clause-last
move_cells-requires-clause-last c =
    c.end_after-end.ensures
    ∙ ap (λ l. get_or (cells_of l c.index.result.now) (c.args.n - 1) 0) (c.deref.ensures.value ∙ sym c.deref_mut.ensures.value)

pub invariant_of-self : goal.invariant_of-self
invariant_of-self c =
    let t = at_end c in
    let inside = c.self.inside in
    let n = c.args.n in
    subst (λ l. IsSound l inside.tokens.items (set inside.chains.items c.args.chain c.move_cells.new.from) c.move_cells.new.to) (sym (new_links c))
    (IsSound-taken inside.links.items inside.tokens.items inside.chains.items inside.free c.self.invariant c.args.chain t.known
    c.move_cells.new.links c.move_cells.new.from c.move_cells.new.to n (c.move_cells.auto.links ∙ ap length c.deref_mut.ensures.value) (moves c))

pub returns-clause-chains : goal.returns-clause-chains
returns-clause-chains c =
    let t = at_end c in
    let inside = c.self.inside in
    let n = c.args.n in
    ap (λ l. map (held_in l inside.tokens.items) (set inside.chains.items c.args.chain c.move_cells.new.from)) (new_links c)
    ∙ chains_taken inside.links.items inside.tokens.items inside.chains.items inside.free c.self.invariant c.args.chain t.known
    c.move_cells.new.links c.move_cells.new.from c.move_cells.new.to n (c.move_cells.auto.links ∙ ap length c.deref_mut.ensures.value) (moves c)
    ∙ ap (λ (pool : Shared). set pool.chains c.args.chain (drop n (chain_of pool c.args.chain))) c.self.view_is

pub returns-clause-free : goal.returns-clause-free
returns-clause-free c =
    let t = at_end c in
    let inside = c.self.inside in
    let n = c.args.n in
    ap (λ l. cells_of l c.move_cells.new.to) (new_links c)
    ∙ free_taken inside.links.items inside.tokens.items inside.chains.items inside.free c.self.invariant c.args.chain t.known
    c.move_cells.new.links c.move_cells.new.from c.move_cells.new.to n (c.move_cells.auto.links ∙ ap length c.deref_mut.ensures.value) (moves c)
    ∙ ap (λ (pool : Shared). pool.free ++ held_cells (take n (chain_of pool c.args.chain))) c.self.view_is

pub returns-clause-shared_out : goal.returns-clause-shared_out
returns-clause-shared_out c = (invariant_of-self c).partition

pub returns-clause-one_by_one : goal.returns-clause-one_by_one
returns-clause-one_by_one c =
    let inside = c.self.inside in
    let n = c.args.n in
    let pool = c.args.self.now in
    same_pools _ (record {
      size = pool.size;
      chains = set pool.chains c.args.chain (drop n (chain_of pool c.args.chain));
      free = pool.free ++ held_cells (take n (chain_of pool c.args.chain));
    })
    (ap length (new_links c) ∙ c.move_cells.auto.links ∙ ap length c.deref_mut.ensures.value ∙ ap (λ (shown : Shared). shown.size) c.self.view_is)
    (returns-clause-chains c)
    (returns-clause-free c)
    ∙ sym (takes_are pool.size c.args.chain pool.chains pool.free n c.requires.chain)
