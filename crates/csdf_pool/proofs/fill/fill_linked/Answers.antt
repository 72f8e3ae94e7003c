use Rattle.std.proofs.Common.{◌≡◌, ◌<◌, ◌≤◌, ℕ, ℤ, pos, List, ◌++◌, ◌∷◌, [], length, get_or, take, take_all, map, ap, sym, ◌∙◌, arith, subst, rules}
use Rattle.std.proofs.Common.{to_z-of_z, w32}
use mir.Val.{SFits}
use Rattle.std.proofs.lemmas.List.{take_more}
use Rattle.csdf_pool.specs.Cells.{times}
use Rattle.csdf_pool.specs.Chains.{linked_from}
use Rattle.csdf_pool.specs.Inside.{token_at}
use Rattle.csdf_pool.proofs.Walks.{length-linked_from}
use Rattle.csdf_pool.proofs.Fills.{next_is, next_in, rest_after, written_more, others_more, none_before}
use Rattle.csdf_pool.proofs.fill.fill_linked.Goals as goal

pub bounds-table-last : goal.bounds-table-last
bounds-table-last c =
    subst (λ size. c.loop-token.next < size) (sym c.loop-token.auto.table)
    (next_in c.args.links.now c.args.first (length c.args.tokens.now) c.loop-token.token-index c.loop-token.next (omega arith) c.loop-token.invariant.rest
    (length c.args.table.now) c.requires.in_table)

pub bounds-links-last : goal.bounds-links-last
bounds-links-last c =
    next_in c.args.links.now c.args.first (length c.args.tokens.now) c.loop-token.token-index c.loop-token.next (omega arith) c.loop-token.invariant.rest
    (length c.args.links.now) c.requires.in_links

pub loop-token-preserved : goal.loop-token-preserved
loop-token-preserved c =
    let links = c.args.links.now in
    let n = length c.args.tokens.now in
    let i = c.loop-token.token-index in
    let next = c.loop-token.next in
    let below : i < n = omega arith in
    let rest = c.loop-token.invariant.rest in
    let token : ℤ = get_or c.args.tokens.now i (pos 0) in
    let fits : SFits w32 token = search rules in
    record {
      next_fits = search rules;
      rest = rest_after links c.args.first n i next below rest;
      last_is = λ _. next_is links c.args.first n i next below rest ∙ ap (λ k. get_or (linked_from links c.args.first n) k 0) (omega arith);
      written =
          written_more links c.args.first n i next below rest c.requires.once c.loop-token.table _ (take i c.args.tokens.now)
          (subst (λ size. next < size) (sym c.loop-token.auto.table)
          (next_in links c.args.first n i next below rest (length c.args.table.now) c.requires.in_table))
          c.loop-token.invariant.written
          ∙ ap (λ t. take i c.args.tokens.now ++ t ∷ []) (to_z-of_z fits)
          ∙ sym (take_more c.args.tokens.now i (pos 0) below);
      others = λ cell none.
          others_more links c.args.first n i next below rest c.loop-token.table _ cell none
          ∙ c.loop-token.invariant.others cell (none_before links c.args.first n i next below rest cell none);
    }

-- the loop went over all cells
all_cells : (links : List ℕ) (first n i : ℕ) → n ≤ i → take i (linked_from links first n) ≡ linked_from links first n
all_cells links first n i h = take_all i (linked_from links first n) (omega (arith, h, length-linked_from links first n))

pub returns-clause-tokens : goal.returns-clause-tokens
returns-clause-tokens c =
    ap (map (token_at c.loop-token.table)) (sym (all_cells c.args.links.now c.args.first (length c.args.tokens.now) c.loop-token.token-index (omega arith)))
    ∙ c.loop-token.invariant.written
    ∙ take_all c.loop-token.token-index c.args.tokens.now (omega arith)

pub returns-clause-others : goal.returns-clause-others
returns-clause-others c = λ cell none.
    c.loop-token.invariant.others cell
    (ap (times cell) (all_cells c.args.links.now c.args.first (length c.args.tokens.now) c.loop-token.token-index (omega arith)) ∙ none)
