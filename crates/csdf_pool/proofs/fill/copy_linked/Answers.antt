use Rattle.std.proofs.Common.{◌<◌, ℤ, ◌++◌, ◌∷◌, [], length, get_or, take, take_all, map, ap, sym, ◌∙◌, arith, rules, to_z-of_z, w32}
use mir.Val.{SFits}
use Rattle.std.proofs.lemmas.List.{take_more_set}
use Rattle.csdf_pool.specs.Chains.{linked_from}
use Rattle.csdf_pool.specs.Inside.{token_at}
use Rattle.csdf_pool.proofs.Walks.{length-linked_from}
use Rattle.csdf_pool.proofs.Fills.{next_is, next_in, rest_after, read_more}
use Rattle.csdf_pool.proofs.fill.copy_linked.Goals as goal

pub bounds-table-last : goal.bounds-table-last
bounds-table-last c =
    next_in c.args.links.now c.args.first (length c.args.tokens.now) c.loop-token.token-index c.loop-token.next (omega arith) c.loop-token.invariant.rest
    (length c.args.table.now) c.requires.in_table

pub bounds-links-last : goal.bounds-links-last
bounds-links-last c =
    next_in c.args.links.now c.args.first (length c.args.tokens.now) c.loop-token.token-index c.loop-token.next (omega arith) c.loop-token.invariant.rest
    (length c.args.links.now) c.requires.in_links

pub loop-token-preserved : goal.loop-token-preserved
loop-token-preserved c =
    let links = c.args.links.now in
    let n = length c.args.tokens.now in
    let i = c.loop-token.token-index in
    let next = c.loop-token.next in
    let below : i < n = omega arith in
    let rest = c.loop-token.invariant.rest in
    let token : ℤ = token_at c.args.table.now next in
    let fits : SFits w32 token = search rules in
    record {
      next_fits = search rules;
      rest = rest_after links c.args.first n i next below rest;
      last_is = λ _. next_is links c.args.first n i next below rest ∙ ap (λ k. get_or (linked_from links c.args.first n) k 0) (omega arith);
      read =
          take_more_set c.loop-token.tokens i _ (omega arith)
          ∙ ap (λ t. take i c.loop-token.tokens ++ t ∷ []) (to_z-of_z fits)
          ∙ ap (λ xs. xs ++ token ∷ []) c.loop-token.invariant.read
          ∙ sym (read_more links c.args.first n i next below rest c.args.table.now);
    }

pub returns-clause-tokens : goal.returns-clause-tokens
returns-clause-tokens c =
    sym (take_all c.loop-token.token-index c.loop-token.tokens (omega arith))
    ∙ c.loop-token.invariant.read
    ∙ ap (map (token_at c.args.table.now))
    (take_all c.loop-token.token-index (linked_from c.args.links.now c.args.first (length c.args.tokens.now))
    (omega (arith, length-linked_from c.args.links.now c.args.first (length c.args.tokens.now))))
