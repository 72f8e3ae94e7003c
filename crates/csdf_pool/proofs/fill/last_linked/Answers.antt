use Rattle.std.proofs.Common.{◌<◌, length, get_or, ap, ◌∙◌, arith, rules}
use Rattle.csdf_pool.specs.Chains.{linked_from}
use Rattle.csdf_pool.proofs.Fills.{next_is, next_in, rest_after}
use Rattle.csdf_pool.proofs.fill.last_linked.Goals as goal

pub bounds-links-last : goal.bounds-links-last
bounds-links-last c =
    next_in c.args.links.now c.args.first c.args.n c.loop-cell._cell c.loop-cell.next (omega arith) c.loop-cell.invariant.rest
    (length c.args.links.now) c.requires.in_links

pub loop-cell-preserved : goal.loop-cell-preserved
loop-cell-preserved c =
    let links = c.args.links.now in
    let n = c.args.n in
    let i = c.loop-cell._cell in
    let next = c.loop-cell.next in
    let below : i < n = omega arith in
    let rest = c.loop-cell.invariant.rest in
    record {
      next_fits = search rules;
      rest = rest_after links c.args.first n i next below rest;
      last_is = λ _. next_is links c.args.first n i next below rest ∙ ap (λ k. get_or (linked_from links c.args.first n) k 0) (omega arith);
    }
