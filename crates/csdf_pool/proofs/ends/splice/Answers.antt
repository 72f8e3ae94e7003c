use Rattle.std.proofs.Common.{◌≡◌, ◌+◌, ℕ, List, arith, ◌∙◌, sym, ap, take, drop, ◌++◌, take-append-drop}
use Rattle.csdf_pool.specs.Cells.{times}
use Rattle.csdf_pool.specs.Chains.{cells_of, linked_from}
use Rattle.csdf_pool.specs.Pens.{links_of}
use Rattle.csdf_pool.proofs.Times.{times-append}
use Rattle.csdf_pool.proofs.Walks.{take-linked_from}
use Rattle.csdf_pool.proofs.ChainLemmas.{IsChain-take, IsChain-same, cells_of-same}
use Rattle.csdf_pool.proofs.ends.splice.Goals as goal

-- a chain's cells are its first ones and the others
split : (cell n : ℕ) (xs : List ℕ) → times cell xs ≡ times cell (take n xs) + times cell (drop n xs)
split cell n xs = sym (ap (times cell) (take-append-drop n xs)) ∙ times-append cell (take n xs) (drop n xs)

pub joined-requires-clause-segment : goal.joined-requires-clause-segment
joined-requires-clause-segment c =
    IsChain-take _ c.args.from.now c.args.last c.args.n c.requires.from_chain c.requires.some c.requires.enough c.requires.last

pub joined-requires-clause-apart : goal.joined-requires-clause-apart
joined-requires-clause-apart c = λ cell.
    let links = links_of c.args.pen.now in
    let from = cells_of links c.args.from.now in
    let to = cells_of links c.args.to.now in
    let segment = linked_from links c.args.from.now.front c.args.n in
    let cut : take c.args.n from ≡ segment = take-linked_from links c.args.from.now.front c.args.n c.args.from.now.length c.requires.enough in
    omega (arith, c.requires.apart cell, times-append cell from to, times-append cell segment to, split cell c.args.n from, ap (times cell) cut)

pub returns-clause-from : goal.returns-clause-from
returns-clause-from c =
    let links = links_of c.args.pen.now in
    let from = cells_of links c.args.from.now in
    let to = cells_of links c.args.to.now in
    let rest = cells_of links c.rest_of-rest.result in
    cells_of-same links (links_of c.joined.new.pen) c.rest_of-rest.result (λ cell stands.
    c.joined.ensures.others cell (omega (
      arith,
      stands,
      c.requires.apart cell,
      times-append cell from to,
      split cell c.args.n from,
      ap (times cell) c.rest_of-rest.ensures.cells,
    )))
    ∙ c.rest_of-rest.ensures.cells

pub returns-clause-to : goal.returns-clause-to
returns-clause-to c =
    let links = links_of c.args.pen.now in
    c.joined.ensures.cells
    ∙ ap (λ xs. cells_of links c.args.to.now ++ xs) (sym (take-linked_from links c.args.from.now.front c.args.n c.args.from.now.length c.requires.enough))

pub returns-clause-from_chain : goal.returns-clause-from_chain
returns-clause-from_chain c =
    IsChain-same (links_of c.args.pen.now) (links_of c.joined.new.pen) c.rest_of-rest.result c.rest_of-rest.ensures.chain c.joined.ensures.same_size
    (returns-clause-from c ∙ sym c.rest_of-rest.ensures.cells)

pub returns-clause-others : goal.returns-clause-others
returns-clause-others c = λ cell none.
    let links = links_of c.args.pen.now in
    c.joined.ensures.others cell (omega (arith, none, times-append cell (cells_of links c.args.from.now) (cells_of links c.args.to.now)))
