use Rattle.std.proofs.Common.{sym, arith, ◌∙◌, ◌<◌, ◌-◌, ap, subst, length, refl, get_or}
use Rattle.std.proofs.lemmas.List.{drop_all}
use Rattle.csdf_pool.proofs.ChainLemmas.{length-cells_of, cell_in_table, drop-cells_of, IsChain-drop}
use Rattle.csdf_pool.specs.Chains.{cells_of, linked_from}
use Rattle.csdf_pool.specs.Pens.{links_of}
use Rattle.csdf_pool.proofs.ends.rest_of.Goals as goal

pub returns-then-n-chain-clause-cells : goal.returns-then-n-chain-clause-cells
returns-then-n-chain-clause-cells c =
    sym (drop_all c.args.n (cells_of (links_of c.args.pen.now) c.args.chain) (omega (arith, length-cells_of (links_of c.args.pen.now) c.args.chain)))

pub get-requires : goal.get-requires
get-requires c =
    subst (λ cell. cell < length (links_of c.args.pen.now)) (sym c.requires.last)
    (cell_in_table (links_of c.args.pen.now) c.args.chain (c.args.n - 1) c.requires.chain (omega arith))

pub returns-clause-cells : goal.returns-clause-cells
returns-clause-cells c =
    ap (λ cell. linked_from (links_of c.args.pen.now) cell (c.args.chain.length - c.args.n))
    (c.get.ensures ∙ ap (λ cell. get_or (links_of c.args.pen.now) cell 0) c.requires.last)
    ∙ sym (drop-cells_of (links_of c.args.pen.now) c.args.chain c.args.n c.requires.some (omega arith))

pub returns-clause-chain : goal.returns-clause-chain
returns-clause-chain c =
    IsChain-drop (links_of c.args.pen.now) c.args.chain _ c.args.n c.requires.chain (omega arith) (returns-clause-cells c) refl refl
