use Rattle.std.proofs.Common.{◌+◌, ◌-◌, refl, arith}
use Rattle.csdf_pool.specs.Rows.{IsRow}
use Rattle.csdf_pool.proofs.InRow.{row_as, row_last}
use Rattle.csdf_pool.proofs.fill.last_of_some.Goals as goal

pub overflow_add-result : goal.overflow_add-result
overflow_add-result c =
    let row : IsRow c.args.links.now c.args.first c.args.n =
    row_as c.args.links.now c.args.first c.args.n 16 c.if-n.true (c.if-starts_row.ensures refl) in
    let before = c.args.n - 1 in
    omega (arith, row before (omega arith), c.type_inv.links (c.args.first + before))

pub returns-then-starts_row : goal.returns-then-starts_row
returns-then-starts_row c =
    let row : IsRow c.args.links.now c.args.first c.args.n =
    row_as c.args.links.now c.args.first c.args.n 16 c.if-n.true (c.if-starts_row.ensures refl) in
    row_last c.args.links.now c.args.first c.args.n c.requires.some row
