use Rattle.std.proofs.Common.{◌+◌, ◌-◌, arith}
use Rattle.csdf_pool.proofs.InRow.{row_last}
use Rattle.csdf_pool.proofs.fill.last_of_stretch.Goals as goal

pub overflow_add-result : goal.overflow_add-result
overflow_add-result c =
    let before = c.args.n - 1 in
    omega (arith, c.requires.row c.if-in_row.true before (omega arith), c.type_inv.links (c.args.first + before))

pub returns-then-in_row : goal.returns-then-in_row
returns-then-in_row c = row_last c.args.links.now c.args.first c.args.n c.requires.some (c.requires.row c.if-in_row.true)
