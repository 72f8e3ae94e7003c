use Rattle.std.proofs.Common.{◌≤◌, ◌+◌, ◌-◌, length, sym, arith, ◌∙◌}
use Rattle.csdf_pool.proofs.InRow.{row_last, row_within, row_tokens}
use Rattle.csdf_pool.proofs.fill.copy_stretch.Goals as goal

pub copy_row-requires-clause-in_table : goal.copy_row-requires-clause-in_table
copy_row-requires-clause-in_table c =
    row_within c.args.links.now c.args.first (length c.args.tokens.now) (length c.args.table.now) c.requires.some
    (c.requires.row c.if-in_row.true) c.requires.in_table

pub copy_row-requires-clause-small : goal.copy_row-requires-clause-small
copy_row-requires-clause-small c =
    let before = length c.args.tokens.now - 1 in
    omega (arith, c.requires.row c.if-in_row.true before (omega arith), c.type_inv.links (c.args.first + before))

pub returns-then-in_row-clause-tokens : goal.returns-then-in_row-clause-tokens
returns-then-in_row-clause-tokens c =
    let within : c.args.first + length c.args.tokens.now ≤ length c.args.table.now =
    row_within c.args.links.now c.args.first (length c.args.tokens.now) (length c.args.table.now) c.requires.some
    (c.requires.row c.if-in_row.true) c.requires.in_table in
    c.copy_row.ensures.tokens
    ∙ sym (row_tokens c.args.links.now c.args.table.now c.args.first (length c.args.tokens.now) (c.requires.row c.if-in_row.true) within)

pub returns-then-in_row-clause-last : goal.returns-then-in_row-clause-last
returns-then-in_row-clause-last c =
    c.copy_row.ensures.last
    ∙ row_last c.args.links.now c.args.first (length c.args.tokens.now) c.requires.some (c.requires.row c.if-in_row.true)
