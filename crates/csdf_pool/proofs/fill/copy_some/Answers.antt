use Rattle.std.proofs.Common.{◌≤◌, ◌+◌, ◌-◌, length, sym, arith, refl, ◌∙◌}
use Rattle.csdf_pool.specs.Rows.{IsRow}
use Rattle.csdf_pool.proofs.InRow.{row_as, row_last, row_within, row_tokens}
use Rattle.csdf_pool.proofs.fill.copy_some.Goals as goal

pub copy_row-requires-clause-in_table : goal.copy_row-requires-clause-in_table
copy_row-requires-clause-in_table c =
    let row : IsRow c.args.links.now c.args.first (length c.args.tokens.now) =
    row_as c.args.links.now c.args.first (length c.args.tokens.now) 16 c.if-tokens-eq-ROW.true (c.if-starts_row.ensures refl) in
    row_within c.args.links.now c.args.first (length c.args.tokens.now) (length c.args.table.now) c.requires.some
    row c.requires.in_table

pub copy_row-requires-clause-small : goal.copy_row-requires-clause-small
copy_row-requires-clause-small c =
    let row : IsRow c.args.links.now c.args.first (length c.args.tokens.now) =
    row_as c.args.links.now c.args.first (length c.args.tokens.now) 16 c.if-tokens-eq-ROW.true (c.if-starts_row.ensures refl) in
    let before = length c.args.tokens.now - 1 in
    omega (arith, row before (omega arith), c.type_inv.links (c.args.first + before))

pub returns-then-starts_row-clause-tokens : goal.returns-then-starts_row-clause-tokens
returns-then-starts_row-clause-tokens c =
    let row : IsRow c.args.links.now c.args.first (length c.args.tokens.now) =
    row_as c.args.links.now c.args.first (length c.args.tokens.now) 16 c.if-tokens-eq-ROW.true (c.if-starts_row.ensures refl) in
    let within : c.args.first + length c.args.tokens.now ≤ length c.args.table.now =
    row_within c.args.links.now c.args.first (length c.args.tokens.now) (length c.args.table.now) c.requires.some
    row c.requires.in_table in
    c.copy_row.ensures.tokens
    ∙ sym (row_tokens c.args.links.now c.args.table.now c.args.first (length c.args.tokens.now) row within)

pub returns-then-starts_row-clause-last : goal.returns-then-starts_row-clause-last
returns-then-starts_row-clause-last c =
    let row : IsRow c.args.links.now c.args.first (length c.args.tokens.now) =
    row_as c.args.links.now c.args.first (length c.args.tokens.now) 16 c.if-tokens-eq-ROW.true (c.if-starts_row.ensures refl) in
    c.copy_row.ensures.last
    ∙ row_last c.args.links.now c.args.first (length c.args.tokens.now) c.requires.some row
