use Rattle.std.proofs.Common.{◌≤◌, ◌+◌, ◌-◌, length, map, ap, arith, ◌∙◌}
use Rattle.csdf_pool.specs.Chains.{linked_from}
use Rattle.csdf_pool.specs.Inside.{token_at}
use Rattle.csdf_pool.proofs.InRow.{row_last, row_within, row_filled, row_others}
use Rattle.csdf_pool.proofs.fill.fill_stretch.Goals as goal

pub fill_row-requires-clause-in_table : goal.fill_row-requires-clause-in_table
fill_row-requires-clause-in_table c =
    row_within c.args.links.now c.args.first (length c.args.tokens.now) (length c.args.table.now) c.requires.some
    (c.requires.row c.if-in_row.true) c.requires.in_table

pub fill_row-requires-clause-small : goal.fill_row-requires-clause-small
fill_row-requires-clause-small c =
    let before = length c.args.tokens.now - 1 in
    omega (arith, c.requires.row c.if-in_row.true before (omega arith), c.type_inv.links (c.args.first + before))

pub returns-then-in_row-clause-tokens : goal.returns-then-in_row-clause-tokens
returns-then-in_row-clause-tokens c =
    let within : c.args.first + length c.args.tokens.now ≤ length c.args.table.now =
    row_within c.args.links.now c.args.first (length c.args.tokens.now) (length c.args.table.now) c.requires.some
    (c.requires.row c.if-in_row.true) c.requires.in_table in
    ap (λ table. map (token_at table) (linked_from c.args.links.now c.args.first (length c.args.tokens.now))) c.fill_row.ensures.tokens
    ∙ row_filled c.args.links.now c.args.table.now c.args.first c.args.tokens.now (c.requires.row c.if-in_row.true) within

pub returns-then-in_row-clause-others : goal.returns-then-in_row-clause-others
returns-then-in_row-clause-others c = λ cell none.
    let within : c.args.first + length c.args.tokens.now ≤ length c.args.table.now =
    row_within c.args.links.now c.args.first (length c.args.tokens.now) (length c.args.table.now) c.requires.some
    (c.requires.row c.if-in_row.true) c.requires.in_table in
    ap (λ table. token_at table cell) c.fill_row.ensures.tokens
    ∙ row_others c.args.links.now c.args.table.now c.args.first c.args.tokens.now (c.requires.row c.if-in_row.true) within cell none

pub returns-then-in_row-clause-last : goal.returns-then-in_row-clause-last
returns-then-in_row-clause-last c =
    c.fill_row.ensures.last
    ∙ row_last c.args.links.now c.args.first (length c.args.tokens.now) c.requires.some (c.requires.row c.if-in_row.true)
