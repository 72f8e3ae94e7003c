use Rattle.std.proofs.Common.{◌≤◌, ◌+◌, ◌-◌, length, map, ap, arith, refl, ◌∙◌}
use Rattle.csdf_pool.specs.Chains.{linked_from}
use Rattle.csdf_pool.specs.Inside.{token_at}
use Rattle.csdf_pool.specs.Rows.{IsRow}
use Rattle.csdf_pool.proofs.InRow.{row_as, row_last, row_within, row_filled, row_others}
use Rattle.csdf_pool.proofs.fill.fill_some.Goals as goal

pub fill_row-requires-clause-in_table : goal.fill_row-requires-clause-in_table
fill_row-requires-clause-in_table c =
    let row : IsRow c.args.links.now c.args.first (length c.args.tokens.now) =
    row_as c.args.links.now c.args.first (length c.args.tokens.now) 16 c.if-tokens-eq-ROW.true (c.if-starts_row.ensures refl) in
    row_within c.args.links.now c.args.first (length c.args.tokens.now) (length c.args.table.now) c.requires.some
    row c.requires.in_table

pub fill_row-requires-clause-small : goal.fill_row-requires-clause-small
fill_row-requires-clause-small c =
    let row : IsRow c.args.links.now c.args.first (length c.args.tokens.now) =
    row_as c.args.links.now c.args.first (length c.args.tokens.now) 16 c.if-tokens-eq-ROW.true (c.if-starts_row.ensures refl) in
    let before = length c.args.tokens.now - 1 in
    omega (arith, row before (omega arith), c.type_inv.links (c.args.first + before))

pub returns-then-starts_row-clause-tokens : goal.returns-then-starts_row-clause-tokens
returns-then-starts_row-clause-tokens c =
    let row : IsRow c.args.links.now c.args.first (length c.args.tokens.now) =
    row_as c.args.links.now c.args.first (length c.args.tokens.now) 16 c.if-tokens-eq-ROW.true (c.if-starts_row.ensures refl) in
    let within : c.args.first + length c.args.tokens.now ≤ length c.args.table.now =
    row_within c.args.links.now c.args.first (length c.args.tokens.now) (length c.args.table.now) c.requires.some
    row c.requires.in_table in
    ap (λ table. map (token_at table) (linked_from c.args.links.now c.args.first (length c.args.tokens.now))) c.fill_row.ensures.tokens
    ∙ row_filled c.args.links.now c.args.table.now c.args.first c.args.tokens.now row within

pub returns-then-starts_row-clause-others : goal.returns-then-starts_row-clause-others
returns-then-starts_row-clause-others c = λ cell none.
    let row : IsRow c.args.links.now c.args.first (length c.args.tokens.now) =
    row_as c.args.links.now c.args.first (length c.args.tokens.now) 16 c.if-tokens-eq-ROW.true (c.if-starts_row.ensures refl) in
    let within : c.args.first + length c.args.tokens.now ≤ length c.args.table.now =
    row_within c.args.links.now c.args.first (length c.args.tokens.now) (length c.args.table.now) c.requires.some
    row c.requires.in_table in
    ap (λ table. token_at table cell) c.fill_row.ensures.tokens
    ∙ row_others c.args.links.now c.args.table.now c.args.first c.args.tokens.now row within cell none

pub returns-then-starts_row-clause-last : goal.returns-then-starts_row-clause-last
returns-then-starts_row-clause-last c =
    let row : IsRow c.args.links.now c.args.first (length c.args.tokens.now) =
    row_as c.args.links.now c.args.first (length c.args.tokens.now) 16 c.if-tokens-eq-ROW.true (c.if-starts_row.ensures refl) in
    c.fill_row.ensures.last
    ∙ row_last c.args.links.now c.args.first (length c.args.tokens.now) c.requires.some row
