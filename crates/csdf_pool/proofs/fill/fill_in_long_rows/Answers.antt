use Rattle.std.proofs.Common.{◌≡◌, ◌<◌, ◌≤◌, ◌+◌, ◌-◌, ℕ, List, length, take, take_all, drop, map, All, ap, sym, subst, ◌∙◌, arith, rules}
use Rattle.std.proofs.Math.Seq.{take-add}
use Rattle.csdf_pool.specs.Cells.{times}
use Rattle.csdf_pool.specs.Chains.{linked_from}
use Rattle.csdf_pool.specs.Inside.{token_at}
use Rattle.csdf_pool.proofs.Walks.{length-linked_from}
use Rattle.csdf_pool.specs.Rows.{IsRow}
use Rattle.csdf_pool.proofs.Fills.{next_in}
use Rattle.csdf_pool.proofs.Steps.{piece_size, some_within, last_some, last_within, rest_some, times_some, once_some, written_some}
use Rattle.csdf_pool.proofs.fill.fill_in_long_rows.Goals as goal

pub stretch_at-stretch-requires-clause-start : goal.stretch_at-stretch-requires-clause-start
stretch_at-stretch-requires-clause-start c =
    next_in c.args.links.now c.args.first (length c.args.tokens.now) c.loop-done.done c.loop-done.next (omega arith) c.loop-done.invariant.rest
    (length c.args.links.now) c.requires.in_links

pub fill_stretch-last-requires-clause-row : goal.fill_stretch-last-requires-clause-row
fill_stretch-last-requires-clause-row c = λ in_row.
    let done = c.loop-done.done in
    let cells = c.stretch_at-stretch.result.cells in
    let end = done + cells in
    let size = piece_size c.args.tokens.now done end (omega arith) (omega arith) in
    let same : cells ≡ length (take (end - done) (drop done c.args.tokens.now)) = omega (arith, size) in
    subst (IsRow c.args.links.now c.loop-done.next) same (c.stretch_at-stretch.ensures.row in_row)

pub fill_stretch-last-requires-clause-in_links : goal.fill_stretch-last-requires-clause-in_links
fill_stretch-last-requires-clause-in_links c =
    let done = c.loop-done.done in
    let end = done + c.stretch_at-stretch.result.cells in
    let size = piece_size c.args.tokens.now done end (omega arith) (omega arith) in
    some_within c.args.links.now c.args.first (length c.args.tokens.now) done c.loop-done.next (length (take (end - done) (drop done c.args.tokens.now))) end
    (omega (arith, size)) size (omega arith) c.loop-done.invariant.rest (λ cell. cell < length c.args.links.now) c.requires.in_links

pub fill_stretch-last-requires-clause-in_table : goal.fill_stretch-last-requires-clause-in_table
fill_stretch-last-requires-clause-in_table c =
    let done = c.loop-done.done in
    let end = done + c.stretch_at-stretch.result.cells in
    let size = piece_size c.args.tokens.now done end (omega arith) (omega arith) in
    some_within c.args.links.now c.args.first (length c.args.tokens.now) done c.loop-done.next (length (take (end - done) (drop done c.args.tokens.now))) end
    (omega (arith, size)) size (omega arith) c.loop-done.invariant.rest (λ cell. cell < length c.loop-done.table)
    (subst (λ bound. All (λ cell. cell < bound) (linked_from c.args.links.now c.args.first (length c.args.tokens.now))) (sym c.loop-done.auto.table)
    c.requires.in_table)

pub fill_stretch-last-requires-clause-once : goal.fill_stretch-last-requires-clause-once
fill_stretch-last-requires-clause-once c =
    let done = c.loop-done.done in
    let end = done + c.stretch_at-stretch.result.cells in
    let size = piece_size c.args.tokens.now done end (omega arith) (omega arith) in
    once_some c.args.links.now c.args.first (length c.args.tokens.now) done c.loop-done.next (length (take (end - done) (drop done c.args.tokens.now))) end
    (omega (arith, size)) size (omega arith) c.loop-done.invariant.rest c.requires.once

pub bounds-links-last : goal.bounds-links-last
bounds-links-last c =
    let done = c.loop-done.done in
    let end = done + c.stretch_at-stretch.result.cells in
    let size = piece_size c.args.tokens.now done end (omega arith) (omega arith) in
    last_within c.args.links.now c.args.first (length c.args.tokens.now) done c.loop-done.next (length (take (end - done) (drop done c.args.tokens.now))) end
    (omega (arith, size)) size (omega arith) c.loop-done.invariant.rest (length c.args.links.now) c.fill_stretch-last.result c.requires.in_links
    c.fill_stretch-last.ensures.last

pub loop-done-preserved : goal.loop-done-preserved
loop-done-preserved c =
    let links = c.args.links.now in
    let tokens = c.args.tokens.now in
    let n = length tokens in
    let done = c.loop-done.done in
    let next = c.loop-done.next in
    let end = done + c.stretch_at-stretch.result.cells in
    let came = take (end - done) (drop done tokens) in
    let some = length came in
    let size : done + some ≡ end = piece_size tokens done end (omega arith) (omega arith) in
    let moves : 0 < some = omega (arith, size) in
    let fits : end ≤ n = omega arith in
    let rest = c.loop-done.invariant.rest in
    let back : done + (end - done) ≡ end = omega arith in
    record {
      next_fits = search rules;
      reached = fits;
      rest = rest_some links c.args.first n done next some end moves size fits rest c.fill_stretch-last.result c.fill_stretch-last.ensures.last;
      last_is = λ _. c.fill_stretch-last.ensures.last ∙ last_some links c.args.first n done next some end moves size fits rest;
      written =
          written_some links c.args.first n done next some end moves size fits rest c.requires.once c.loop-done.table c.fill_stretch-last.new.table
          (take done tokens) came c.fill_stretch-last.ensures.others c.loop-done.invariant.written c.fill_stretch-last.ensures.tokens
          ∙ sym (take-add done (end - done) tokens)
          ∙ ap (λ k. take k tokens) back;
      others = λ cell none.
          let parts = times_some links c.args.first n done next some end moves size fits rest cell in
          c.fill_stretch-last.ensures.others cell (omega (arith, none, parts)) ∙ c.loop-done.invariant.others cell (omega (arith, none, parts));
    }

-- the loop went over all cells
all_cells : (links : List ℕ) (first n done : ℕ) → n ≤ done → take done (linked_from links first n) ≡ linked_from links first n
all_cells links first n done h = take_all done (linked_from links first n) (omega (arith, h, length-linked_from links first n))

pub returns-clause-tokens : goal.returns-clause-tokens
returns-clause-tokens c =
    ap (map (token_at c.loop-done.table)) (sym (all_cells c.args.links.now c.args.first (length c.args.tokens.now) c.loop-done.done (omega arith)))
    ∙ c.loop-done.invariant.written
    ∙ take_all c.loop-done.done c.args.tokens.now (omega arith)

pub returns-clause-others : goal.returns-clause-others
returns-clause-others c = λ cell none.
    c.loop-done.invariant.others cell
    (ap (times cell) (all_cells c.args.links.now c.args.first (length c.args.tokens.now) c.loop-done.done (omega arith)) ∙ none)
