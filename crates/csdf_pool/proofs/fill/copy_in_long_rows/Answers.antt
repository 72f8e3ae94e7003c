use Rattle.std.proofs.Common.{◌≡◌, ◌<◌, ◌≤◌, ◌+◌, ◌-◌, ◌++◌, length, take, take_all, drop, map, ap, ap₂, sym, subst, ◌∙◌, arith, rules}
use Rattle.std.proofs.lemmas.Slice.{overwrites}
use borrow.Rule.Slice.PartMut.{put_mid}
use Rattle.csdf_pool.specs.Chains.{linked_from}
use Rattle.csdf_pool.specs.Inside.{token_at}
use Rattle.csdf_pool.proofs.Walks.{length-linked_from}
use Rattle.csdf_pool.specs.Rows.{IsRow}
use Rattle.csdf_pool.proofs.Fills.{next_in}
use Rattle.csdf_pool.proofs.Steps.{piece_size, some_within, last_some, last_within, rest_some, read_some}
use Rattle.csdf_pool.proofs.fill.copy_in_long_rows.Goals as goal

pub stretch_at-stretch-requires-clause-start : goal.stretch_at-stretch-requires-clause-start
stretch_at-stretch-requires-clause-start c =
    next_in c.args.links.now c.args.first (length c.args.tokens.now) c.loop-done.done c.loop-done.next (omega arith) c.loop-done.invariant.rest
    (length c.args.links.now) c.requires.in_links

pub copy_stretch-last-requires-clause-row : goal.copy_stretch-last-requires-clause-row
copy_stretch-last-requires-clause-row c = λ in_row.
    let done = c.loop-done.done in
    let cells = c.stretch_at-stretch.result.cells in
    let end = done + cells in
    let size = piece_size c.loop-done.tokens done end (omega arith) (omega arith) in
    let same : cells ≡ length (take (end - done) (drop done c.loop-done.tokens)) = omega (arith, size) in
    subst (IsRow c.args.links.now c.loop-done.next) same (c.stretch_at-stretch.ensures.row in_row)

pub copy_stretch-last-requires-clause-in_links : goal.copy_stretch-last-requires-clause-in_links
copy_stretch-last-requires-clause-in_links c =
    let done = c.loop-done.done in
    let end = done + c.stretch_at-stretch.result.cells in
    let size = piece_size c.loop-done.tokens done end (omega arith) (omega arith) in
    some_within c.args.links.now c.args.first (length c.args.tokens.now) done c.loop-done.next (length (take (end - done) (drop done c.loop-done.tokens))) end
    (omega (arith, size)) size (omega arith) c.loop-done.invariant.rest (λ cell. cell < length c.args.links.now) c.requires.in_links

pub copy_stretch-last-requires-clause-in_table : goal.copy_stretch-last-requires-clause-in_table
copy_stretch-last-requires-clause-in_table c =
    let done = c.loop-done.done in
    let end = done + c.stretch_at-stretch.result.cells in
    let size = piece_size c.loop-done.tokens done end (omega arith) (omega arith) in
    some_within c.args.links.now c.args.first (length c.args.tokens.now) done c.loop-done.next (length (take (end - done) (drop done c.loop-done.tokens))) end
    (omega (arith, size)) size (omega arith) c.loop-done.invariant.rest (λ cell. cell < length c.args.table.now) c.requires.in_table

pub bounds-links-last : goal.bounds-links-last
bounds-links-last c =
    let done = c.loop-done.done in
    let end = done + c.stretch_at-stretch.result.cells in
    let size = piece_size c.loop-done.tokens done end (omega arith) (omega arith) in
    last_within c.args.links.now c.args.first (length c.args.tokens.now) done c.loop-done.next (length (take (end - done) (drop done c.loop-done.tokens))) end
    (omega (arith, size)) size (omega arith) c.loop-done.invariant.rest (length c.args.links.now) c.copy_stretch-last.result c.requires.in_links
    c.copy_stretch-last.ensures.last

pub loop-done-preserved : goal.loop-done-preserved
loop-done-preserved c =
    let links = c.args.links.now in
    let n = length c.args.tokens.now in
    let done = c.loop-done.done in
    let next = c.loop-done.next in
    let end = done + c.stretch_at-stretch.result.cells in
    let some = length (take (end - done) (drop done c.loop-done.tokens)) in
    let size : done + some ≡ end = piece_size c.loop-done.tokens done end (omega arith) (omega arith) in
    let moves : 0 < some = omega (arith, size) in
    let fits : end ≤ n = omega arith in
    let rest = c.loop-done.invariant.rest in
    let front : take end (put_mid done (end - done) c.loop-done.tokens c.copy_stretch-last.new.tokens) ≡ take done c.loop-done.tokens ++ c.copy_stretch-last.new.tokens =
    search (rules, overwrites) in
    record {
      next_fits = search rules;
      reached = fits;
      rest = rest_some links c.args.first n done next some end moves size fits rest c.copy_stretch-last.result c.copy_stretch-last.ensures.last;
      last_is = λ _. c.copy_stretch-last.ensures.last ∙ last_some links c.args.first n done next some end moves size fits rest;
      read =
          front
          ∙ ap₂ ◌++◌ c.loop-done.invariant.read c.copy_stretch-last.ensures.tokens
          ∙ sym (read_some links c.args.first n done next some end moves size fits rest c.args.table.now);
    }

pub returns-clause-tokens : goal.returns-clause-tokens
returns-clause-tokens c =
    sym (take_all c.loop-done.done c.loop-done.tokens (omega arith))
    ∙ c.loop-done.invariant.read
    ∙ ap (map (token_at c.args.table.now))
    (take_all c.loop-done.done (linked_from c.args.links.now c.args.first (length c.args.tokens.now))
    (omega (arith, length-linked_from c.args.links.now c.args.first (length c.args.tokens.now))))
