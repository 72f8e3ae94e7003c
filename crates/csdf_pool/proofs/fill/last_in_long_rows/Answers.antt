use Rattle.std.proofs.Common.{◌<◌, ◌≤◌, ◌+◌, length, refl, arith, rules, ◌∙◌}
use Rattle.csdf_pool.proofs.Fills.{next_in}
use Rattle.csdf_pool.proofs.Steps.{some_within, last_some, last_within, rest_some}
use Rattle.csdf_pool.proofs.fill.last_in_long_rows.Goals as goal

pub stretch_at-stretch-requires-clause-start : goal.stretch_at-stretch-requires-clause-start
stretch_at-stretch-requires-clause-start c =
    next_in c.args.links.now c.args.first c.args.n c.loop-done.done c.loop-done.next (omega arith) c.loop-done.invariant.rest
    (length c.args.links.now) c.requires.in_links

pub last_of_stretch-last-requires-clause-in_links : goal.last_of_stretch-last-requires-clause-in_links
last_of_stretch-last-requires-clause-in_links c =
    let done = c.loop-done.done in
    let some = c.stretch_at-stretch.result.cells in
    some_within c.args.links.now c.args.first c.args.n done c.loop-done.next some (done + some) (omega arith) refl (omega arith) c.loop-done.invariant.rest
    (λ cell. cell < length c.args.links.now) c.requires.in_links

pub bounds-links-last : goal.bounds-links-last
bounds-links-last c =
    let done = c.loop-done.done in
    let some = c.stretch_at-stretch.result.cells in
    last_within c.args.links.now c.args.first c.args.n done c.loop-done.next some (done + some) (omega arith) refl (omega arith) c.loop-done.invariant.rest
    (length c.args.links.now) c.last_of_stretch-last.result c.requires.in_links c.last_of_stretch-last.ensures

pub loop-done-preserved : goal.loop-done-preserved
loop-done-preserved c =
    let links = c.args.links.now in
    let n = c.args.n in
    let done = c.loop-done.done in
    let next = c.loop-done.next in
    let some = c.stretch_at-stretch.result.cells in
    let moves : 0 < some = omega arith in
    let fits : done + some ≤ n = omega arith in
    let rest = c.loop-done.invariant.rest in
    record {
      next_fits = search rules;
      reached = fits;
      rest = rest_some links c.args.first n done next some (done + some) moves refl fits rest c.last_of_stretch-last.result c.last_of_stretch-last.ensures;
      last_is = λ _. c.last_of_stretch-last.ensures ∙ last_some links c.args.first n done next some (done + some) moves refl fits rest;
    }
