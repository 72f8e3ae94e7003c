use Rattle.std.proofs.Common.{◌≡◌, ◌+◌, ◌++◌, ◌∷◌, [], suc, arith, ap, ap₂, ◌∙◌}
use Rattle.std.specs.List.{range_with_len}
use Rattle.csdf_pool.proofs.Opening.{range_more}
use Rattle.csdf_pool.proofs.pool.ascending_links.Goals as goal

pub loop-cell-preserved : goal.loop-cell-preserved
loop-cell-preserved c =
    let more : c.loop-cell.cell + 1 ≡ 1 + c.loop-cell.cell = omega arith in
    let count : suc c.loop-cell.cell ≡ c.loop-cell.cell + 1 = omega arith in
    c.in_ok-push.ensures.items
    ∙ ap₂ (λ xs k. xs ++ k ∷ []) c.loop-cell.invariant more
    ∙ range_more 1 c.loop-cell.cell
    ∙ ap (range_with_len 1) count
