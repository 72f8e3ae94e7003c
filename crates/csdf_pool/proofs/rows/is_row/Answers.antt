use Rattle.std.proofs.Common.{◌≡◌, ◌+◌, ◌-◌, ◌<◌, ◌%◌, ◌^◌, ℕ, get_or, below_more, arith}
use Rattle.std.proofs.lemmas.Grind.{common_steps}
use Rattle.csdf_pool.proofs.Bits.{same_if_none, none_if_same, back_by, ahead_by}
use Rattle.csdf_pool.proofs.rows.is_row.Goals as goal

pub loop-i-preserved : goal.loop-i-preserved
loop-i-preserved c =
    let links = c.args.links.now in
    let at = c.args.at in
    let i = c.loop-i.i in
    let differ = c.loop-i.differ in
    let link = get_or links (at + i) 0 in
    let back = (link + (2 ^ 32 - i)) % 2 ^ 32 in
    let fits : link < 2 ^ 32 = omega (arith, c.type_inv.links (at + i)) in (
      λ none. below_more (λ k. get_or links (at + k) 0 ≡ at + k + 1) i
          (c.loop-i.invariant.0 (same_if_none differ back (at + 1) none).0)
          (ahead_by link i (at + 1) (at + i + 1) fits (omega arith) (omega arith) (same_if_none differ back (at + 1) none).1),
      λ all. none_if_same differ back (at + 1) (c.loop-i.invariant.1 (λ k below. all k (omega (arith, below))))
          (back_by link i (at + 1) (at + i + 1) (omega arith) (omega arith) (all i (omega arith))),
    )

pub returns : goal.returns
returns c = grind (arith, common_steps)
