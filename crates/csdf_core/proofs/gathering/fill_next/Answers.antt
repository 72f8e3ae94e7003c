use Rattle.std.proofs.lemmas.Grind.{common_steps}
use Rattle.std.proofs.Common.{◌≡◌, ◌+◌, ◌<◌, ℕ, List, length, set, take, drop, ap, sym, ◌∙◌, arith}
use Rattle.std.specs.Prelude.{ℤ}
use Rattle.std.proofs.lemmas.List.{length-set}
use Rattle.csdf_core.specs.Engine.{filled}
use Rattle.csdf_core.proofs.BlockTokens.{drop_sum}
use Rattle.csdf_core.proofs.FilledUp.{fill_step}
use Rattle.csdf_core.proofs.gathering.fill_next.Goals as goal

pub loop-place-preserved : goal.loop-place-preserved
loop-place-preserved c =
    let i : ℕ = c.loop-place.place in
    let at : List ℤ = c.loop-place.into in
    let lt : i < length at = (let s = c.loop-place.invariant.size in let t = c.loop-place-test.true in omega (arith, s, t)) in
    let filled_so : take (i + 1) (set at i c.next_of.result) ≡ filled (i + 1) c.args.tokens.now =
    fill_step i at c.next_of.result c.args.tokens.now c.loop-place.tokens lt c.loop-place.invariant.filled c.loop-place.invariant.left c.next_of.ensures.token in
    let left_so : c.next_of.new.tokens ≡ drop (i + 1) c.args.tokens.now =
    c.next_of.ensures.left ∙ ap (drop 1) c.loop-place.invariant.left ∙ sym (drop_sum i 1 c.args.tokens.now) in
    let size_so : length (set at i c.next_of.result) ≡ length c.args.into.now = length-set at i c.next_of.result ∙ c.loop-place.invariant.size in
    grind (arith, common_steps)
