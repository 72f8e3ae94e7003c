use Rattle.std.proofs.Common.{◌≡◌, Some, None, get_or, pos, rules, sym}
use Rattle.std.proofs.lemmas.Int.{to_z-of_z}
use Rattle.std.proofs.lemmas.List.{drop_more, drop_all}
use Rattle.csdf_graph.specs.Ranges.{signed_within}
use Rattle.csdf_graph.proofs.PassLemmas.{reads_none}
use Rattle.csdf_graph.proofs.TreeLemmas.{all_some-goes_on, all_some-stops, all_some-ends}
use Rattle.csdf_graph.proofs.ranges.tokens_of.Goals as goal
use mir.Val.{SFits}
use mir.Syntax.{w32, w64}

pub returns-in_err-token_of : goal.returns-in_err-token_of
returns-in_err-token_of c =
    let number = get_or c.args.numbers.now c.loop-number.number-index (pos 0) in
    let fits : SFits w64 number = search rules in
    let none : signed_within 31 number ≡ None = rw (← to_z-of_z w64 number fits) c.in_err-token_of.ensures in
    reads_none (λ v. v.items) c.from_residual.result _ c.from_residual.ensures.0
    (sym (all_some-stops (signed_within 31) _ _ _ c.loop-number.invariant number _
    (drop_more c.args.numbers.now c.loop-number.number-index (pos 0) c.loop-number-test.true) none))

pub loop-number-preserved : goal.loop-number-preserved
loop-number-preserved c =
    let number = get_or c.args.numbers.now c.loop-number.number-index (pos 0) in
    let fits : SFits w64 number = search rules in
    let token_fits : SFits w32 c.in_ok-token_of.field-0 = search rules in
    let found : signed_within 31 number ≡ Some c.in_ok-token_of.field-0 = rw (← to_z-of_z w64 number fits) c.in_ok-token_of.ensures in
    all_some-goes_on (signed_within 31) _ _ _ c.loop-number.invariant number _ c.in_ok-token_of.field-0 _
    (drop_more c.args.numbers.now c.loop-number.number-index (pos 0) c.loop-number-test.true) found (rw (to_z-of_z w32 c.in_ok-token_of.field-0 token_fits) at c.in_ok-push.ensures.items)

pub returns : goal.returns
returns c = sym (all_some-ends (signed_within 31) _ _ _ c.loop-number.invariant (drop_all c.loop-number.number-index c.args.numbers.now c.loop-number-test.false))
