use Rattle.std.proofs.Common.{◌≡◌, Some, None, get_or, pos, rules, sym}
use Rattle.std.proofs.lemmas.Int.{to_z-of_z}
use Rattle.std.proofs.lemmas.List.{drop_more, drop_all}
use Rattle.csdf_graph.specs.Ranges.{number_within}
use Rattle.csdf_graph.proofs.PassLemmas.{reads_none}
use Rattle.csdf_graph.proofs.TreeLemmas.{all_some-goes_on, all_some-stops, all_some-ends}
use Rattle.csdf_graph.proofs.ranges.numbers_within.Goals as goal
use mir.Val.{SFits}
use mir.Syntax.{w64}

pub returns-in_err-checked : goal.returns-in_err-checked
returns-in_err-checked c =
    let number = get_or c.args.numbers.now c.loop-number.number-index (pos 0) in
    let fits : SFits w64 number = search rules in
    let none : number_within c.args.low c.args.high number ≡ None = rw (← to_z-of_z w64 number fits) c.in_err-checked.ensures in
    reads_none (λ v. v.items) c.from_residual.result _ c.from_residual.ensures.0
    (sym (all_some-stops (number_within c.args.low c.args.high) _ _ _ c.loop-number.invariant number _
    (drop_more c.args.numbers.now c.loop-number.number-index (pos 0) c.loop-number-test.true) none))

pub loop-number-preserved : goal.loop-number-preserved
loop-number-preserved c =
    let number = get_or c.args.numbers.now c.loop-number.number-index (pos 0) in
    let fits : SFits w64 number = search rules in
    let found : number_within c.args.low c.args.high number ≡ Some c.in_ok-checked.field-0 = rw (← to_z-of_z w64 number fits) c.in_ok-checked.ensures in
    all_some-goes_on (number_within c.args.low c.args.high) _ _ _ c.loop-number.invariant number _ c.in_ok-checked.field-0 _
    (drop_more c.args.numbers.now c.loop-number.number-index (pos 0) c.loop-number-test.true) found c.in_ok-push.ensures.items

pub returns : goal.returns
returns c = sym (all_some-ends (number_within c.args.low c.args.high) _ _ _ c.loop-number.invariant (drop_all c.loop-number.number-index c.args.numbers.now c.loop-number-test.false))
