use Rattle.std.proofs.Common.{◌≡◌, Some, get_or, pos, rules}
use Rattle.std.proofs.lemmas.Int.{to_z-of_z}
use Rattle.csdf_graph.specs.Ranges.{signed_within}
use Rattle.csdf_graph.proofs.RangeLemmas.{padded-step}
use Rattle.csdf_graph.proofs.ranges.padded.Goals as goal
use mir.Val.{SFits}
use mir.Syntax.{w32, w64}

pub loop-i-preserved : goal.loop-i-preserved
loop-i-preserved c =
    let z = c.in_ok-weights.field-0 in
    let fits : SFits w32 z = search rules in
    let number = get_or c.args.numbers.now c.loop-i.i (pos 0) in
    let number_fits : SFits w64 number = search rules in
    let found : signed_within 15 number ≡ Some z = rw (← to_z-of_z w64 number number_fits) c.in_ok-weights.ensures in
    let step = padded-step (signed_within 15) c.loop-i.weights c.args.numbers.now c.loop-i.i (pos 0) z _ c.loop-i.invariant.len c.loop-i-test.true c.requires
    found c.loop-i.invariant.rest c.loop-i.invariant.so_far in
    simp to_z-of_z (record { len = step.0; rest = step.1; so_far = step.2 })
