use Rattle.std.proofs.Common.{◌≤◌, length, arith}
use Rattle.csdf_analysis.proofs.StallLemmas.{none_short}
use Rattle.csdf_analysis.proofs.waits.first_short.Goals as goal

pub returns : goal.returns
returns c =
    let all : length c.args.net.now.channels ≤ c.loop-number.number = omega (arith, c.loop-number-test.false, c.channels-number-end.ensures.count) in
    none_short _ _ c.args.actor c.loop-number.number all c.loop-number.invariant
