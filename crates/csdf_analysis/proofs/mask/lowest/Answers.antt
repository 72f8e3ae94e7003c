use Rattle.csdf_analysis.proofs.WakeLemmas.{in_below, lowest_is}
use Rattle.csdf_analysis.proofs.mask.lowest.Goals as goal

pub returns-else-mask-eq0-clause-answer : goal.returns-else-mask-eq0-clause-answer
returns-else-mask-eq0-clause-answer c = lowest_is c.args.mask c.if-mask-eq0.false c.ranges.mask.fits

pub returns-else-mask-eq0-clause-few : goal.returns-else-mask-eq0-clause-few
returns-else-mask-eq0-clause-few c =
    let is = lowest_is c.args.mask c.if-mask-eq0.false c.ranges.mask.fits in
    in_below c.args.mask _ c.ranges.mask.fits is.set
