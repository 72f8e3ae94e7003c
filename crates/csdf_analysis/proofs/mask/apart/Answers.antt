use Rattle.csdf_analysis.proofs.WakeLemmas.{apart_either, apart_off, and_kept}
use Rattle.csdf_analysis.proofs.mask.apart.Goals as goal

pub returns-clause-either : goal.returns-clause-either
returns-clause-either c = λ a set. apart_either c.args.mask c.args.other a c.ranges.mask.fits c.ranges.other.fits set

pub returns-clause-kept : goal.returns-clause-kept
returns-clause-kept c = λ a set. and_kept c.args.mask _ a set

pub returns-clause-off : goal.returns-clause-off
returns-clause-off c = λ a set here. apart_off c.args.mask c.args.other a c.ranges.mask.fits c.ranges.other.fits set here
