use Rattle.csdf_analysis.proofs.WakeLemmas.{or_first, or_second, or_either}
use Rattle.csdf_analysis.proofs.mask.joined.Goals as goal

pub returns-clause-first : goal.returns-clause-first
returns-clause-first c = λ a set. or_first c.args.mask c.args.other a set

pub returns-clause-second : goal.returns-clause-second
returns-clause-second c = λ a set. or_second c.args.mask c.args.other a set

pub returns-clause-either : goal.returns-clause-either
returns-clause-either c = λ a set. or_either c.args.mask c.args.other a set
