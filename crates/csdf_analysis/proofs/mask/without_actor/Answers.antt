use Rattle.csdf_analysis.proofs.WakeLemmas.{in_below, clear_less, clear_others, clear_kept}
use Rattle.csdf_analysis.proofs.mask.without_actor.Goals as goal

pub overflow_shl-result : goal.overflow_shl-result
overflow_shl-result c = in_below c.args.mask c.args.actor c.ranges.mask.fits c.requires

pub returns-clause-less : goal.returns-clause-less
returns-clause-less c = clear_less c.args.mask c.args.actor (in_below c.args.mask c.args.actor c.ranges.mask.fits c.requires) c.requires

pub returns-clause-others : goal.returns-clause-others
returns-clause-others c = λ a set. clear_others c.args.mask c.args.actor a (in_below c.args.mask c.args.actor c.ranges.mask.fits c.requires) c.ranges.mask.fits
    set

pub returns-clause-kept : goal.returns-clause-kept
returns-clause-kept c = λ a set. clear_kept c.args.mask c.args.actor a set
