use Rattle.csdf_analysis.proofs.WakeLemmas.{set_same, set_keeps, set_others}
use Rattle.csdf_analysis.proofs.mask.with_actor.Goals as goal

pub returns-clause-added : goal.returns-clause-added
returns-clause-added c = set_same c.args.mask c.args.actor c.requires

pub returns-clause-kept : goal.returns-clause-kept
returns-clause-kept c = λ a set. set_keeps c.args.mask c.args.actor a c.requires set

pub returns-clause-others : goal.returns-clause-others
returns-clause-others c = λ a set. set_others c.args.mask c.args.actor a c.requires set
