use Rattle.std.proofs.Common.{map, sym, subst}
use Rattle.csdf_model.specs.Graph.{channel_view}
use Rattle.csdf_analysis.specs.Fewer.{AreHeldIn}
use Rattle.csdf_analysis.proofs.most.lower_until_fitting.Goals as goal

pub lower_all-requires-clause-held : goal.lower_all-requires-clause-held
lower_all-requires-clause-held c =
    subst (λ n. AreHeldIn n (map channel_view c.args.channels.now) c.args.capacities.now) (sym c.loop.auto.most) c.requires.held

pub returns-clause-fits : goal.returns-clause-fits
returns-clause-fits c = c.lower_all.ensures.fits c.loop-test.false
