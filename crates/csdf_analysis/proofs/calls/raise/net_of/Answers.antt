use Rattle.std.proofs.Common.{subst, sym}
use Rattle.csdf_analysis.specs.Fitting.{IsFit, IsPhased}
use Rattle.csdf_analysis.proofs.SearchLemmas.{fit_of, phased_of}
use Rattle.csdf_analysis.proofs.calls.raise.net_of.Goals as goal

pub new-requires-clause-fit : goal.new-requires-clause-fit
new-requires-clause-fit c =
    subst (IsFit c.args.graph.now.channels) (sym c.deref.ensures.value) (fit_of c.args.graph.now _ _ c.channels-well_formed.ensures.well_formed c.requires)

pub new-requires-clause-phased : goal.new-requires-clause-phased
new-requires-clause-phased c =
    subst (IsPhased c.args.graph.now.actors c.args.graph.now.channels) (sym c.deref.ensures.value)
    (phased_of c.args.graph.now _ _ c.channels-well_formed.ensures.well_formed c.requires)
