use Rattle.csdf_analysis.proofs.AloneLemmas.{fit_at}
use Rattle.csdf_analysis.proofs.calls.alone.tight_channel.Goals as goal

pub first_tight-requires : goal.first_tight-requires
first_tight-requires c =
    fit_at c.args.graph.now c.args.vector.now.r.items c.args.vector.now.q.items _ _ c.channels.ensures.well_formed c.requires c.deref.ensures.value c.channels.ensures.value
