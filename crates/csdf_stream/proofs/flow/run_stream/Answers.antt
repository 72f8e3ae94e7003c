use Rattle.std.proofs.Common.{[], refl, subst, sym}
use Rattle.csdf_run.specs.Streaming.{StandsAfter, StreamView}
use Rattle.csdf_stream.proofs.flow.run_stream.Goals as goal

pub run_new-requires-clause-new : goal.run_new-requires-clause-new
run_new-requires-clause-new g c κs within =
    subst (λ (s : StreamView). StandsAfter s.accepted [] s) (sym c.in_ok-stream.ensures)
    (record { accepted = c.graph.ensures.accepted; whole = tt; here = refl; totals = refl })
