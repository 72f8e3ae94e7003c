use Rattle.csdf_stream.proofs.LengthLemmas.{IsMostTo}
use Rattle.csdf_stream.proofs.lengths.most_below.Given as goal

-- the most for the sources so far
abbrev pub invariant-loop-source : goal.invariant-loop-source
invariant-loop-source l = IsMostTo l.accepted l.sources l.limit l.source-index l.most
