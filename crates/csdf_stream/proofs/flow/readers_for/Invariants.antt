use Rattle.std.proofs.Common.{◌≡◌, replicate}
use Rattle.csdf_stream.specs.Reading.{fresh}
use Rattle.csdf_stream.proofs.flow.readers_for.Given as goal

abbrev pub invariant-loop-made : goal.invariant-loop-made
invariant-loop-made l = l.readers.items ≡ replicate l.made (fresh l.format)
