use Rattle.std.proofs.Common.{◌≡◌, ◌++◌, drop, map, length}
use Rattle.csdf_core.specs.Ports.{tokens_in}
use Rattle.csdf_core.proofs.filling.lengths_of.Given as goal

abbrev pub invariant-loop-channel : goal.invariant-loop-channel
invariant-loop-channel l = l.lengths.items ++ map length (drop l.channel (tokens_in l.pool)) ≡ map length (tokens_in l.pool)
