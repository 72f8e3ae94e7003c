use Rattle.std.proofs.Common.{rules}
use Rattle.csdf_stream.proofs.options.TokenFormat.named.Goals as goal

pub returns-then-eq-clause-named : goal.returns-then-eq-clause-named
returns-then-eq-clause-named c = search rules

pub returns-in-None-clause-unknown : goal.returns-in-None-clause-unknown
returns-in-None-clause-unknown c = search rules
