use Rattle.std.proofs.Common.{rules}
use Rattle.csdf_bytes.proofs.sample_format.SampleFormat.named.Goals as goal

pub returns-in-s16be-clause-named : goal.returns-in-s16be-clause-named
returns-in-s16be-clause-named c = search rules
