use Rattle.std.proofs.Common.{rules}
use Rattle.csdf_bytes.proofs.sample_format.SampleFormat.size.Goals as goal

pub returns-in-S16Le : goal.returns-in-S16Le
returns-in-S16Le c = search rules
