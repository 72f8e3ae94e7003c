use Rattle.std.proofs.Common.{rules}
use Rattle.csdf_bytes.proofs.sample_format.SampleFormat.name.Goals as goal

pub returns-in-S32Be : goal.returns-in-S32Be
returns-in-S32Be c = search rules
