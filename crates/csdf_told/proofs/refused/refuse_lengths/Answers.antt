use Rattle.std.proofs.Common.{rules}
use Rattle.csdf_told.proofs.refused.refuse_lengths.Goals as goal

pub returns-clause-told : goal.returns-clause-told
returns-clause-told g c = search rules
