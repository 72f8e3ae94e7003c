use Rattle.std.proofs.Common.{rules}
use Rattle.csdf_bytes.proofs.fused.FusedIntake.fetch.Goals as goal

pub returns-clause-blown : goal.returns-clause-blown
returns-clause-blown c = search rules
