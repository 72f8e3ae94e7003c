use Rattle.std.proofs.Common.{rules}
use Rattle.csdf_kernel.proofs.outputs.make_room.Goals as goal

pub returns-in_err-reserve_exact-clause-fits : goal.returns-in_err-reserve_exact-clause-fits
returns-in_err-reserve_exact-clause-fits c = search rules
