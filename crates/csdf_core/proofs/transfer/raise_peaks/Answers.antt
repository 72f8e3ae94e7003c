use Rattle.std.proofs.Common.{arith}
use Rattle.std.proofs.lemmas.Grind.{common_steps}
use Rattle.csdf_core.proofs.transfer.raise_peaks.Goals as goal

pub loop-channel-preserved : goal.loop-channel-preserved
loop-channel-preserved c = grind (arith, common_steps)

pub bounds-peaks-c-in-loop-channel : goal.bounds-peaks-c-in-loop-channel
bounds-peaks-c-in-loop-channel c = grind (arith, common_steps)
