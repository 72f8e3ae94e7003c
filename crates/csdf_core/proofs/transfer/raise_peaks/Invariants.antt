use Rattle.std.proofs.Common.{◌≡◌, drop}
use Rattle.csdf_core.specs.Ports.{tokens_in, raise_over}
use Rattle.csdf_core.proofs.transfer.raise_peaks.Given as goal

abbrev pub invariant-loop-channel : goal.invariant-loop-channel
invariant-loop-channel l = raise_over (drop l.channel-index l.outputs) (tokens_in l.pool) l.peaks ≡ raise_over l.outputs (tokens_in l.pool) l.fn.peaks
