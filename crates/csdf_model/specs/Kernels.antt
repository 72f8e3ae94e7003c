-- Which kernels stand at the ends of a graph.
use Rattle.std.specs.Prelude.{Bool, true, false}
use Rattle.csdf_model.specs.declared.parts.Kernel.{Kernel}
use Rattle.csdf_model.specs.declared.parts.Kernel.TheVariants as kernel

-- that of a source
abbrev pub is_source_kernel : Kernel → Bool
is_source_kernel kernel.Source = true
is_source_kernel kernel.Sink = false
is_source_kernel kernel.Copy = false
is_source_kernel kernel.Sum = false
is_source_kernel (kernel.Fir weights taps shift) = false

-- that of a sink
abbrev pub is_sink_kernel : Kernel → Bool
is_sink_kernel kernel.Source = false
is_sink_kernel kernel.Sink = true
is_sink_kernel kernel.Copy = false
is_sink_kernel kernel.Sum = false
is_sink_kernel (kernel.Fir weights taps shift) = false
