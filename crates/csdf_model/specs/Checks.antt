-- What channels and actors owe each other, once numbers stand for names.
use Rattle.std.specs.Prelude.{ℕ, Bool, not, ◌&&◌, ◌==◌, nat_le, List, length, sum}
use Rattle.csdf_model.specs.declared.parts.Kernel.{Kernel}
use Rattle.csdf_model.specs.declared.parts.Kernel.TheVariants as kernel
use Rattle.csdf_model.specs.Graph.{Actor, Channel, phases_of, input_count, output_count}

-- each rate list has an entry for each phase of its actor
abbrev pub phase_lengths_fit : List Actor → ℕ → Channel → Bool
phase_lengths_fit actors i c = length c.produce == phases_of actors c.from && length c.consume == phases_of actors c.to

-- no rate list sums to 0
abbrev pub has_rates : ℕ → Channel → Bool
has_rates i c = not (sum c.produce == 0) && not (sum c.consume == 0)

-- what a kernel asks: a source no input and some output, a sink some input and no output, each other some of both
abbrev pub ports_fit : Kernel → ℕ → ℕ → Bool
ports_fit kernel.Source inputs outputs = inputs == 0 && nat_le 1 outputs
ports_fit kernel.Sink inputs outputs = nat_le 1 inputs && outputs == 0
ports_fit kernel.Copy inputs outputs = nat_le 1 inputs && nat_le 1 outputs
ports_fit kernel.Sum inputs outputs = nat_le 1 inputs && nat_le 1 outputs
ports_fit (kernel.Fir weights taps shift) inputs outputs = nat_le 1 inputs && nat_le 1 outputs

-- the actor has the channels that its kernel asks
abbrev pub has_ports : List Channel → ℕ → Actor → Bool
has_ports channels i a = ports_fit a.kernel (input_count channels i) (output_count channels i)
