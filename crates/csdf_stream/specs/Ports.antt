-- The actors of a graph that have devices.
use Rattle.std.specs.Prelude.{ℕ, suc, Bool, List, [], ◌∷◌, if◌then◌else◌}
use Rattle.csdf_model.specs.Graph.{Actor, Graph}
use Rattle.csdf_model.specs.Kernels.{is_sink_kernel, is_source_kernel}

-- the numbers of the actors that are so, where the first has this number
abbrev pub numbers_from : (Actor → Bool) → ℕ → List Actor → List ℕ
numbers_from is_so n [] = []
numbers_from is_so n (actor ∷ actors) = if is_so actor then n ∷ numbers_from is_so (suc n) actors else numbers_from is_so (suc n) actors

-- the sources of a graph, and its sinks, in file order
abbrev pub sources_in : Graph → List ℕ
sources_in g = numbers_from (λ (actor : Actor). is_source_kernel actor.kernel) 0 g.actors

abbrev pub sinks_in : Graph → List ℕ
sinks_in g = numbers_from (λ (actor : Actor). is_sink_kernel actor.kernel) 0 g.actors
