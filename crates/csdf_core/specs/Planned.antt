-- What a core keeps of an accepted graph, and what it plays by it.
use Rattle.std.specs.Prelude.{ℕ, Bool, List, Option, map}
use Rattle.std.specs.List.{zip}
use Rattle.csdf_model.specs.Graph as graph
use Rattle.csdf_model.specs.Graph.{Graph}
pub use Rattle.csdf_model.specs.Kernels.{is_source_kernel}
use Rattle.csdf_analysis.specs.Acceptance.{Accepted, cells_of}
use Rattle.csdf_core.specs.Plan.{Channel, Plan}

-- a channel of the graph with its capacity
abbrev pub with_capacity : graph.Channel × ℕ → Channel
with_capacity row = record {
  from = row.0.from;
  to = row.0.to;
  produce = row.0.produce;
  consume = row.0.consume;
  initial = row.0.initial;
  capacity = row.1;
}

abbrev pub sources_of : Graph → List Bool
sources_of g = map (λ (a : graph.Actor). is_source_kernel a.kernel) g.actors

abbrev pub plan_of : Graph → List ℕ → List ℕ → List ℕ → Option ℕ → ℕ → Plan
plan_of g capacities limits supplies firings cells = record {
  sources = sources_of g;
  channels = map with_capacity (zip g.channels capacities);
  limits = limits;
  supplies = supplies;
  firings = firings;
  cells = cells;
}

-- the channels of an accepted graph, with the capacities chosen for them
abbrev pub channels_of : Accepted → List Channel
channels_of a = map with_capacity (zip a.graph.channels a.capacities)

-- what a core plays: the accepted graph with these capacities
abbrev pub plan_for : Accepted → List ℕ → List ℕ → Option ℕ → Plan
plan_for a limits supplies firings = plan_of a.graph a.capacities limits supplies firings (cells_of a)
