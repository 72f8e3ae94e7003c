-- The ends of each channel are actors, by name in the file and by number in the graph.
use Rattle.std.specs.Prelude.{ℕ, List, Option, Some, Result}
use Rattle.csdf_model.specs.Names.{number_in}
use Rattle.csdf_graph.specs.declared.fault.GraphFault.{GraphFault}
use Rattle.csdf_graph.specs.declared.fault.GraphFault.TheVariants as fault
use Rattle.csdf_model.specs.Graph.{Channel}
use Rattle.csdf_graph.specs.Ranges.{RangedChannel}
use Rattle.csdf_graph.specs.FaultPlace.{fault_place}
use Rattle.csdf_graph.specs.Optional.{◌>>=◌}
use Rattle.csdf_graph.specs.Passes.{or_fault}

unfoldable pub linked : List (List ℕ) → RangedChannel → Option Channel
linked names c = do
  from ← number_in names c.from
  to ← number_in names c.to
  Some (record { name = c.name; from = from; to = to; produce = c.produce; consume = c.consume; initial = c.initial; capacity = c.capacity })

abbrev pub linked_at : List (List ℕ) → ℕ → RangedChannel → Result Channel GraphFault
linked_at names i c = or_fault (fault.UnknownActor (fault_place i)) (linked names c)
