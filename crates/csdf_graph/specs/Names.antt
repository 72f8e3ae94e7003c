-- Names: each has the right form, and none is used twice.
use Rattle.std.specs.Prelude.{ℕ, Bool, not, ◌&&◌, List, take, if◌then◌else◌, Result, Ok, Err}
use Rattle.std.specs.List.{list_any}
use Rattle.std.specs.Str.{bytes_eq}
use Rattle.csdf_model.specs.Names.{is_name}
use Rattle.csdf_graph.specs.declared.fault.At.{At}
use Rattle.csdf_graph.specs.declared.fault.At.TheVariants as place
use Rattle.csdf_graph.specs.declared.names.Kind.{Kind}
use Rattle.csdf_graph.specs.declared.names.Kind.TheVariants.{Actor, Channel}
use Rattle.csdf_graph.specs.declared.fault.GraphFault.{GraphFault}
use Rattle.csdf_graph.specs.declared.fault.GraphFault.TheVariants.{Name}
use Rattle.csdf_graph.specs.FaultPlace.{fault_place}
use Rattle.csdf_graph.specs.Passes.{each}

-- a name that is none of these
abbrev pub is_free : List ℕ → List (List ℕ) → Bool
is_free name taken = is_name name && not (list_any (bytes_eq name) taken)

abbrev pub at : Kind → ℕ → At
at Actor i = place.Actor i
at Channel i = place.Channel i

abbrev pub name_at : Kind → List (List ℕ) → ℕ → List ℕ → Result (List ℕ) GraphFault
name_at kind names i name = if is_free name (take i names) then Ok name else Err (Name (at kind (fault_place i)))

-- the names, or the place of the first that is wrong
abbrev pub names_of : Kind → List (List ℕ) → Result (List (List ℕ)) GraphFault
names_of kind names = each (name_at kind names) 0 names
