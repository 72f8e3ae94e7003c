-- A place as a fault tells it.
use Rattle.std.specs.Prelude.{ℕ, List, ◌++◌, codes, min}
use Rattle.std.specs.Fmt.{decimal}
use Rattle.csdf_graph.specs.declared.fault.At.{At}
use Rattle.csdf_graph.specs.declared.fault.At.TheVariants as at

-- past the numbers of 32 bits it is the last of them
abbrev pub fault_place : ℕ → ℕ
fault_place i = min i 4294967295

-- the text of a place
abbrev pub place_text : At → List ℕ
place_text at.File = codes "file"
place_text (at.Actor n) = codes "actor " ++ decimal n
place_text (at.Channel n) = codes "channel " ++ decimal n
place_text at.Script = codes "script"
