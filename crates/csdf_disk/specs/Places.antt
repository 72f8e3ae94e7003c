-- Which places are one file.
use Rattle.std.specs.Prelude.{ℕ, Bool, true, false, ◌&&◌, ◌||◌, ◌==◌}
use Rattle.std.specs.Str.{bytes_eq}
use Rattle.csdf_disk.specs.declared.place.Node.{Node}
use Rattle.csdf_disk.specs.declared.place.FilePlace.{FilePlace}
use Rattle.csdf_disk.specs.declared.place.FilePlace.TheVariants as place

-- the numbers are those of one file
abbrev pub is_one_node : Node → Node → Bool
is_one_node a b = a.device == b.device && a.number == b.number

-- both are one file: one that is there, or one that would be made in one folder by one name
abbrev pub is_one : FilePlace → FilePlace → Bool
is_one (place.File a) (place.File b) = is_one_node a b
is_one (place.Free folder name) (place.Free other again) = is_one_node folder other && bytes_eq name again
is_one _ _ = false
