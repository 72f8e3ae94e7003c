-- What is told of a run on the way.
use Rattle.std.specs.Prelude.{ℕ, ◌+◌, ◌/◌, Bool, not, List, [], ◌++◌, ◌==◌, Option, Some, None, codes, min, if◌then◌else◌}
use Rattle.std.specs.Fmt.{decimal}
use Rattle.csdf_told.specs.declared.telling.Extra.{Extra}
use Rattle.csdf_told.specs.declared.telling.ProgressLine.{ProgressLine}

-- how many firings were made, what stands beside, and whether it is the last line
abbrev pub line : ℕ → Extra → Bool → ProgressLine
line made beside last = record { made = made; beside = beside; is_last = last }

-- of how many at most, where that is known
abbrev pub most_text : Option ℕ → List ℕ
most_text None = []
most_text (Some most) = codes " of at most " ++ decimal most

-- by how many workers, where these were chosen
abbrev pub crew_text : Option ℕ → List ℕ
crew_text None = []
crew_text (Some count) = codes ", workers: " ++ decimal count

-- the firings behind a carriage return, which puts the line in the place of the one before it
abbrev pub firings_text : ℕ → Extra → List ℕ
firings_text made b = codes "\rcsdf: " ++ decimal made ++ most_text b.most ++ codes " firings" ++ crew_text b.crew

-- a line; a newline ends the last one
abbrev pub line_text : ProgressLine → List ℕ
line_text l = if l.is_last then firings_text l.made l.beside ++ codes "\n" else firings_text l.made l.beside

-- how many firings were made with these, as far as 64 bits tell
abbrev pub made_after : ℕ → ℕ → ℕ
made_after before firings = min (before + firings) 18446744073709551615

-- the line is told again each time that two million firings more were made
abbrev pub is_due : ℕ → ℕ → Bool
is_due before made = not (before / 2000000 == made / 2000000)
