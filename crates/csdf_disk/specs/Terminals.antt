-- Which paths are terminals, and where standard input leads to.
use Rattle.std.specs.Prelude.{ℕ, Bool, false, ◌||◌, List, Option, codes, nat_eq}
use Rattle.std.specs.List.{starts_with}
use Rattle.std.specs.Option.{option_map_or}
use Rattle.std.specs.Str.{bytes_eq}

-- a window, a console or a serial line
abbrev pub is_terminal : List ℕ → Bool
is_terminal path = starts_with nat_eq path (codes "/dev/pts/") || starts_with nat_eq path (codes "/dev/tty") || bytes_eq path (codes "/dev/console")

-- the link of the system that leads to standard input
abbrev pub input_link : List ℕ
input_link = codes "/proc/self/fd/0"

-- whether a link leads to a terminal; where there is none it does not
abbrev pub leads_to_terminal : Option (List ℕ) → Bool
leads_to_terminal link = option_map_or is_terminal link false
