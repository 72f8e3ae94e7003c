-- The printed report of a run.
use Rattle.std.specs.Prelude.{ℕ, Bool, true, false, List, [], ◌∷◌, ◌++◌, codes}
use Rattle.std.specs.List.{enumerate_from, flat_map}
use Rattle.std.specs.Fmt.{decimal}
pub use Rattle.csdf_model.specs.Names.{channel_names as names_of, name_at}
use Rattle.csdf_floor.specs.declared.ending.Ending.{Ending}
use Rattle.csdf_floor.specs.declared.ending.Ending.TheVariants.{Complete, Stopped, Starved, Dry}
use Rattle.csdf_floor.specs.declared.outcome.ChannelReport.{ChannelReport}

abbrev pub newline : List ℕ
newline = 10 ∷ []

abbrev pub ending_word : Ending → List ℕ
ending_word Complete = codes "complete"
ending_word Stopped = codes "stopped"
ending_word Starved = codes "starved"
ending_word Dry = codes "dry"

abbrev pub state_word : Bool → List ℕ
state_word true = codes "open"
state_word false = codes "closed"

-- how many tokens were written to the channel, taken from it and left in it
abbrev pub tokens_part : ChannelReport → List ℕ
tokens_part r = codes " written " ++ decimal r.written ++ codes " taken " ++ decimal r.taken ++ codes " held " ++ decimal r.held

-- the most tokens that were in it and that may be, and whether it is open
abbrev pub room_part : ChannelReport → List ℕ
room_part r = codes " peak " ++ decimal r.peak ++ codes " capacity " ++ decimal r.capacity ++ codes " " ++ state_word r.is_open

-- the line of a channel
abbrev pub report_line : List ℕ → ChannelReport → List ℕ
report_line name r = name ++ tokens_part r ++ room_part r ++ newline

-- the lines of all channels in file order
abbrev pub report_lines : List (List ℕ) → List (ℕ × ChannelReport) → List ℕ
report_lines names rows = flat_map (λ row. report_line (name_at names row.0) row.1) rows

-- the ending, and the lines of all channels
abbrev pub report_text : List (List ℕ) → Ending → List ChannelReport → List ℕ
report_text names ending reports = codes "ending " ++ ending_word ending ++ newline ++ report_lines names (enumerate_from 0 reports)
