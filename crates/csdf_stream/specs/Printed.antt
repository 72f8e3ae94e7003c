-- The printed report of a stream.
use Rattle.std.specs.Prelude.{ℕ, ◌==◌, List, [], ◌++◌, codes, if◌then◌else◌, slice_index_or}
use Rattle.std.specs.List.{enumerate_from, flat_map}
use Rattle.std.specs.Fmt.{decimal}
use Rattle.csdf_model.specs.Graph.{Graph}
pub use Rattle.csdf_model.specs.Names.{actor_names}
use Rattle.csdf_floor.specs.declared.outcome.ChannelReport.{ChannelReport}
pub use Rattle.csdf_floor.specs.Report.{ending_word, name_at, names_of, newline, state_word}
use Rattle.csdf_run.specs.declared.totals.ChannelTotal.{ChannelTotal}
use Rattle.csdf_run.specs.Totals.{no_total}
use Rattle.csdf_stream.specs.declared.end.StreamEnd.{StreamEnd}
use Rattle.csdf_stream.specs.Ports.{sinks_in}

-- ---- channels

-- the total with this number; that of no tokens where there is none
abbrev pub total_at : List ChannelTotal → ℕ → ChannelTotal
total_at totals number = slice_index_or totals number no_total

-- how many tokens were written to the channel and taken from it in all segments, and left in it by the last
abbrev pub tokens_part : ChannelTotal → ChannelReport → List ℕ
tokens_part t r = codes " written " ++ decimal t.written ++ codes " taken " ++ decimal t.taken ++ codes " held " ++ decimal r.held

-- the most tokens that were in it in all segments, the most that may be, and whether it is open
abbrev pub room_part : ChannelTotal → ChannelReport → List ℕ
room_part t r = codes " peak " ++ decimal t.peak ++ codes " capacity " ++ decimal r.capacity ++ codes " " ++ state_word r.is_open

-- the line of a channel
abbrev pub channel_line : List ℕ → ChannelTotal → ChannelReport → List ℕ
channel_line name t r = name ++ tokens_part t r ++ room_part t r ++ newline

-- a line for each report, in file order, with the name and the total of its number
abbrev pub channel_lines : List (List ℕ) → List ChannelTotal → List (ℕ × ChannelReport) → List ℕ
channel_lines names totals rows = flat_map (λ row. channel_line (name_at names row.0) (total_at totals row.0) row.1) rows

-- ---- sinks

-- how many tokens the sink in this place clipped; none where nothing is told of it
abbrev pub clipped_at : List ℕ → ℕ → ℕ
clipped_at counts place = slice_index_or counts place 0

-- the line of a sink, where it clipped
abbrev pub clipped_line : List ℕ → ℕ → List ℕ
clipped_line name count = if count == 0 then [] else name ++ codes " clipped " ++ decimal count ++ newline

-- the lines of all sinks that clipped, by the place of each among the sinks, and its number
abbrev pub clipped_lines : List (List ℕ) → List ℕ → List (ℕ × ℕ) → List ℕ
clipped_lines names counts rows = flat_map (λ row. clipped_line (name_at names row.1) (clipped_at counts row.0)) rows

-- ---- the report

-- the ending, the lines of the channels, and those of the sinks that clipped
abbrev pub stream_report : Graph → List ChannelTotal → StreamEnd → List ℕ
stream_report g totals end = codes "ending " ++ ending_word end.ending ++ newline
    ++ channel_lines (names_of g.channels) totals (enumerate_from 0 end.report.items)
    ++ clipped_lines (actor_names g.actors) end.clipped.items (enumerate_from 0 (sinks_in g))
