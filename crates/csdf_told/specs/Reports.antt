-- The report of a run as a JSON object, and the forms in which a report is told.
use Rattle.std.specs.Prelude.{◌≡◌, ℕ, List, codes}
use Rattle.std.specs.List.{enumerate_from}
use Rattle.json.specs.Json.{Json, Items, object, no_members}
use Rattle.csdf_json.specs.Lines.{IsLineOf, flag_member, items_by, list_member, number_member, text_member}
use Rattle.csdf_model.specs.Graph.{Graph}
use Rattle.csdf_floor.specs.declared.ending.Ending.{Ending}
use Rattle.csdf_floor.specs.declared.outcome.ChannelReport.{ChannelReport}
use Rattle.csdf_floor.specs.declared.outcome.Outcome.{Outcome}
use Rattle.csdf_floor.specs.Report.{ending_word, name_at, names_of, report_text}
use Rattle.csdf_run.specs.declared.totals.ChannelTotal.{ChannelTotal}
use Rattle.csdf_stream.specs.declared.end.StreamEnd.{StreamEnd}
use Rattle.csdf_stream.specs.Ports.{sinks_in}
use Rattle.csdf_stream.specs.Printed.{actor_names, clipped_at, stream_report, total_at}
use Rattle.csdf_answers.specs.declared.question.Form.{Form}
use Rattle.csdf_answers.specs.declared.question.Form.TheVariants as form

-- a channel: its name, how many tokens were written to it, taken from it and left in it, the most that were in it and that may be, and whether it is open
abbrev pub channel_object : List ℕ → ChannelReport → Json
channel_object name r =
    object (text_member (codes "channel") name (number_member (codes "written") r.written (number_member (codes "taken") r.taken
    (number_member (codes "held") r.held (number_member (codes "peak") r.peak (number_member (codes "capacity") r.capacity
    (flag_member (codes "open") r.is_open no_members)))))))

-- all channels in order
abbrev pub channel_items : List (List ℕ) → List (ℕ × ChannelReport) → Items
channel_items names rows = items_by (λ (row : ℕ × ChannelReport). channel_object (name_at names row.0) row.1) rows

-- the ending and the channels
abbrev pub report_object : List (List ℕ) → Ending → List ChannelReport → Json
report_object names ending reports =
    object (text_member (codes "ending") (ending_word ending) (list_member (codes "channels") (channel_items names (enumerate_from 0 reports)) no_members))

-- a text is the report of a run of the graph in a form: the printed one, or the line of its object
abbrev pub TellsReport : Form → Graph → Outcome → List ℕ → Type 0
TellsReport form.Text g o text = text ≡ report_text (names_of g.channels) o.ending o.report.items
TellsReport form.Json g o text = IsLineOf (report_object (names_of g.channels) o.ending o.report.items) text

-- ---- streams

-- a channel of a stream: how many tokens were written to it and taken from it in all segments, and left in it by the last, the most that were in it in all and
-- that may be, and whether it is open
abbrev pub flow_channel_object : List ℕ → ChannelTotal → ChannelReport → Json
flow_channel_object name t r =
    object (text_member (codes "channel") name (number_member (codes "written") t.written (number_member (codes "taken") t.taken
    (number_member (codes "held") r.held (number_member (codes "peak") t.peak (number_member (codes "capacity") r.capacity
    (flag_member (codes "open") r.is_open no_members)))))))

abbrev pub flow_items : List (List ℕ) → List ChannelTotal → List (ℕ × ChannelReport) → Items
flow_items names totals rows = items_by (λ (row : ℕ × ChannelReport). flow_channel_object (name_at names row.0) (total_at totals row.0) row.1) rows

-- a sink: how many of its tokens are none of the format
abbrev pub clipped_object : List ℕ → ℕ → Json
clipped_object name count = object (text_member (codes "sink") name (number_member (codes "tokens") count no_members))

-- all sinks, by the place of each among them, and its number
abbrev pub clipped_items : List (List ℕ) → List ℕ → List (ℕ × ℕ) → Items
clipped_items names counts rows = items_by (λ (row : ℕ × ℕ). clipped_object (name_at names row.1) (clipped_at counts row.0)) rows

-- the ending, the channels and the sinks
abbrev pub stream_object : Graph → List ChannelTotal → StreamEnd → Json
stream_object g totals end =
    object (text_member (codes "ending") (ending_word end.ending)
    (list_member (codes "channels") (flow_items (names_of g.channels) totals (enumerate_from 0 end.report.items))
    (list_member (codes "clipped") (clipped_items (actor_names g.actors) end.clipped.items (enumerate_from 0 (sinks_in g))) no_members)))

-- a text is the report of a stream through the graph in a form: the printed one, or the line of its object
abbrev pub TellsStream : Form → Graph → List ChannelTotal → StreamEnd → List ℕ → Type 0
TellsStream form.Text g totals end text = text ≡ stream_report g totals end
TellsStream form.Json g totals end text = IsLineOf (stream_object g totals end) text
