-- What the words of the command line ask for, by the meaning that clap gives to a command and its words.
use Rattle.std.specs.Prelude.{◌≡◌, ℕ, Bool, List, [], ◌∷◌, Option, Some, None, IfSome, true, false, codes, find, if◌then◌else◌, map, option_and_then, option_map, unwrap_or}
use Rattle.std.specs.Borrow.{Bor}
use Rattle.std.specs.Option.{option_map_or}
use Rattle.std.specs.Str.{bytes_eq}
use Rattle.std.specs.Str.Parse.{digits_value, without_leading_plus}
use Rattle.clap.specs.Words.{App, Row, Rule, Text, HasKind, fault_of, first_of, kind_of, new_app, new_rule, subcommand_of, takes, with_rule, with_subcommand}
use Rattle.clap.specs.Simple.{on_top}
use Rattle.clap.specs.Walk.{texts}
use Rattle.clap.specs.ValueTests.{is_unsigned_in}
use Rattle.clap.specs.declared.builder.action.ArgAction.TheVariants.{SetTrue}
use Rattle.clap.specs.declared.builder.value_parser.ValueParser.TheVariants.{Names, Unsigned}
use Rattle.clap.specs.declared.error.kind.ErrorKind.TheVariants.{OutOfMemory}
use Rattle.csdf_bytes.specs.declared.sample_format.SampleFormat.TheVariants as samples
use Rattle.csdf_model.specs.declared.limits.TheConstants.{MAX_FIRINGS, MAX_PERIODS, MAX_ROOM}
use Rattle.csdf_analysis.specs.declared.room.Room.{Room}
use Rattle.csdf_analysis.specs.declared.room.Room.TheVariants.{Least, Periods, Auto}
use Rattle.csdf_analysis.specs.declared.length.Length.{Length}
use Rattle.csdf_analysis.specs.declared.length.Length.TheVariants as lengths
use Rattle.csdf_words.specs.declared.command.Request.{Request}
use Rattle.csdf_words.specs.declared.command.Request.TheVariants as request
use Rattle.csdf_words.specs.declared.command.Unread.{Unread}
use Rattle.csdf_words.specs.declared.command.Unread.TheVariants as unread
use Rattle.csdf_stream.specs.declared.options.TokenFormat.{TokenFormat}
use Rattle.csdf_stream.specs.declared.options.TokenFormat.TheVariants as formats
use Rattle.csdf_stream.specs.Formats.{format_name}
use Rattle.csdf_words.specs.declared.order.Folders.{Folders}
use Rattle.csdf_words.specs.declared.order.RunWords.{RunWords}
use Rattle.csdf_words.specs.declared.order.StreamWords.{StreamWords}
use Rattle.csdf_words.specs.declared.workers.Workers.{Workers}
use Rattle.csdf_words.specs.declared.workers.Workers.TheVariants as workers
use Rattle.csdf_answers.specs.declared.question.Form.{Form}
use Rattle.csdf_answers.specs.declared.question.Form.TheVariants as forms
use Rattle.csdf_answers.specs.declared.question.Question.{Question}
use Rattle.csdf_answers.specs.declared.question.Question.TheVariants.{Check, Repetition, Schedule, Capacity, Dot}

-- ---- the commands

-- a command that asks for a graph file
abbrev pub on_graph : Text → App
on_graph name = with_rule (new_app name) (record (new_rule (codes "GRAPH")) { required = true })

-- an option with a number in a range
abbrev pub number_option : Text → ℕ → ℕ → Rule
number_option name least most = record (new_rule name) { long = Some name; value_names = 1; parser = Some (Unsigned least most) }

-- an option with a text
abbrev pub text_option : Text → Rule
text_option name = record (new_rule name) { long = Some name; value_names = 1 }

-- an option that is given or not
abbrev pub flag : Text → Rule
flag name = record (new_rule name) { long = Some name; action = Some SetTrue }

-- the command that runs a graph asks for a folder too, and takes workers, two numbers, two flags, another folder, a file and room
abbrev pub on_files : App
on_files = with_rule (on_graph (codes "run")) (record (new_rule (codes "DIR")) { required = true })

-- the option for workers, that for room, and that for JSON
abbrev pub with_workers : App → App
with_workers a = with_rule a (text_option (codes "workers"))

abbrev pub with_room : App → App
with_room a = with_rule a (text_option (codes "room"))

abbrev pub with_json : App → App
with_json a = with_rule a (flag (codes "json"))

abbrev pub run_command : App
run_command =
    let two = with_rule (with_workers on_files) (number_option (codes "periods") 1 MAX_PERIODS) in
    let four = with_rule (with_rule two (flag (codes "until-dry"))) (number_option (codes "firings") 0 MAX_FIRINGS) in
    let six = with_rule (with_rule four (text_option (codes "out"))) (text_option (codes "journal")) in
    with_json (with_room (with_rule six (flag (codes "progress"))))

-- the formats of tokens
abbrev pub token_formats : List TokenFormat
token_formats =
    formats.Text
    ∷ map formats.Samples (samples.U8 ∷ samples.S8 ∷ samples.S16Le ∷ samples.S16Be ∷ samples.S32Le ∷ samples.S32Be ∷ [])

-- the option for one of them, by its name alone
abbrev pub format_option : Bor (List (Bor Text)) → Rule
format_option names = record (text_option (codes "format")) { parser = Some (Names names) }

-- the command that runs a graph over a stream asks for a folder too, which may be left out, and takes workers, room, two numbers, another folder, a format and two flags
abbrev pub on_streams : App
on_streams = with_rule (on_graph (codes "stream")) (new_rule (codes "DIR"))

abbrev pub stream_taking : Bor (List (Bor Text)) → App
stream_taking names =
    let two = with_room (with_workers on_streams) in
    let four = with_rule (with_rule two (number_option (codes "segment") 1 4294967295)) (number_option (codes "periods") 1 4294967295) in
    let six = with_rule (with_rule four (text_option (codes "out"))) (format_option names) in
    with_json (with_rule six (flag (codes "progress")))

-- a value behind a reference, at an address: nothing of what follows depends on which one
abbrev pub lent : {X : Type 0} → X → Bor X
lent x = record { ref_ptr = (0, 0); now = x }

-- the names of the formats
abbrev pub format_names : Bor (List (Bor Text))
format_names = lent (map (λ format. lent (format_name format)) token_formats)

abbrev pub stream_command : App
stream_command = stream_taking format_names

-- a program with a version, whose own name is not among the words
abbrev pub no_commands : App
no_commands = on_top (λ s. record s { no_binary_name = true; has_version = true }) (new_app (codes "csdf"))

abbrev pub with_command : App → Text → App
with_command a name = with_subcommand a (on_graph name).top

-- the same with a command that takes room, with one that answers as JSON too, and with one that does both
abbrev pub with_roomy_command : App → Text → App
with_roomy_command a name = with_subcommand a (with_room (on_graph name)).top

abbrev pub with_question : App → Text → App
with_question a name = with_subcommand a (with_json (on_graph name)).top

abbrev pub with_roomy_question : App → Text → App
with_roomy_question a name = with_subcommand a (with_json (with_room (on_graph name))).top

-- the command that explains asks for a folder too, which may be left out
abbrev pub explain_command : App
explain_command = with_rule (on_graph (codes "explain")) (new_rule (codes "DIR"))

abbrev pub with_explain : App → App
with_explain a = with_subcommand a explain_command.top

-- a program with the commands that answer a question or play a script
abbrev pub with_questions : App → App
with_questions a =
    let two = with_question (with_command a (codes "moves")) (codes "check") in
    let four = with_roomy_question (with_question two (codes "repetition")) (codes "schedule") in
    let six = with_roomy_command (with_roomy_question four (codes "capacity")) (codes "dot") in
    with_explain six

-- all commands, of which the one that runs a graph over a stream is this
abbrev pub program_with : App → App
program_with stream = with_questions (with_subcommand (with_subcommand no_commands run_command.top) stream.top)

abbrev pub program : App
program = program_with stream_command

-- the program, wherever the names of the formats lie
abbrev pub IsProgram : App → Type 0
IsProgram a = (names : Bor (List (Bor Text))) × (texts names.now ≡ texts format_names.now) × (a ≡ program_with (stream_taking names))

-- ---- what they ask for

-- a run of the graph of a file over the token files of a folder, the folder that the sinks' files are written to, the room of its channels, the file for its
-- moves where they are asked for, and whether it is to tell how far it has come
pub record Order : Type 0 where
  pub graph : Text
  pub folder : Text
  pub sink_folder : Text
  pub workers : Workers
  pub how_long : Length
  pub firings : Option ℕ
  pub room : Room
  pub journal : Option Text
  pub progress : Bool
  pub form : Form

abbrev pub order_view : RunWords → Order
order_view o = record {
  graph = o.graph.now;
  folder = o.folder.now;
  sink_folder = o.sink_folder.now;
  workers = o.workers;
  how_long = o.options.how_long;
  firings = o.options.firings;
  room = o.options.room;
  journal = option_map (λ file. file.now) o.journal;
  progress = o.progress;
  form = o.form;
}

-- the folder of the sources' files, and that of the sinks'
pub record FolderNames : Type 0 where
  pub sources : Text
  pub sinks : Text

abbrev pub folders_view : Folders → FolderNames
folders_view f = record { sources = f.sources.now; sinks = f.sinks.now }

-- a run of the graph of a file over streams, which are the files of folders, or else standard input and standard output
pub record StreamOrder : Type 0 where
  pub graph : Text
  pub folders : Option FolderNames
  pub room : Room
  pub workers : Workers
  pub segment : Option ℕ
  pub periods : Option ℕ
  pub format : TokenFormat
  pub progress : Bool
  pub form : Form

abbrev pub stream_view : StreamWords → StreamOrder
stream_view s = record {
  graph = s.graph.now;
  folders = option_map folders_view s.folders;
  room = s.room;
  workers = s.workers;
  segment = s.options.segment;
  periods = s.options.periods;
  format = s.options.format;
  progress = s.progress;
  form = s.form;
}

pub data Asked : Type 0 where
  Input : Asked
  Moves : Text → Asked
  Ask : Question → Form → Room → Text → Asked
  Explain : Text → Option Text → Asked
  Run : Order → Asked
  Flow : StreamOrder → Asked

abbrev pub asked_view : Request → Asked
asked_view request.Input = Input
asked_view (request.Moves path) = Moves path.now
asked_view (request.Ask inquiry) = Ask inquiry.question inquiry.form inquiry.room inquiry.graph.now
asked_view (request.Explain path folder) = Explain path.now (option_map (λ f. f.now) folder)
asked_view (request.Run order) = Run (order_view order)
asked_view (request.Stream order) = Flow (stream_view order)

-- the form in which what is asked for is told, and a fault of it
abbrev pub form_of : Asked → Form
form_of Input = forms.Text
form_of (Moves path) = forms.Text
form_of (Ask question form room path) = form
form_of (Explain path folder) = forms.Text
form_of (Run order) = order.form
form_of (Flow order) = order.form

-- the number in a text, where it is one and in the range
abbrev pub number_in : ℕ → ℕ → Text → Option ℕ
number_in least most text = if is_unsigned_in least most text then Some (digits_value 10 (without_leading_plus text)) else None

-- the number of an option, where it was given
abbrev pub number_of : ℕ → ℕ → Text → List Row → Option ℕ
number_of least most option rows = option_and_then (number_in least most) (first_of option rows)

-- the word in a place, and another where none was given
abbrev pub word_or : Text → List Row → Text → Text
word_or place rows other = unwrap_or (first_of place rows) other

-- the word in a place, which is there wherever the words are taken
abbrev pub word_of : Text → List Row → Text
word_of place rows = word_or place rows []

-- the room that a text names: `auto`, or a number of periods in its range
abbrev pub room_in : Text → Option Room
room_in text = if bytes_eq text (codes "auto") then Some Auto else option_map Periods (number_in 1 MAX_ROOM text)

-- the room that is asked for, or another where none was given; nothing where the text names no room
abbrev pub room_of : Room → List Row → Option Room
room_of absent rows = option_map_or room_in (first_of (codes "room") rows) (Some absent)

-- the room of a command where none is given: for a stream it is chosen by the graph, and else there are the least capacities
abbrev pub usual_room : Text → Room
usual_room name = if bytes_eq name (codes "stream") then Auto else Least

-- the workers that a text names: `auto`, or a number of them in its range
abbrev pub workers_in : Text → Option Workers
workers_in text = if bytes_eq text (codes "auto") then Some workers.Auto else option_map workers.Count (number_in 1 8 text)

-- the workers that are asked for, one where none are; nothing where the text names none
abbrev pub workers_of : List Row → Option Workers
workers_of rows = option_map_or workers_in (first_of (codes "workers") rows) (Some (workers.Count 1))

-- whether an option without a value is given
abbrev pub is_given : Text → List Row → Bool
is_given name rows = bytes_eq (word_of name rows) (codes "true")

-- the form that is asked for
abbrev pub form_in : List Row → Form
form_in rows = if is_given (codes "json") rows then forms.Json else forms.Text

-- how long a run goes on, by whether `--until-dry` is given and which periods are: they exclude each other, and it is one period where neither is
abbrev pub how_long_by : Bool → Option ℕ → Option Length
how_long_by true None = Some lengths.UntilDry
how_long_by true (Some n) = None
how_long_by false None = Some (lengths.Periods 1)
how_long_by false (Some n) = Some (lengths.Periods n)

abbrev pub how_long_of : List Row → Option Length
how_long_of rows = how_long_by (is_given (codes "until-dry") rows) (number_of 1 MAX_PERIODS (codes "periods") rows)

-- the run that the words after `run` ask for, so long, with this room and by these workers; the sinks' files go to the folder of the sources' where no other is named
abbrev pub order_of : List Row → Room → Workers → Length → Order
order_of rows room these how_long = record {
  graph = word_of (codes "GRAPH") rows;
  folder = word_of (codes "DIR") rows;
  sink_folder = word_or (codes "out") rows (word_of (codes "DIR") rows);
  workers = these;
  how_long = how_long;
  firings = number_of 0 MAX_FIRINGS (codes "firings") rows;
  room = room;
  journal = first_of (codes "journal") rows;
  progress = is_given (codes "progress") rows;
  form = form_in rows;
}

-- the same, with the length that they name; nothing where they name two
abbrev pub run_asked : List Row → Room → Workers → Option Asked
run_asked rows room these = option_map (λ how_long. Run (order_of rows room these how_long)) (how_long_of rows)

-- the format of a name
abbrev pub format_in : Text → Option TokenFormat
format_in name = find (λ format. bytes_eq name (format_name format)) token_formats

-- the format that is asked for, text where none was given
abbrev pub format_of : List Row → TokenFormat
format_of rows = unwrap_or (format_in (word_or (codes "format") rows (codes "text"))) formats.Text

-- the folders of a stream, where DIR is given: the sinks' files go to the folder of the sources' where no other is named; nothing where another is named alone
abbrev pub folders_by : Option Text → Option Text → Option (Option FolderNames)
folders_by (Some folder) other = Some (Some (record { sources = folder; sinks = unwrap_or other folder }))
folders_by None None = Some None
folders_by None (Some other) = None

abbrev pub folders_of : List Row → Option (Option FolderNames)
folders_of rows = folders_by (first_of (codes "DIR") rows) (first_of (codes "out") rows)

-- the stream that the words after `stream` ask for, with this room, by these workers and with these folders
abbrev pub stream_with : List Row → Room → Workers → Option FolderNames → StreamOrder
stream_with rows room these folders = record {
  graph = word_of (codes "GRAPH") rows;
  folders = folders;
  room = room;
  workers = these;
  segment = number_of 1 4294967295 (codes "segment") rows;
  periods = number_of 1 4294967295 (codes "periods") rows;
  format = format_of rows;
  progress = is_given (codes "progress") rows;
  form = form_in rows;
}

-- the stream that the words after `stream` ask for, with this room and by these workers; nothing where `--out` is given and DIR is not
abbrev pub stream_asked : List Row → Room → Workers → Option Asked
stream_asked rows room these = option_map (λ folders. Flow (stream_with rows room these folders)) (folders_of rows)

-- what a command but `run`, `stream` and `explain` asks for in this form with this room and the file that it names; no other command has a file alone, and a drawing is text
unfoldable pub asked_by : Text → Form → Room → Text → Asked
asked_by name form room path =
    if bytes_eq name (codes "check") then Ask Check form room path
    else if bytes_eq name (codes "repetition") then Ask Repetition form room path
    else if bytes_eq name (codes "schedule") then Ask Schedule form room path
    else if bytes_eq name (codes "capacity") then Ask Capacity form room path
    else if bytes_eq name (codes "dot") then Ask Dot forms.Text room path
    else if bytes_eq name (codes "moves") then Moves path
    else Input

-- what a command asks for with the words after it, with this room; nothing where they name no workers, two lengths, or `--out` alone
unfoldable pub asked_with : Text → List Row → Room → Option Asked
asked_with name rows room =
    if bytes_eq name (codes "run") then option_and_then (run_asked rows room) (workers_of rows)
    else if bytes_eq name (codes "stream") then option_and_then (stream_asked rows room) (workers_of rows)
    else if bytes_eq name (codes "explain") then Some (Explain (word_of (codes "GRAPH") rows) (first_of (codes "DIR") rows))
    else Some (asked_by name (form_in rows) room (word_of (codes "GRAPH") rows))

-- what a command asks for with the words after it; nothing where they name no room
abbrev pub asked_of : Text → List Row → Option Asked
asked_of name rows = option_and_then (asked_with name rows) (room_of (usual_room name) rows)

-- why words after a command ask for nothing: the text of their room or of their workers is none, or they name two lengths, or `--out` and no DIR
abbrev pub AskForNothing : List Row → Unread → Type 0
AskForNothing rows (unread.Parse error) = ⊥
AskForNothing rows (unread.Room text) = (room_in text.now ≡ None) × (first_of (codes "room") rows ≡ Some text.now)
AskForNothing rows (unread.Workers text) = (workers_in text.now ≡ None) × (first_of (codes "workers") rows ≡ Some text.now)
AskForNothing rows unread.Lengths = how_long_of rows ≡ None
AskForNothing rows unread.OutAlone = folders_of rows ≡ None

-- what the command that was met asks for, and standard input where none was
abbrev pub asked : Option (Text × List Row) → Option Asked
asked None = Some Input
asked (Some met) = asked_of met.0 met.1

-- what words ask for
abbrev pub words_ask : List Text → Option Asked
words_ask [] = Some Input
words_ask (word ∷ words) = asked (subcommand_of program (word ∷ words))

-- the form in which it is told, and that of lines where words ask for nothing
abbrev pub form_asked : Option Asked → Form
form_asked None = forms.Text
form_asked (Some asks) = form_of asks

-- the parser takes the words, and they ask for nothing, for this reason
pub record AsksNothing (words : List Text) (reason : Unread) : Type 0 where
  pub taken : fault_of program words ≡ []
  pub nothing : words_ask words ≡ None
  pub why : IfSome (subcommand_of program words) (λ met. AskForNothing met.1 reason)

-- why words are no request: the parser refuses them, and those that it takes only for want of memory, or it takes them and they ask for nothing
abbrev pub IsUnread : List Text → Unread → Type 0
IsUnread words (unread.Parse error) = HasKind (fault_of program words) error × (takes program words ≡ true → kind_of error ≡ OutOfMemory)
IsUnread words (unread.Room text) = AsksNothing words (unread.Room text)
IsUnread words (unread.Workers text) = AsksNothing words (unread.Workers text)
IsUnread words unread.Lengths = AsksNothing words unread.Lengths
IsUnread words unread.OutAlone = AsksNothing words unread.OutAlone
