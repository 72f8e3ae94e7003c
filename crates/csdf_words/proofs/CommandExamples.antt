-- What some command lines ask for, computed.
use Rattle.std.proofs.Common.{◌≡◌, ℕ, Bool, List, [], ◌∷◌, ◌++◌, Option, Some, None, true, false, codes, map, refl}
use Rattle.clap.specs.Words.{Shape, Text, fault_of, takes}
use Rattle.clap.proofs.OnLiterals.{clap_on_literals}
use Rattle.csdf_answers.specs.declared.question.Form.{Form}
use Rattle.csdf_answers.specs.declared.question.Form.TheVariants as forms
use Rattle.csdf_answers.specs.declared.question.Question.TheVariants.{Check, Repetition, Schedule, Capacity, Dot}
use Rattle.csdf_analysis.specs.declared.room.Room.{Room}
use Rattle.csdf_analysis.specs.declared.room.Room.TheVariants.{Least, Periods, Auto}
use Rattle.csdf_analysis.specs.declared.length.Length.{Length}
use Rattle.csdf_analysis.specs.declared.length.Length.TheVariants as lengths
use Rattle.csdf_bytes.specs.declared.sample_format.SampleFormat.TheVariants as samples
use Rattle.csdf_stream.specs.declared.options.TokenFormat.{TokenFormat}
use Rattle.csdf_stream.specs.declared.options.TokenFormat.TheVariants as formats
use Rattle.csdf_words.specs.declared.workers.Workers.{Workers}
use Rattle.csdf_words.specs.declared.workers.Workers.TheVariants as workers
use Rattle.csdf_words.specs.CommandLine.{program, asked_by, asked_with, room_in, token_formats, words_ask, workers_in, Asked, FolderNames, Input, Moves, Ask, Explain, Run, Flow}

abbrev on : Text → List Text
on command = command ∷ codes "a.toml" ∷ []

check_asks : words_ask (on (codes "check")) ≡ Some (Ask Check forms.Text Least (codes "a.toml"))
unfolding clap_on_literals asked_by asked_with
check_asks = refl

repetition_asks : words_ask (on (codes "repetition")) ≡ Some (Ask Repetition forms.Text Least (codes "a.toml"))
unfolding clap_on_literals asked_by asked_with
repetition_asks = refl

schedule_asks : words_ask (on (codes "schedule")) ≡ Some (Ask Schedule forms.Text Least (codes "a.toml"))
unfolding clap_on_literals asked_by asked_with
schedule_asks = refl

capacity_asks : words_ask (on (codes "capacity")) ≡ Some (Ask Capacity forms.Text Least (codes "a.toml"))
unfolding clap_on_literals asked_by asked_with
capacity_asks = refl

dot_asks : words_ask (on (codes "dot")) ≡ Some (Ask Dot forms.Text Least (codes "a.toml"))
unfolding clap_on_literals asked_by asked_with
dot_asks = refl

explain_asks : words_ask (on (codes "explain")) ≡ Some (Explain (codes "a.toml") None)
unfolding clap_on_literals asked_with
explain_asks = refl

explain_with_folder_asks : words_ask (codes "explain" ∷ codes "a.toml" ∷ codes "d" ∷ []) ≡ Some (Explain (codes "a.toml") (Some (codes "d")))
unfolding clap_on_literals asked_with
explain_with_folder_asks = refl

explain_of_input_asks : words_ask (codes "explain" ∷ codes "-" ∷ [] ∷ []) ≡ Some (Explain (codes "-") (Some []))
unfolding clap_on_literals asked_with
explain_of_input_asks = refl

moves_asks : words_ask (on (codes "moves")) ≡ Some (Moves (codes "a.toml"))
unfolding clap_on_literals asked_by asked_with
moves_asks = refl

capacity_with_room_asks : words_ask (codes "capacity" ∷ codes "a.toml" ∷ codes "--room" ∷ codes "64" ∷ []) ≡ Some (Ask Capacity forms.Text (Periods 64) (codes "a.toml"))
unfolding clap_on_literals asked_by asked_with
capacity_with_room_asks = refl

schedule_with_room_asks : words_ask (codes "schedule" ∷ codes "--room=auto" ∷ codes "a.toml" ∷ []) ≡ Some (Ask Schedule forms.Text Auto (codes "a.toml"))
unfolding clap_on_literals asked_by asked_with
schedule_with_room_asks = refl

dot_with_room_asks : words_ask (codes "dot" ∷ codes "--room=1" ∷ codes "a.toml" ∷ []) ≡ Some (Ask Dot forms.Text (Periods 1) (codes "a.toml"))
unfolding clap_on_literals asked_by asked_with
dot_with_room_asks = refl

check_as_json_asks : words_ask (codes "check" ∷ codes "--json" ∷ codes "a.toml" ∷ []) ≡ Some (Ask Check forms.Json Least (codes "a.toml"))
unfolding clap_on_literals asked_by asked_with
check_as_json_asks = refl

repetition_as_json_asks : words_ask (codes "repetition" ∷ codes "a.toml" ∷ codes "--json" ∷ []) ≡ Some (Ask Repetition forms.Json Least (codes "a.toml"))
unfolding clap_on_literals asked_by asked_with
repetition_as_json_asks = refl

schedule_as_json_asks : words_ask (codes "schedule" ∷ codes "--json" ∷ codes "a.toml" ∷ []) ≡ Some (Ask Schedule forms.Json Least (codes "a.toml"))
unfolding clap_on_literals asked_by asked_with
schedule_as_json_asks = refl

capacity_with_room_as_json_asks :
    words_ask (codes "capacity" ∷ codes "a.toml" ∷ codes "--room=2" ∷ codes "--json" ∷ []) ≡ Some (Ask Capacity forms.Json (Periods 2) (codes "a.toml"))
unfolding clap_on_literals asked_by asked_with
capacity_with_room_as_json_asks = refl

input_asks : words_ask (codes "check" ∷ codes "-" ∷ []) ≡ Some (Ask Check forms.Text Least (codes "-"))
unfolding clap_on_literals asked_by asked_with
input_asks = refl

check_with_room_is_refused : takes program (codes "check" ∷ codes "a.toml" ∷ codes "--room" ∷ codes "2" ∷ []) ≡ false
unfolding clap_on_literals
check_with_room_is_refused = refl

dot_as_json_is_refused : takes program (codes "dot" ∷ codes "a.toml" ∷ codes "--json" ∷ []) ≡ false
unfolding clap_on_literals
dot_as_json_is_refused = refl

pub no_words_no_fault : fault_of program [] ≡ []
unfolding clap_on_literals
no_words_no_fault = refl

-- the words of the file that is asked for
abbrev file_of : Option Asked → Text
file_of None = []
file_of (Some Input) = []
file_of (Some (Moves path)) = path
file_of (Some (Ask question form room path)) = path
file_of (Some (Explain path folder)) = path
file_of (Some (Run order)) = order.graph
file_of (Some (Flow order)) = order.graph

-- each command has its meaning: it asks for something of the file that it names
every_command_asks : map (λ (s : Shape). file_of (words_ask (on s.name))) program.subs ≡ map (λ (s : Shape). codes "a.toml") program.subs
unfolding clap_on_literals asked_by asked_with
every_command_asks = refl

no_words_are_taken : takes program [] ≡ true
unfolding clap_on_literals
no_words_are_taken = refl

check_is_taken : takes program (on (codes "check")) ≡ true
unfolding clap_on_literals
check_is_taken = refl

no_file_is_refused : takes program (codes "check" ∷ []) ≡ false
unfolding clap_on_literals
no_file_is_refused = refl

two_files_are_refused : takes program (codes "check" ∷ codes "a.toml" ∷ codes "b.toml" ∷ []) ≡ false
unfolding clap_on_literals
two_files_are_refused = refl

two_folders_are_refused : takes program (codes "explain" ∷ codes "a.toml" ∷ codes "d" ∷ codes "e" ∷ []) ≡ false
unfolding clap_on_literals
two_folders_are_refused = refl

unknown_command_is_refused : takes program (on (codes "fly")) ≡ false
unfolding clap_on_literals
unknown_command_is_refused = refl

-- ---- runs

-- the words of a run, and what they ask for
abbrev run_on : List Text → List Text
run_on options = codes "run" ∷ codes "a.toml" ∷ codes "d" ∷ options

abbrev run_by : Workers → Form → Option Text → Bool → Length → Text → Option ℕ → Room → Option Asked
run_by these form journal progress how_long sinks firings room = Some (Run (record {
  graph = codes "a.toml";
  folder = codes "d";
  sink_folder = sinks;
  workers = these;
  how_long = how_long;
  firings = firings;
  room = room;
  journal = journal;
  progress = progress;
  form = form;
}))

-- where their number is given
abbrev run_told : Form → Option Text → Bool → Length → Text → ℕ → Option ℕ → Room → Option Asked
run_told form journal progress how_long sinks many firings room = run_by (workers.Count many) form journal progress how_long sinks firings room

-- it is told by lines where no JSON is asked for
abbrev run_with : Option Text → Bool → Length → Text → ℕ → Option ℕ → Room → Option Asked
run_with = run_told forms.Text

-- no moves are written where no file for them is named, and nothing is told on the way where it is not asked for
abbrev run_for : Length → Text → ℕ → Option ℕ → Room → Option Asked
run_for = run_with None false

abbrev run_into : Text → ℕ → ℕ → Option ℕ → Room → Option Asked
run_into sinks many periods firings room = run_for (lengths.Periods periods) sinks many firings room

-- the sinks' files go to the folder of the sources' where no other is named, and there are the least capacities where no room is
abbrev run_of : ℕ → ℕ → Option ℕ → Option Asked
run_of many periods firings = run_into (codes "d") many periods firings Least

run_asks : words_ask (run_on []) ≡ run_of 1 1 None
unfolding clap_on_literals asked_with
run_asks = refl

options_ask : words_ask (run_on (codes "--firings" ∷ codes "9" ∷ codes "--periods=20" ∷ codes "--workers" ∷ codes "+3" ∷ [])) ≡ run_of 3 20 (Some 9)
unfolding clap_on_literals asked_with
options_ask = refl

other_folder_asks : words_ask (run_on (codes "--out" ∷ codes "e" ∷ [])) ≡ run_into (codes "e") 1 1 None Least
unfolding clap_on_literals asked_with
other_folder_asks = refl

empty_folder_asks : words_ask (run_on (codes "--out=" ∷ [])) ≡ run_into [] 1 1 None Least
unfolding clap_on_literals asked_with
empty_folder_asks = refl

room_asks : words_ask (run_on (codes "--room" ∷ codes "64" ∷ [])) ≡ run_into (codes "d") 1 1 None (Periods 64)
unfolding clap_on_literals asked_with
room_asks = refl

auto_asks : words_ask (run_on (codes "--room=auto" ∷ [])) ≡ run_into (codes "d") 1 1 None Auto
unfolding clap_on_literals asked_with
auto_asks = refl

until_dry_asks : words_ask (run_on (codes "--until-dry" ∷ codes "--workers=2" ∷ [])) ≡ run_for lengths.UntilDry (codes "d") 2 None Least
unfolding clap_on_literals asked_with
until_dry_asks = refl

journal_asks : words_ask (run_on (codes "--journal" ∷ codes "m" ∷ [])) ≡ run_with (Some (codes "m")) false (lengths.Periods 1) (codes "d") 1 None Least
unfolding clap_on_literals asked_with
journal_asks = refl

progress_asks : words_ask (run_on (codes "--progress" ∷ [])) ≡ run_with None true (lengths.Periods 1) (codes "d") 1 None Least
unfolding clap_on_literals asked_with
progress_asks = refl

run_as_json_asks : words_ask (run_on (codes "--json" ∷ [])) ≡ run_told forms.Json None false (lengths.Periods 1) (codes "d") 1 None Least
unfolding clap_on_literals asked_with
run_as_json_asks = refl

two_lengths_ask_nothing : words_ask (run_on (codes "--until-dry" ∷ codes "--periods" ∷ codes "1" ∷ [])) ≡ None
unfolding clap_on_literals asked_with
two_lengths_ask_nothing = refl

no_room_asks_nothing : words_ask (run_on (codes "--room" ∷ codes "0" ∷ [])) ≡ None
unfolding clap_on_literals asked_with
no_room_asks_nothing = refl

auto_workers_ask : words_ask (run_on (codes "--workers" ∷ codes "auto" ∷ [])) ≡ run_by workers.Auto forms.Text None false (lengths.Periods 1) (codes "d") None Least
unfolding clap_on_literals asked_with
auto_workers_ask = refl

no_workers_ask_nothing : words_ask (run_on (codes "--workers" ∷ codes "9" ∷ [])) ≡ None
unfolding clap_on_literals asked_with
no_workers_ask_nothing = refl

-- the ends of the range and what is past them
some_workers : map workers_in (codes "1" ∷ codes "8" ∷ codes "+3" ∷ codes "auto" ∷ []) ≡ Some (workers.Count 1) ∷ Some (workers.Count 8) ∷ Some (workers.Count 3) ∷ Some workers.Auto ∷ []
unfolding clap_on_literals
some_workers = refl

no_workers : map workers_in ([] ∷ codes "0" ∷ codes "9" ∷ codes "-1" ∷ codes "x" ∷ codes "Auto" ∷ []) ≡ None ∷ None ∷ None ∷ None ∷ None ∷ None ∷ []
unfolding clap_on_literals
no_workers = refl

rooms : map room_in (codes "1" ∷ codes "65535" ∷ codes "+7" ∷ codes "auto" ∷ []) ≡ Some (Periods 1) ∷ Some (Periods 65535) ∷ Some (Periods 7) ∷ Some Auto ∷ []
unfolding clap_on_literals
rooms = refl

no_rooms : map room_in ([] ∷ codes "0" ∷ codes "65536" ∷ codes "-1" ∷ codes "x" ∷ codes "Auto" ∷ []) ≡ None ∷ None ∷ None ∷ None ∷ None ∷ None ∷ []
unfolding clap_on_literals
no_rooms = refl

-- whether a run with this option is taken
abbrev is_taken : Text → Text → Bool
is_taken option number = takes program (run_on (option ∷ number ∷ []))

ends_are_taken :
    map (is_taken (codes "--periods")) (codes "1" ∷ codes "1000" ∷ []) ++ map (is_taken (codes "--firings")) (codes "0" ∷ codes "1048576000" ∷ [])
    ≡ true ∷ true ∷ true ∷ true ∷ []
unfolding clap_on_literals
ends_are_taken = refl

past_the_ends_is_refused :
    map (is_taken (codes "--periods")) (codes "0" ∷ codes "1001" ∷ []) ++ map (is_taken (codes "--firings")) (codes "-1" ∷ codes "1048576001" ∷ [])
    ≡ false ∷ false ∷ false ∷ false ∷ []
unfolding clap_on_literals
past_the_ends_is_refused = refl

until_dry_is_no_option_of_check : takes program (codes "check" ∷ codes "a.toml" ∷ codes "--until-dry" ∷ []) ≡ false
unfolding clap_on_literals
until_dry_is_no_option_of_check = refl

twice_is_refused : takes program (run_on (codes "--workers" ∷ codes "2" ∷ codes "--workers" ∷ codes "2" ∷ [])) ≡ false
unfolding clap_on_literals
twice_is_refused = refl

two_other_folders_are_refused : takes program (run_on (codes "--out" ∷ codes "e" ∷ codes "--out" ∷ codes "f" ∷ [])) ≡ false
unfolding clap_on_literals
two_other_folders_are_refused = refl

two_rooms_are_refused : takes program (run_on (codes "--room" ∷ codes "2" ∷ codes "--room" ∷ codes "auto" ∷ [])) ≡ false
unfolding clap_on_literals
two_rooms_are_refused = refl

no_folder_is_refused : takes program (codes "run" ∷ codes "a.toml" ∷ []) ≡ false
unfolding clap_on_literals
no_folder_is_refused = refl

-- ---- streams

-- the words of a stream, and what they ask for
abbrev stream_on : List Text → List Text
stream_on options = codes "stream" ∷ codes "a.toml" ∷ options

abbrev stream_told : Form → Bool → TokenFormat → Option ℕ → Option ℕ → ℕ → Room → Option FolderNames → Option Asked
stream_told form progress format periods segment many room folders = Some (Flow (record {
  graph = codes "a.toml";
  folders = folders;
  room = room;
  workers = workers.Count many;
  segment = segment;
  periods = periods;
  format = format;
  progress = progress;
  form = form;
}))

-- a stream of which nothing more is asked: one worker, the room that is chosen by the graph, tokens as text, until a source is dry
abbrev plain_stream : Option FolderNames → Option Asked
plain_stream = stream_told forms.Text false formats.Text None None 1 Auto

abbrev stream_in : TokenFormat → Option Asked
stream_in format = stream_told forms.Text false format None None 1 Auto None

stream_asks : words_ask (stream_on []) ≡ plain_stream None
unfolding clap_on_literals asked_with
stream_asks = refl

stream_with_folder_asks : words_ask (stream_on (codes "d" ∷ [])) ≡ plain_stream (Some (record { sources = codes "d"; sinks = codes "d" }))
unfolding clap_on_literals asked_with
stream_with_folder_asks = refl

stream_with_other_folder_asks :
    words_ask (stream_on (codes "--out" ∷ codes "e" ∷ codes "d" ∷ [])) ≡ plain_stream (Some (record { sources = codes "d"; sinks = codes "e" }))
unfolding clap_on_literals asked_with
stream_with_other_folder_asks = refl

stream_options_ask :
    words_ask (stream_on (codes "--workers" ∷ codes "8" ∷ codes "--room=3" ∷ codes "--segment" ∷ codes "5" ∷ codes "--periods=+20" ∷ []
    ++ codes "--format" ∷ codes "s16be" ∷ codes "--progress" ∷ codes "--json" ∷ []))
    ≡ stream_told forms.Json true (formats.Samples samples.S16Be) (Some 20) (Some 5) 8 (Periods 3) None
unfolding clap_on_literals asked_with
stream_options_ask = refl

longest_stream_asks : words_ask (stream_on (codes "--segment" ∷ codes "4294967295" ∷ codes "--periods" ∷ codes "4294967295" ∷ []))
    ≡ stream_told forms.Text false formats.Text (Some 4294967295) (Some 4294967295) 1 Auto None
unfolding clap_on_literals asked_with
longest_stream_asks = refl

-- each format by its name
every_format_asks :
    map (λ name. words_ask (stream_on (codes "--format" ∷ name ∷ [])))
    (codes "text" ∷ codes "u8" ∷ codes "s8" ∷ codes "s16le" ∷ codes "s16be" ∷ codes "s32le" ∷ codes "s32be" ∷ []) ≡ map stream_in token_formats
unfolding clap_on_literals asked_with
every_format_asks = refl

out_alone_asks_nothing : words_ask (stream_on (codes "--out" ∷ codes "e" ∷ [])) ≡ None
unfolding clap_on_literals asked_with
out_alone_asks_nothing = refl

out_alone_is_taken : takes program (stream_on (codes "--out" ∷ codes "e" ∷ [])) ≡ true
unfolding clap_on_literals
out_alone_is_taken = refl

no_room_of_a_stream_asks_nothing : words_ask (stream_on (codes "--room" ∷ codes "0" ∷ [])) ≡ None
unfolding clap_on_literals asked_with
no_room_of_a_stream_asks_nothing = refl

-- whether a stream with this option is taken
abbrev is_streamed : Text → Text → Bool
is_streamed option number = takes program (stream_on (option ∷ number ∷ []))

ends_of_streams_are_taken :
    map (is_streamed (codes "--segment")) (codes "1" ∷ codes "4294967295" ∷ []) ++ map (is_streamed (codes "--periods")) (codes "1" ∷ codes "4294967295" ∷ [])
    ≡ true ∷ true ∷ true ∷ true ∷ []
unfolding clap_on_literals
ends_of_streams_are_taken = refl

past_the_ends_of_streams_is_refused :
    map (is_streamed (codes "--segment")) (codes "0" ∷ codes "4294967296" ∷ []) ++ map (is_streamed (codes "--periods")) (codes "0" ∷ codes "4294967296" ∷ [])
    ≡ false ∷ false ∷ false ∷ false ∷ []
unfolding clap_on_literals
past_the_ends_of_streams_is_refused = refl

unknown_formats_are_refused : map (is_streamed (codes "--format")) ([] ∷ codes "s16" ∷ codes "Text" ∷ codes "u8 " ∷ []) ≡ false ∷ false ∷ false ∷ false ∷ []
unfolding clap_on_literals
unknown_formats_are_refused = refl

-- what only a run takes
options_of_runs_are_refused :
    takes program (stream_on (codes "--until-dry" ∷ [])) ∷ is_streamed (codes "--firings") (codes "9") ∷ is_streamed (codes "--journal") (codes "m") ∷ []
    ≡ false ∷ false ∷ false ∷ []
unfolding clap_on_literals
options_of_runs_are_refused = refl

-- and what only a stream takes
options_of_streams_are_refused :
    takes program (run_on (codes "--segment" ∷ codes "1" ∷ [])) ∷ takes program (run_on (codes "--format" ∷ codes "text" ∷ [])) ∷ [] ≡ false ∷ false ∷ []
unfolding clap_on_literals
options_of_streams_are_refused = refl

no_graph_to_stream_is_refused : takes program (codes "stream" ∷ []) ≡ false
unfolding clap_on_literals
no_graph_to_stream_is_refused = refl

two_folders_of_a_stream_are_refused : takes program (stream_on (codes "d" ∷ codes "e" ∷ [])) ≡ false
unfolding clap_on_literals
two_folders_of_a_stream_are_refused = refl
