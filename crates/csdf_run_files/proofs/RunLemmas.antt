-- The files of a run, and the faults that are told of them.
use Rattle.std.proofs.Common.{◌≡◌, ◌≢◌, ℕ, suc, ◌+◌, ◌<◌, Bool, true, false, cond, List, [], ◌∷◌, ◌++◌, length, map, take, get_or, refl, ap, sym}
use Rattle.std.proofs.Common.{subst, ◌∙◌, arith, append_assoc, inl, inr, Ok, Err, Option, Some, None, Bor, option_map}
use Rattle.std.specs.Prelude.{ℤ, ◌⊎◌, IfErr, IfOk, IsErrAnd, OnErr, OnOk, Result, codes, is_some}
use Rattle.std.proofs.lemmas.List.{map-append, take_more}
use Rattle.csdf_model.specs.Graph.{Actor, Channel, Graph}
use Rattle.csdf_graph.specs.GraphText.{IsGraphOf}
use Rattle.csdf_graph.specs.declared.fault.GraphFault.{GraphFault}
use Rattle.csdf_graph.specs.declared.fault.GraphFault.TheVariants as graph
use Rattle.csdf_bytes.specs.declared.intake.InputFault.{InputFault}
use Rattle.csdf_bytes.specs.declared.intake.InputFault.TheVariants as input
use Rattle.csdf_floor.specs.Work.{feeds_in, is_sink_kernel}
use Rattle.csdf_answers.specs.declared.fault.ToolFault.{ToolFault}
use Rattle.csdf_answers.specs.declared.fault.ToolFault.TheVariants as fault
use Rattle.csdf_answers.specs.declared.fault.DeviceName.TheVariants.{Output, File}
use Rattle.csdf_analysis.specs.declared.room.Room.{Room}
use Rattle.csdf_analysis.specs.declared.room.Room.TheVariants as rooms
use Rattle.csdf_analysis.specs.Room.{IsWithRoom, channel_with_room, with_room}
use Rattle.csdf_floor.proofs.Works.{few_in_thousand}
use Rattle.csdf_analysis.specs.declared.length.Length.{Length}
use Rattle.csdf_analysis.specs.declared.length.Length.TheVariants as lengths
use Rattle.csdf_core.specs.Moves.{Move, Begin, Read as Take, Write as Give, Finish, Close}
use Rattle.csdf_floor.specs.declared.outcome.Outcome.{Outcome}
use Rattle.csdf_floor.specs.Report.{report_text}
use Rattle.csdf_journal.specs.View.{JournalView}
use Rattle.csdf_run.specs.declared.tokens.TokensFault.{TokensFault}
use Rattle.csdf_run.specs.declared.tokens.TokensFault.TheVariants as tokens
use Rattle.csdf_run.specs.Scripts.{kept_script, move_entries, move_entry, spaced_tokens}
use Rattle.csdf_run.specs.Texts.{IsHandedBack, MayGraphGoOn, text_at}
use Rattle.csdf_run.specs.Tokens.{IsGraphRun, IsSequentialGraphRun}
use Rattle.csdf_words.specs.CommandLine.{Order}
use Rattle.csdf_words.specs.HowLong.{MayBeAsked}
use Rattle.csdf_files.specs.GraphFiles.{IsNamed, graph_reads}
use Rattle.csdf_json.specs.Lines.{IsLineOf}
use Rattle.csdf_answers.specs.declared.question.Form.{Form}
use Rattle.csdf_answers.specs.declared.question.Form.TheVariants as forms
use Rattle.csdf_answers.specs.Described.{actor_names}
use Rattle.csdf_answers.specs.Faults.{accept_fault, fault_of}
use Rattle.csdf_answers.specs.Printed.{name_at, names_of}
use Rattle.csdf_disk.specs.Acts.{Act, Asks, Marks, OnlyReads, devices}
use Rattle.csdf_told.specs.Reports.{TellsReport, report_object}
use Rattle.csdf_run_files.specs.Running.{AreNamedAlike, EndsBeforeFiles, EndsOnFiles, IsCutShort, IsKeptFrom, LacksFeed, RefusesGraphRun, RefusesRun, RunsOn, StopsOnPlaces, StopsOnTexts, StopsRun}
use Rattle.csdf_files.specs.Files.{IsUnput, Written, feed_fault, put_fault}
use Rattle.csdf_run_files.specs.Running.{feed_paths, feed_reads, files_of, journal_files, put_whole, run_asks, run_reads, sink_files_from, tokens_fault, token_fault}
use Rattle.csdf_files.specs.Places.{Apart, IsInUse, Listed, listed_files, out_file}
use Rattle.csdf_run_files.specs.declared.run.RunOfGraph.{RunOfGraph}
use Rattle.csdf_disk.specs.declared.put_fault.PutFault.{PutFault}
use Rattle.csdf_disk.specs.declared.put_fault.PutFault.TheVariants as put
use Rattle.csdf_run_files.proofs.FaultLemmas.{memory_or_not}
use Rattle.csdf_run_files.proofs.FeedLemmas.{no_stream}
use Rattle.csdf_files.proofs.ApartLemmas.{apart_reads}
use Rattle.csdf_files.proofs.DiskLemmas.{asks_more, both_read, only_more}
use Rattle.csdf_run_files.proofs.ReadLemmas.{only_feeds, only_graph, run_read}

-- ---- how long

-- a run of any graph may go on as long as may be asked for
pub may_go_on : (room : Room) (g : Graph) (how_long : Length) → MayBeAsked how_long → MayGraphGoOn room g how_long
may_go_on room g (lengths.Periods n) may = (may.0, λ a is. few_in_thousand a n is.accepted may.1)
may_go_on room g lengths.UntilDry may = tt

-- ---- words

-- a word is there or not, however it is seen
pub is_some-map : (word : Option (Bor (List ℕ))) → is_some (option_map (λ w. w.now) word) ≡ is_some word
is_some-map None = refl
is_some-map (Some w) = refl

-- ---- a graph that a run hands back

-- room changes no name
names_room : (q : List ℕ) (m : ℕ) (cs : List Channel) → names_of (map (channel_with_room q m) cs) ≡ names_of cs
names_room q m [] = refl
names_room q m (c ∷ cs) = ap (λ (names : List (List ℕ)). c.name ∷ names) (names_room q m cs)

roomy_alike : (q : List ℕ) (m : ℕ) (g h : Graph) → h ≡ with_room q m g → AreNamedAlike g h
roomy_alike q m g h same = record {
  actors = ap (λ (x : Graph). x.actors) same;
  names = ap (λ (x : Graph). names_of x.channels) same ∙ names_room q m g.channels;
}

same_alike : (g h : Graph) → h ≡ g → AreNamedAlike g h
same_alike g h same = record { actors = ap (λ (x : Graph). x.actors) same; names = ap (λ (x : Graph). names_of x.channels) same }

pub alike_with : (room : Room) (q : List ℕ) (g h : Graph) → IsWithRoom room q g h → AreNamedAlike g h
alike_with rooms.Least q g h same = same_alike g h same
alike_with (rooms.Periods n) q g h same = roomy_alike q n g h same
alike_with rooms.Auto q g h auto = roomy_alike q auto.0 g h auto.2

pub handed_back : (room : Room) (g h : Graph) → IsHandedBack room g h → AreNamedAlike g h
handed_back room g h (inl same) = same_alike g h same
handed_back room g h (inr roomy) = alike_with room roomy.0.q g h (subst (λ (x : Graph). IsWithRoom room roomy.0.q g x) (sym roomy.2) roomy.1.roomy)

-- what is told of a run is told by names alone
pub fault_alike : (g h : Graph) (why : TokensFault) → AreNamedAlike g h → tokens_fault h why ≡ tokens_fault g why
fault_alike g h (tokens.Accept why) alike = ap (λ names. accept_fault names why) alike.names
fault_alike g h (tokens.Feed feed) alike =
    ap (λ (actors : List Actor). token_fault (name_at (actor_names actors) feed.actor) feed.fault) alike.actors
fault_alike g h (tokens.Run why) alike = refl

move_alike : (g h : Graph) (m : Move) → AreNamedAlike g h → move_entry h m ≡ move_entry g m
move_alike g h (Begin a) alike = ap (λ (xs : List Actor). codes "  \"" ++ (codes "begin " ++ name_at (actor_names xs) a) ++ codes "\",\n") alike.actors
move_alike g h (Take a) alike = ap (λ (xs : List Actor). codes "  \"" ++ (codes "read " ++ name_at (actor_names xs) a) ++ codes "\",\n") alike.actors
move_alike g h (Give a v) alike =
    ap (λ (xs : List Actor). codes "  \"" ++ (codes "write " ++ name_at (actor_names xs) a ++ spaced_tokens v) ++ codes "\",\n") alike.actors
move_alike g h (Finish a) alike = ap (λ (xs : List Actor). codes "  \"" ++ (codes "finish " ++ name_at (actor_names xs) a) ++ codes "\",\n") alike.actors
move_alike g h (Close c) alike = ap (λ names. codes "  \"" ++ (codes "close " ++ name_at names c) ++ codes "\",\n") alike.names

moves_alike : (g h : Graph) (moves : List Move) → AreNamedAlike g h → move_entries h moves ≡ move_entries g moves
moves_alike g h [] alike = refl
moves_alike g h (m ∷ moves) alike =
    ap (λ (text : List ℕ). text ++ move_entries h moves) (move_alike g h m alike) ∙ ap (λ text. move_entry g m ++ text) (moves_alike g h moves alike)

-- and so are its moves
script_alike : (g h : Graph) (j : JournalView) → AreNamedAlike g h → kept_script h j ≡ kept_script g j
script_alike g h j alike = ap (λ text. cond j.keeps (Some (codes "[script]\nmoves = [\n" ++ text ++ codes "]\n")) None) (moves_alike g h j.moves alike)

pub files_alike : (order : Order) (g h : Graph) (o : Outcome) → AreNamedAlike g h → files_of order h o ≡ files_of order g o
files_alike order g h o alike =
    ap (λ (actors : List Actor). sink_files_from 0 order.sink_folder actors (feeds_in o.sinks.items) ++ journal_files order.journal (kept_script h o.journal))
    alike.actors
    ∙ ap (λ text. sink_files_from 0 order.sink_folder g.actors (feeds_in o.sinks.items) ++ journal_files order.journal text) (script_alike g h o.journal alike)

pub report_alike : (form : Form) (g h : Graph) (o : Outcome) (text : List ℕ) → AreNamedAlike g h → TellsReport form h o text → TellsReport form g o text
report_alike forms.Text g h o text alike told = told ∙ ap (λ names. report_text names o.ending o.report.items) alike.names
report_alike forms.Json g h o text alike told =
    subst (λ names. IsLineOf (report_object names o.ending o.report.items) text) alike.names told

-- ---- sinks

-- the graph file and then the token files
pub reads_asked : (order : Order) (g : Graph) (bytes seen : List ℕ) (actors : List Actor) (feeds others : List (List ℕ)) (a b c : Option (List Act))
    → Asks a b (graph_reads order.graph bytes) → Asks b c (feed_reads order.folder actors feeds) → bytes ≡ seen → actors ≡ g.actors → feeds ≡ others
    → Asks a c (run_reads order g seen others)
reads_asked order g bytes seen actors feeds others a b c read more same_bytes same_actors same_feeds =
    asks_more a b c (graph_reads order.graph seen) (feed_reads order.folder g.actors others)
    (subst (λ bs. Asks a b (graph_reads order.graph bs)) same_bytes read)
    (subst (λ fs. Asks b c (feed_reads order.folder g.actors fs)) same_feeds
    (subst (λ xs. Asks b c (feed_reads order.folder xs feeds)) same_actors more))

-- one file after another
pub files_next : (before now next : Option (List Act)) (files : List Written) (i : ℕ) (file : Written) → i < length files → get_or files i file ≡ file
    → Asks before now (map put_whole (take i files)) → Asks now next (put_whole file ∷ []) → Asks before next (map put_whole (take (i + 1) files))
files_next before now next files i file lt at so_far more =
    let longer : take (i + 1) files ≡ take i files ++ file ∷ [] =
    take_more files i file lt ∙ ap (λ (f : Written). take i files ++ f ∷ []) at in
    subst (Asks before next) (sym (ap (map put_whole) longer ∙ map-append put_whole (take i files) (file ∷ [])))
    (asks_more before now next (map put_whole (take i files)) (put_whole file ∷ []) so_far more)

-- and one that was not put
pub files_cut : (before now next : Option (List Act)) (files : List Written) (i : ℕ) (file : Written) (fault : ToolFault) → i < length files
    → get_or files i file ≡ file → Asks before now (map put_whole (take i files)) → (acts : List Act) × Asks now next acts × IsUnput file acts fault
    → (acts : List Act) × Asks before next acts × IsCutShort files acts fault
files_cut before now next files i file fault lt at so_far cut = (
  map put_whole (take i files) ++ cut.0,
  asks_more before now next (map put_whole (take i files)) cut.0 so_far cut.1,
  record { many = i; last = cut.0; acts_are = refl; cut = inr (file, lt, at, cut.2) },
)

module _ (folder : List ℕ) (a : ℕ) (actor : Actor) (actors : List Actor) (lists : List (List ℤ)) (front total : List Written) where
  abbrev file_of : Written
  file_of = record { folder = folder; name = out_file actor.name; text = text_at lists a }

  abbrev rest : ℕ → List Written
  rest k = sink_files_from k folder actors lists

  later : rest (suc a) ≡ rest (a + 1)
  later = ap rest (let e : suc a ≡ a + 1 = omega arith in e)

  pub sink_next : is_sink_kernel actor.kernel ≡ true → front ++ sink_files_from a folder (actor ∷ actors) lists ≡ total → (front ++ file_of ∷ []) ++ rest (a + 1) ≡ total
  sink_next is so_far =
      append_assoc front (file_of ∷ []) (rest (a + 1))
      ∙ ap (λ files. front ++ file_of ∷ files) (sym later)
      ∙ ap (λ b. front ++ cond b (file_of ∷ rest (suc a)) (rest (suc a))) (sym is)
      ∙ so_far

  pub other_next : is_sink_kernel actor.kernel ≡ false → front ++ sink_files_from a folder (actor ∷ actors) lists ≡ total → front ++ rest (a + 1) ≡ total
  other_next is so_far =
      ap (λ files. front ++ files) (sym later) ∙ ap (λ b. front ++ cond b (file_of ∷ rest (suc a)) (rest (suc a))) (sym is) ∙ so_far

-- ---- faults

-- a file that was not put is no failure of standard output
memory_ends : (f : ToolFault) → f ≡ fault.Memory → f ≢ fault.Device Output
memory_ends f memory = λ e. let no : fault.Memory ≡ fault.Device Output = sym memory ∙ e in cc

unput_why : (name : List ℕ) (f : ToolFault) (why : PutFault) → f ≡ put_fault name why → f ≢ fault.Device Output
unput_why name f put.Memory is = memory_ends f is
unput_why name f put.Device is = λ e. let no : fault.Device (File name) ≡ fault.Device Output = sym is ∙ e in cc

unput_ends : (file : Written) (acts : List Act) (f : ToolFault) → IsUnput file acts f → f ≢ fault.Device Output
unput_ends file acts f (inl none) = memory_ends f none.1
unput_ends file acts f (inr some) = unput_why file.name f some.0 some.2

cut_by : (files : List Written) (many : ℕ) (last : List Act) (f : ToolFault)
    → ((last ≡ []) × (f ≡ fault.Memory)) ⊎ ((file : Written) × (many < length files) × (get_or files many file ≡ file) × IsUnput file last f)
    → f ≢ fault.Device Output
cut_by files many last f (inl none) = memory_ends f none.1
cut_by files many last f (inr some) = unput_ends some.0 last f some.3

pub cut_ends : (files : List Written) (acts : List Act) (f : ToolFault) → IsCutShort files acts f → f ≢ fault.Device Output
cut_ends files acts f cut = cut_by files cut.many cut.last f cut.cut

-- nor is a graph that is refused
pub graph_ends : (why : GraphFault) → fault_of why ≢ fault.Device Output
graph_ends graph.NotToml = λ e. cc
graph_ends (graph.Shape at) = λ e. cc
graph_ends (graph.Name at) = λ e. cc
graph_ends (graph.Range at) = λ e. cc
graph_ends (graph.UnknownActor c) = λ e. cc
graph_ends (graph.PhaseLength c) = λ e. cc
graph_ends (graph.ZeroRate c) = λ e. cc
graph_ends (graph.KernelPorts a) = λ e. cc
graph_ends graph.NotConnected = λ e. cc
graph_ends graph.Memory = λ e. cc

-- nor a token file that was not read
feed_ends : (name : List ℕ) (why : InputFault) → feed_fault name why ≢ fault.Device Output
feed_ends name input.Read = λ e. cc
feed_ends name input.TooLong = λ e. cc
feed_ends name input.Memory = λ e. cc

pub lacks_ends : (a b : Option (List Act)) (folder : List ℕ) (actors : List Actor) (f : ToolFault)
    → (f ≡ fault.Memory) ⊎ ((acts : List Act) × Asks a b acts × LacksFeed folder actors acts f) → f ≢ fault.Device Output
lacks_ends a b folder actors f (inl memory) = memory_ends f memory
lacks_ends a b folder actors f (inr lacks) = λ e. feed_ends _ _ (sym lacks.2.told ∙ e)

-- nor texts that make no run
pub texts_end : (room : Room) (g : Graph) (feeds : List (List ℕ)) (f : ToolFault) → (f ≢ fault.Memory → RefusesGraphRun room g feeds f)
    → f ≢ fault.Device Output
texts_end room g feeds f refuses = by (memory_or_not f)
  where
    by : (f ≡ fault.Memory) ⊎ (f ≢ fault.Memory) → f ≢ fault.Device Output
    by (inl memory) = memory_ends f memory
    by (inr other) = no_stream room g feeds f (refuses other) Output

-- ---- why a run ends before its files are put

-- why there is no run of a graph, there is none of its file
refuses_run : (room : Room) (bytes : List ℕ) (g : Graph) (feeds : List (List ℕ)) (f : ToolFault) → IsGraphOf bytes (Ok g) → RefusesGraphRun room g feeds f
    → RefusesRun room g bytes feeds f
refuses_run room bytes g feeds f read refuses = (refuses.0, record { graph = g; read = read; holds = refuses.1 }, refuses.2)

graph_memory : (why : GraphFault) → (why ≡ graph.Memory) ⊎ (why ≢ graph.Memory)
graph_memory graph.NotToml = inr (λ e. cc)
graph_memory (graph.Shape at) = inr (λ e. cc)
graph_memory (graph.Name at) = inr (λ e. cc)
graph_memory (graph.Range at) = inr (λ e. cc)
graph_memory (graph.UnknownActor c) = inr (λ e. cc)
graph_memory (graph.PhaseLength c) = inr (λ e. cc)
graph_memory (graph.ZeroRate c) = inr (λ e. cc)
graph_memory (graph.KernelPorts a) = inr (λ e. cc)
graph_memory graph.NotConnected = inr (λ e. cc)
graph_memory graph.Memory = inl refl

module _ (order : Order) (left : Option (List ℕ)) (failed : Bool) (bytes seen : List ℕ) (same : bytes ≡ seen) (named : IsNamed order.graph left bytes) (f : ToolFault) where
  module _ (a b : Option (List Act)) (read : Asks a b (graph_reads order.graph bytes)) where
    -- the graph is refused
    pub stops_by_graph : (why : GraphFault) → (why ≢ graph.Memory → IsGraphOf seen (Err why)) → f ≡ fault_of why
        → EndsBeforeFiles order (devices left a b) failed f
    stops_by_graph why is told = record { only = only_graph a b order.graph bytes read; why = by (graph_memory why) }
      where
        by : (why ≡ graph.Memory) ⊎ (why ≢ graph.Memory) → StopsRun order (devices left a b) failed f
        by (inl memory) = inl (inl (told ∙ ap fault_of memory))
        by (inr other) =
            inr (
              seen,
              subst (IsNamed order.graph left) same named,
              inl (why, is other, subst (λ bs. Asks a b (graph_reads order.graph bs)) same read, told),
            )

  module _ (a b c : Option (List Act)) (read : Asks a b (graph_reads order.graph bytes)) (g : Graph) (is : IsGraphOf seen (Ok g)) where
    -- a token file is not read
    pub stops_by_feed : OnlyReads b c → (actors : List Actor) → actors ≡ g.actors
        → (f ≡ fault.Memory) ⊎ ((acts : List Act) × Asks b c acts × LacksFeed order.folder actors acts f)
        → EndsBeforeFiles order (devices left a c) failed f
    stops_by_feed more actors same_actors missing =
        record { only = only_more a b c (only_graph a b order.graph bytes read) more; why = by missing }
      where
        by : (f ≡ fault.Memory) ⊎ ((acts : List Act) × Asks b c acts × LacksFeed order.folder actors acts f) → StopsRun order (devices left a c) failed f
        by (inl memory) = inl (inl memory)
        by (inr lacks) =
            inr (
              seen,
              subst (IsNamed order.graph left) same named,
              inr (
                g,
                is,
                inl (
                  lacks.0,
                  asks_more a b c (graph_reads order.graph seen) lacks.0 (subst (λ bs. Asks a b (graph_reads order.graph bs)) same read) lacks.1,
                  subst (λ xs. LacksFeed order.folder xs lacks.0 f) same_actors lacks.2,
                ),
              ),
            )

    -- a file that is to be written is in use, or the texts make no run
    pub stops_by_run : (actors : List Actor) → actors ≡ g.actors → (feeds others : List (List ℕ)) → feeds ≡ others
        → Asks b c (feed_reads order.folder actors feeds) → length (feed_paths order.folder actors) ≡ length feeds → (e : Option (List Act)) → OnlyReads c e
        → (f ≡ fault.Memory) ⊎ ((looks : List Act) × Asks c e looks × IsKeptFrom order g others looks f) → EndsBeforeFiles order (devices left a e) failed f
    stops_by_run actors same_actors feeds others same_feeds more each e only kept = record {
      only = only_more a c e (only_more a b c (only_graph a b order.graph bytes read) (only_feeds b c order.folder actors feeds more)) only;
      why = by kept;
    }
      where
        each_one : length (feed_paths order.folder g.actors) ≡ length others
        each_one =
            subst (λ fs. length (feed_paths order.folder g.actors) ≡ length fs) same_feeds
            (subst (λ xs. length (feed_paths order.folder xs) ≡ length feeds) same_actors each)

        asked : (looks : List Act) → Asks c e looks → Asks a e (run_asks order g seen others looks)
        asked looks last =
            asks_more a c e (run_reads order g seen others) looks (reads_asked order g bytes seen actors feeds others a b c read more same same_actors same_feeds)
            last

        on : (looks : List Act) → Asks c e looks → IsKeptFrom order g others looks f
            → StopsOnPlaces order g seen (devices left a e) f ⊎ StopsOnTexts order g seen (devices left a e) f
        on looks last (inl used) = inl (record { feeds = others; looks = looks; files = asked looks last; each = each_one; in_use = used })
        on looks last (inr refused) =
            inr (record {
              feeds = others;
              looks = looks;
              apart = refused.0;
              files = asked looks last;
              each = each_one;
              refuses = refuses_run order.room seen g others f is refused.1;
              no_stream = no_stream order.room g others f refused.1;
            })

        by : (f ≡ fault.Memory) ⊎ ((looks : List Act) × Asks c e looks × IsKeptFrom order g others looks f) → StopsRun order (devices left a e) failed f
        by (inl memory) = inl (inl memory)
        by (inr why) = inr (seen, subst (IsNamed order.graph left) same named, inr (g, is, inr (on why.0 why.1 why.2)))

-- a file in use is told of no stream
pub in_use_ends : (files : List Listed) (acts : List Act) (f : ToolFault) → IsInUse files acts f → f ≢ fault.Device Output
in_use_ends files acts f used = λ e. let no : fault.InUse used.file.name ≡ fault.Device Output = sym used.told ∙ e in cc

pub kept_ends : (order : Order) (g : Graph) (feeds : List (List ℕ)) (a b : Option (List Act)) (f : ToolFault)
    → (f ≡ fault.Memory) ⊎ ((looks : List Act) × Asks a b looks × IsKeptFrom order g feeds looks f) → f ≢ fault.Device Output
kept_ends order g feeds a b f (inl memory) = memory_ends f memory
kept_ends order g feeds a b f (inr kept) = by kept.2
  where
    by : IsKeptFrom order g feeds kept.0 f → f ≢ fault.Device Output
    by (inl used) = in_use_ends (listed_files order g.actors) kept.0 f used
    by (inr refused) = no_stream order.room g feeds f refused.1 Output

-- why a run is kept from beginning: a file is in use
pub kept_by_place : (order : Order) (g : Graph) (feeds : List (List ℕ)) (a b : Option (List Act)) (f : ToolFault) (actors : List Actor) → actors ≡ g.actors
    → (f ≡ fault.Memory) ⊎ ((acts : List Act) × Asks a b acts × IsInUse (listed_files order actors) acts f)
    → (f ≡ fault.Memory) ⊎ ((looks : List Act) × Asks a b looks × IsKeptFrom order g feeds looks f)
kept_by_place order g feeds a b f actors same (inl memory) = inl memory
kept_by_place order g feeds a b f actors same (inr used) =
    inr (used.0, used.1, inl (subst (λ (xs : List Actor). IsInUse (listed_files order xs) used.0 f) same used.2))

-- or none is, and the texts make no run
pub kept_by_texts : (order : Order) (g : Graph) (feeds : List (List ℕ)) (a b : Option (List Act)) (f : ToolFault)
    → (looks : List Act) × Asks a b looks × Apart (listed_files order g.actors) looks → (f ≢ fault.Memory → RefusesGraphRun order.room g feeds f)
    → (f ≡ fault.Memory) ⊎ ((looks : List Act) × Asks a b looks × IsKeptFrom order g feeds looks f)
kept_by_texts order g feeds a b f apart refuses = by (memory_or_not f)
  where
    by : (f ≡ fault.Memory) ⊎ (f ≢ fault.Memory) → (f ≡ fault.Memory) ⊎ ((looks : List Act) × Asks a b looks × IsKeptFrom order g feeds looks f)
    by (inl memory) = inl memory
    by (inr other) = inr (apart.0, apart.1, inr (apart.2, refuses other))

pub apart_as : (order : Order) (g : Graph) (a b : Option (List Act)) (actors : List Actor) → actors ≡ g.actors
    → (acts : List Act) × Asks a b acts × Apart (listed_files order actors) acts → (looks : List Act) × Asks a b looks × Apart (listed_files order g.actors) looks
apart_as order g a b actors same apart = (apart.0, apart.1, subst (λ (xs : List Actor). Apart (listed_files order xs) apart.0) same apart.2)

pub only_apart_looks : (a b : Option (List Act)) (files : List Listed) → (looks : List Act) × Asks a b looks × Apart files looks → OnlyReads a b
only_apart_looks a b files apart = (apart.0, apart_reads apart.2.1, apart.1)

pub on_ok : {X E : Type 0} (r : Result X E) (P : Type 0) → P → OnOk r P
on_ok (Ok x) P p = p
on_ok (Err e) P p = tt

pub both_errs : (r : Result RunOfGraph ToolFault) (P : Type 0) (Q : ToolFault → Type 0) → OnErr r P → IfErr r Q → IfErr r (λ f. P × Q f)
both_errs (Ok ran) P Q p q = tt
both_errs (Err f) P Q p q = (p, q)

-- the run of a graph is that of its file
pub ran_of_file : (order : Order) (left : Option (List ℕ)) (g : Graph) (bytes : List ℕ) (feeds : List (List ℕ)) (a b c : Option (List Act)) (keeps : Bool)
    (r : Result RunOfGraph ToolFault) → IsNamed order.graph left bytes → IsGraphOf bytes (Ok g) → Asks a b (run_reads order g bytes feeds) → is_some order.journal ≡ keeps
    → IfOk r (λ ran. IsGraphRun order.room g feeds order.how_long order.firings ran.outcome)
    → IfOk r (λ ran. IsSequentialGraphRun order.room g feeds order.how_long order.firings ran.outcome) → IfOk r (λ ran. ran.outcome.journal.keeps ≡ keeps)
    → IfOk r (λ ran. AreNamedAlike g ran.graph)
    → OnOk r ((looks : List Act) × Asks b c looks × Apart (listed_files order g.actors) looks)
    → IfOk r (λ ran. (h : Graph) × (bs : List ℕ) × (fs : List (List ℕ)) × RunsOn order left h bs fs ran.outcome × AreNamedAlike h ran.graph
    × (looks : List Act) × Apart (listed_files order h.actors) looks × Asks a c (run_asks order h bs fs looks))
ran_of_file order left g bytes feeds a b c keeps (Ok ran) named read asked word told sequential kept alike apart = (
  g,
  bytes,
  feeds,
  record {
    named = named;
    run = record {
      graph = read;
      told = record { graph = g; read = read; holds = told };
      sequential = record { graph = g; read = read; holds = sequential };
      kept = kept ∙ sym word;
    };
  },
  alike,
  apart.0,
  apart.2,
  asks_more a b c (run_reads order g bytes feeds) apart.0 asked apart.1,
)
ran_of_file order left g bytes feeds a b c keeps (Err f) named read asked word told sequential kept alike apart = tt

-- a run that asked and looked has only read
pub only_asks : (a b : Option (List Act)) (order : Order) (g : Graph) (bytes : List ℕ) (feeds : List (List ℕ)) (looks : List Act)
    → Apart (listed_files order g.actors) looks → Asks a b (run_asks order g bytes feeds looks) → OnlyReads a b
only_asks a b order g bytes feeds looks apart asked =
    (run_asks order g bytes feeds looks, both_read (run_reads order g bytes feeds) looks (run_read order g bytes feeds) (apart_reads apart.1), asked)

-- the files were put after all was read
pub puts_alike : (a b c : Option (List Act)) (order : Order) (g h : Graph) (bytes : List ℕ) (feeds : List (List ℕ)) (looks : List Act) (o : Outcome)
    → AreNamedAlike g h → Asks a b (run_asks order g bytes feeds looks) → Asks b c (map put_whole (files_of order h o))
    → Asks a c (run_asks order g bytes feeds looks ++ map put_whole (files_of order g o))
puts_alike a b c order g h bytes feeds looks o alike read put =
    asks_more a b c (run_asks order g bytes feeds looks) (map put_whole (files_of order g o)) read
    (subst (λ (files : List Written). Asks b c (map put_whole files)) (files_alike order g h o alike) put)

-- memory ran out before a file was put
pub ends_for_memory : (r : Result (Unit {0}) ToolFault) (order : Order) (left : Option (List ℕ)) (a b : Option (List Act)) (m : Marks)
    → IsErrAnd r (λ e. e ≡ fault.Memory) → OnlyReads a b → IfErr r (EndsOnFiles order (devices left a b) m)
ends_for_memory (Ok u) order left a b m is only = absurd is
ends_for_memory (Err f) order left a b m is only = inl (record { only = only; why = inl (inl is) })
