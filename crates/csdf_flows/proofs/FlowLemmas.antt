-- The files of a stream, one after another, and the streams over them.
use Rattle.std.proofs.Common.{◌≡◌, ◌≢◌, ℕ, zero, suc, ◌+◌, ◌-◌, ◌<◌, ◌≤◌, Bool, true, false, cond, List, [], ◌∷◌, ◌++◌, length, map, take, drop, get_or, refl, ap, sym, subst, ◌∙◌, append_assoc, arith, inl, inr, codes}
use Rattle.std.proofs.Common.{Option, None, Result, Err}
use Rattle.std.specs.Prelude.{◌⊎◌, IfErr, IfOk}
use Rattle.std.specs.Global.{Vec}
use Rattle.std.specs.List.{enumerate_from}
use Rattle.std.proofs.lemmas.List.{drop-map, length-drop, length-map, map-append, take_all, take_more}
use Rattle.json.specs.Json.{Json, no_members, object}
use Rattle.csdf_json.specs.Lines.{IsLineOf, list_member, text_member}
use Rattle.csdf_model.specs.Graph.{Actor, Graph}
use Rattle.csdf_model.specs.Kernels.{is_sink_kernel, is_source_kernel}
use Rattle.csdf_analysis.specs.Acceptance.{Accepted}
use Rattle.csdf_run.specs.declared.totals.ChannelTotal.{ChannelTotal}
use Rattle.csdf_stream.specs.declared.end.StreamEnd.{StreamEnd}
use Rattle.csdf_stream.specs.declared.end.StreamFault.{StreamFault}
use Rattle.csdf_stream.specs.declared.end.StreamFault.TheVariants as why
use Rattle.csdf_stream.specs.declared.reader.ReaderFault.{ReaderFault}
use Rattle.csdf_stream.specs.declared.reader.ReaderFault.TheVariants as reading
use Rattle.csdf_stream.specs.Flowing.{Devices as Flow, IsAlike, devices as flow}
use Rattle.csdf_stream.specs.Marks.{IsMarked}
use Rattle.csdf_stream.specs.Ports.{numbers_from, sinks_in, sources_in}
use Rattle.csdf_stream.specs.Printed.{actor_names, channel_lines, clipped_lines, ending_word, name_at, names_of, newline}
use Rattle.csdf_answers.specs.declared.fault.DeviceName.TheVariants.{File, Output}
use Rattle.csdf_answers.specs.declared.fault.ToolFault.{ToolFault}
use Rattle.csdf_answers.specs.declared.fault.ToolFault.TheVariants as fault
use Rattle.csdf_answers.specs.declared.question.Form.{Form}
use Rattle.csdf_answers.specs.declared.question.Form.TheVariants as forms
use Rattle.csdf_words.specs.CommandLine.{StreamOrder}
use Rattle.csdf_run.specs.declared.no_outcome.NoOutcome.{NoOutcome}
use Rattle.csdf_run.specs.declared.no_outcome.NoOutcome.TheVariants as run
use Rattle.csdf_disk.specs.Acts.{Act, Asks, Keep}
use Rattle.csdf_flows.specs.Flows.{IsFlow, IsStoppedBy, IsUnkept, IsUnkeptAt, IsUnmade, IsUnopened, Placed, count_of, flow_file_view, keep_of, keeps, leave_of, make_of, miss_of, one_for, open_of, placed, sinks_at, sources_at}
use Rattle.csdf_flows.specs.Flows.{source_fault, stream_fault, unmade_of}
use Rattle.csdf_files.specs.Places.{in_file, out_file}
use Rattle.csdf_told.specs.Reports.{TellsStream, clipped_items, flow_items}
use Rattle.csdf_files.specs.Files.{put_fault}
use Rattle.csdf_told.specs.NoRun.{run_fault}
use Rattle.csdf_flows.specs.declared.flow_fault.Medium.{Medium}
use Rattle.csdf_flows.specs.declared.flow_fault.Medium.TheVariants as medium
use Rattle.csdf_flows.specs.declared.flow_files.FlowFile.{FlowFile}
use Rattle.csdf_flows.specs.declared.flow_files.Unkept.{Unkept}
use Rattle.csdf_disk.specs.declared.put_fault.PutFault.{PutFault}
use Rattle.csdf_files.proofs.DiskLemmas.{asks_more}

-- ---- one file after another

module _ (before now next : Option (List Act)) (files : List Placed) (i : ℕ) (file : Placed) (there : i < length files) (at : get_or files i file ≡ file) where
  longer : take (i + 1) files ≡ take i files ++ file ∷ []
  longer = take_more files i file there ∙ ap (λ (f : Placed). take i files ++ f ∷ []) at

  pub well_next : (well : Placed → Act) → Asks before now (map well (take i files)) → Asks now next (well file ∷ []) → Asks before next (map well (take (i + 1) files))
  well_next well so_far more =
      subst (Asks before next) (sym (ap (map well) longer ∙ map-append well (take i files) (file ∷ [])))
      (asks_more before now next (map well (take i files)) (well file ∷ []) so_far more)

  pub opened_not : Asks before now (map open_of (take i files)) → (f : ToolFault)
      → (f ≡ fault.Memory) ⊎ (Asks now next (miss_of file ∷ []) × (f ≡ fault.Device (File file.name)))
      → (f ≡ fault.Memory) ⊎ ((acts : List Act) × Asks before next acts × IsUnopened files acts f)
  opened_not so_far f (inl memory) = inl memory
  opened_not so_far f (inr (asked, told)) =
      inr (
        map open_of (take i files) ++ miss_of file ∷ [],
        asks_more before now next (map open_of (take i files)) (miss_of file ∷ []) so_far asked,
        record {
          name = file.name;
          cut = record { many = i; file = file; within = there; here = at; named = refl; acts_are = refl };
          told = told;
        },
      )

  pub made_not : Asks before now (map make_of (take i files)) → (f : ToolFault) (last : Option (List Act)) (P : Type 0)
      → ((f ≡ fault.Memory) × P) ⊎ ((come : PutFault) × Asks now next (unmade_of come file ∷ []) × (f ≡ put_fault file.name come))
      → Asks next last (map leave_of (take i files)) → (f ≡ fault.Memory) ⊎ ((acts : List Act) × Asks before last acts × IsUnmade files acts f)
  made_not so_far f last P (inl memory) left = inl memory.0
  made_not so_far f last P (inr (come, asked, told)) left =
      inr (
        map make_of (take i files) ++ unmade_of come file ∷ map leave_of (take i files),
        asks_more before now last (map make_of (take i files)) (unmade_of come file ∷ map leave_of (take i files)) so_far
            (asks_more now next last (unmade_of come file ∷ []) (map leave_of (take i files)) asked left),
        record {
          name = file.name;
          come = come;
          cut = record { many = i; file = file; within = there; here = at; named = refl; acts_are = refl };
          told = told;
        },
      )

-- all of them were
pub well_all : (before now : Option (List Act)) (files : List Placed) (i : ℕ) (well : Placed → Act) → take i files ≡ files
    → Asks before now (map well (take i files)) → Asks before now (map well files)
well_all before now files i well all h = subst (λ (fs : List Placed). Asks before now (map well fs)) all h

-- ---- files that are put in their places

pub keeps_more : (k : ℕ) (files : List Placed) (taken : List (Option (List ℕ))) (file : Placed) → k < length files → k < length taken → get_or files k file ≡ file
    → keeps (take (k + 1) files) (take (k + 1) taken) ≡ keeps (take k files) (take k taken) ++ keep_of (file, get_or taken k None) ∷ []
keeps_more k files taken file lt lu at =
    ap (λ (n : ℕ). keeps (take n files) (take n taken)) (let e : k + 1 ≡ suc k = omega arith in e) ∙ by k files taken lt lu at
  where
    by : (k : ℕ) (files : List Placed) (taken : List (Option (List ℕ))) → k < length files → k < length taken → get_or files k file ≡ file
        → keeps (take (suc k) files) (take (suc k) taken) ≡ keeps (take k files) (take k taken) ++ keep_of (file, get_or taken k None) ∷ []
    by k [] taken lt lu at = absurd (omega (arith, lt))
    by k (f ∷ files) [] lt lu at = absurd (omega (arith, lu))
    by zero (f ∷ files) (t ∷ taken) lt lu at = ap (λ (g : Placed). keep_of (g, t) ∷ []) at
    by (suc k) (f ∷ files) (t ∷ taken) lt lu at =
        ap (λ (acts : List Act). keep_of (f, t) ∷ acts) (by k files taken (omega (arith, lt)) (omega (arith, lu)) at)

pub kept_next : (before now next : Option (List Act)) (files : List Placed) (taken : List (Option (List ℕ))) (k : ℕ) (file : Placed) → k < length files
    → k < length taken → get_or files k file ≡ file → Asks before now (keeps (take k files) (take k taken))
    → Asks now next (keep_of (file, get_or taken k None) ∷ []) → Asks before next (keeps (take (k + 1) files) (take (k + 1) taken))
kept_next before now next files taken k file lt lu at so_far more =
    subst (Asks before next) (sym (keeps_more k files taken file lt lu at))
    (asks_more before now next (keeps (take k files) (take k taken)) (keep_of (file, get_or taken k None) ∷ []) so_far more)

-- of several files that were made those before one were put in their places, that one was not, and those behind it were given up
pub unkept_all : (before mid after : Option (List Act)) (files : List Placed) (taken : List (Option (List ℕ))) (u : Unkept) (file : Placed) (f : ToolFault)
    → IsUnkeptAt files taken before mid u → get_or files u.number file ≡ file → Asks mid after (map leave_of (drop (u.number + 1) files))
    → (f ≡ put_fault file.name u.why) ⊎ (f ≡ fault.Memory) → (acts : List Act) × Asks before after acts × IsUnkept files taken acts f
unkept_all before mid after files taken u file f h at left told =
    let front : List Act = keeps (take u.number files) (take u.number taken) in
    let one : Act = Keep file.path (get_or taken u.number None) (Err u.why) in
    let rest : List Act = map leave_of (drop (u.number + 1) files) in (
      front ++ one ∷ rest,
      subst (Asks before after) (append_assoc front (one ∷ []) rest) (asks_more before mid after (front ++ one ∷ []) rest (h.asked file at) left),
      record { many = u.number; file = file; come = u.why; within = h.within; here = at; acts_are = refl; told = told },
    )

-- those that are given up are the files behind one
all_back : {A : Type 0} (n : ℕ) (xs : List A) → take (length xs - n) (drop n xs) ≡ drop n xs
all_back n xs = take_all (length xs - n) (drop n xs) (omega (arith, length-drop n xs))

pub behind : {D : Type 0} (files : List FlowFile) (sinks : List D) (n : ℕ) → length sinks ≡ length files
    → map leave_of (take (length (take (length sinks - n) (drop n sinks))) (map flow_file_view (take (length files - n) (drop n files))))
    ≡ map leave_of (drop n (map flow_file_view files))
behind files sinks n same =
    let few : length (map flow_file_view (drop n files)) ≤ length (drop n sinks) =
    omega (arith, same, length-map (drop n files) flow_file_view, length-drop n files, length-drop n sinks) in
    ap (λ xs. map leave_of (take (length xs) (map flow_file_view (take (length files - n) (drop n files))))) (all_back n sinks)
    ∙ ap (λ (fs : List FlowFile). map leave_of (take (length (drop n sinks)) (map flow_file_view fs))) (all_back n files)
    ∙ ap (map leave_of) (take_all (length (drop n sinks)) (map flow_file_view (drop n files)) few ∙ sym (drop-map flow_file_view n files))

-- ---- as many devices as there are actors for them

sources_count : (folder : List ℕ) (n : ℕ) (actors : List Actor)
    → length (numbers_from (λ (actor : Actor). is_source_kernel actor.kernel) n actors) ≡ length (sources_at folder actors)
sources_count folder n [] = refl
sources_count folder n (actor ∷ actors) = by (is_source_kernel actor.kernel) (sources_count folder (suc n) actors)
  where
    by : (b : Bool) → length (numbers_from (λ (actor : Actor). is_source_kernel actor.kernel) (suc n) actors) ≡ length (sources_at folder actors)
        → length (cond b (n ∷ numbers_from (λ (actor : Actor). is_source_kernel actor.kernel) (suc n) actors)
        (numbers_from (λ (actor : Actor). is_source_kernel actor.kernel) (suc n) actors)) ≡ length (cond b (placed folder (in_file actor.name) ∷ []) [] ++ sources_at folder actors)
    by true same = ap suc same
    by false same = same

sinks_count : (folder : List ℕ) (n : ℕ) (actors : List Actor)
    → length (numbers_from (λ (actor : Actor). is_sink_kernel actor.kernel) n actors) ≡ length (sinks_at folder actors)
sinks_count folder n [] = refl
sinks_count folder n (actor ∷ actors) = by (is_sink_kernel actor.kernel) (sinks_count folder (suc n) actors)
  where
    by : (b : Bool) → length (numbers_from (λ (actor : Actor). is_sink_kernel actor.kernel) (suc n) actors) ≡ length (sinks_at folder actors)
        → length (cond b (n ∷ numbers_from (λ (actor : Actor). is_sink_kernel actor.kernel) (suc n) actors)
        (numbers_from (λ (actor : Actor). is_sink_kernel actor.kernel) (suc n) actors)) ≡ length (cond b (placed folder (out_file actor.name) ∷ []) [] ++ sinks_at folder actors)
    by true same = ap suc same
    by false same = same

pub as_many_sources : (folder : List ℕ) (g : Graph) → length (sources_in g) ≡ length (sources_at folder g.actors)
as_many_sources folder g = sources_count folder 0 g.actors

pub as_many_sinks : (folder : List ℕ) (g : Graph) → length (sinks_in g) ≡ length (sinks_at folder g.actors)
as_many_sinks folder g = sinks_count folder 0 g.actors

-- one device for one actor, and none for none
pub one_by : {A : Type 0} (actors : List ℕ) (b : Bool) (d : A) → length actors ≡ count_of b → one_for actors d ≡ cond b (d ∷ []) []
one_by actors true d is = ap (λ (n : ℕ). take n (d ∷ [])) is
one_by actors false d is = ap (λ (n : ℕ). take n (d ∷ [])) is

pub one_now : {D A : Type 0} (f : D → A) (ds : List D) (d : D) → length ds ≡ 1 → map f ds ≡ f (get_or ds 0 d) ∷ []
one_now f [] d is = absurd (cc)
one_now f (x ∷ []) d is = refl
one_now f (x ∷ y ∷ ds) d is = absurd (omega (arith, is))

pub none_now : {D A : Type 0} (f : D → A) (ds : List D) → length ds ≡ 0 → map f ds ≡ []
none_now f [] is = refl
none_now f (x ∷ ds) is = absurd (cc)

-- ---- a stream by other names of its devices

module _ (order : StreamOrder) (a : Accepted) {ls lt rs rt bs bt as_ at_ : List (Option (List ℕ))} (l : ls ≡ lt) (r : rs ≡ rt) (b : bs ≡ bt) (w : as_ ≡ at_) where
  same_flow : flow ls rs bs as_ ≡ flow lt rt bt at_
  same_flow =
      ap (λ (xs : List (Option (List ℕ))). flow xs rs bs as_) l ∙ ap (λ (xs : List (Option (List ℕ))). flow lt xs bs as_) r
      ∙ ap (λ (xs : List (Option (List ℕ))). flow lt rt xs as_) b ∙ ap (λ (xs : List (Option (List ℕ))). flow lt rt bt xs) w

  pub flow_as : (result : Result (Vec ℕ) ToolFault) → IfOk result (λ report. IsFlow order a (flow ls rs bs as_) report.items)
      → IfOk result (λ report. IsFlow order a (flow lt rt bt at_) report.items)
  flow_as result h = subst (λ (d : Flow). IfOk result (λ report. IsFlow order a d report.items)) same_flow h

  pub stopped_as : (medium : Medium) {ins jns outs puts : List Bool} → ins ≡ jns → outs ≡ puts → (result : Result (Vec ℕ) ToolFault)
      → IfErr result (λ f. (f ≡ fault.Memory) ⊎ IsStoppedBy order medium a (flow ls rs bs as_) ins outs f)
      → IfErr result (λ f. (f ≡ fault.Memory) ⊎ IsStoppedBy order medium a (flow lt rt bt at_) jns puts f)
  stopped_as medium {ins} {jns} {outs} {puts} i o result h =
      subst (λ (ms : List Bool). IfErr result (λ f. (f ≡ fault.Memory) ⊎ IsStoppedBy order medium a (flow lt rt bt at_) jns ms f)) o
      (subst (λ (ms : List Bool). IfErr result (λ f. (f ≡ fault.Memory) ⊎ IsStoppedBy order medium a (flow lt rt bt at_) ms outs f)) i
      (subst (λ (d : Flow). IfErr result (λ f. (f ≡ fault.Memory) ⊎ IsStoppedBy order medium a d ins outs f)) same_flow h))

-- ---- the graph as it goes on

module _ (a b : Accepted) (alike : IsAlike a b) where
  same_names : names_of b.graph.channels ≡ names_of a.graph.channels
  same_names = alike.names

  -- the report tells names alone
  pub report_alike : (form : Form) (totals : List ChannelTotal) (end : StreamEnd) (text : List ℕ) → TellsStream form b.graph totals end text
      → TellsStream form a.graph totals end text
  report_alike forms.Text totals end text told =
      told
      ∙ ap (λ (names : List (List ℕ)). by names b.graph.actors) same_names
      ∙ ap (λ (actors : List Actor). by (names_of a.graph.channels) actors) alike.actors
    where
      by : List (List ℕ) → List Actor → List ℕ
      by names actors = codes "ending " ++ ending_word end.ending ++ newline
          ++ channel_lines names totals (enumerate_from 0 end.report.items)
          ++ clipped_lines (actor_names actors) end.clipped.items (enumerate_from 0 (numbers_from (λ (actor : Actor). is_sink_kernel actor.kernel) 0 actors))
  report_alike forms.Json totals end text told =
      subst (λ (actors : List Actor). IsLineOf (by (names_of a.graph.channels) actors) text) alike.actors
      (subst (λ (names : List (List ℕ)). IsLineOf (by names b.graph.actors) text) same_names told)
    where
      by : List (List ℕ) → List Actor → Json
      by names actors =
          object (text_member (codes "ending") (ending_word end.ending)
          (list_member (codes "channels") (flow_items names totals (enumerate_from 0 end.report.items))
          (list_member (codes "clipped") (clipped_items (actor_names actors) end.clipped.items
          (enumerate_from 0 (numbers_from (λ (actor : Actor). is_sink_kernel actor.kernel) 0 actors))) no_members)))

-- ---- faults

-- the device of a stream that has failed is standard output, where it is told so
module _ (names : List (List ℕ)) (sources sinks : List ℕ) (ins : List Bool) (mark : Bool) where
  by_source : (name : List ℕ) (f : ReaderFault) → source_fault medium.Standard name f ≡ fault.Device Output → ⊥
  by_source name reading.Read e = cc
  by_source name (reading.Syntax line) e = cc
  by_source name (reading.Range line) e = cc
  by_source name (reading.CutOff number) e = cc
  by_source name reading.Memory e = cc

  by_run : (f : NoOutcome) → run_fault f ≡ fault.Device Output → ⊥
  by_run run.Memory e = cc
  by_run run.Worker e = cc

  marked_one : (actors : List ℕ) (k : ℕ) → k < length actors → length actors ≤ 1 → get_or (one_for actors mark) k false ≡ true → mark ≡ true
  marked_one [] k lt le is = absurd (omega (arith, lt))
  marked_one (x ∷ []) zero lt le is = is
  marked_one (x ∷ []) (suc k) lt le is = absurd (omega (arith, lt))
  marked_one (x ∷ y ∷ actors) k lt le is = absurd (omega (arith, le))

  pub output_failed : (stop : StreamFault) → length sinks ≤ 1 → IsMarked sources sinks ins (one_for sinks mark) stop
      → stream_fault medium.Standard names stop ≡ fault.Device Output → mark ≡ true
  output_failed (why.Source i f) le is e = absurd (by_source (name_at names i) f e)
  output_failed (why.TooMany i) le is e = absurd (cc)
  output_failed (why.Sink t) le is e = marked_one sinks is.0 is.1 le is.3
  output_failed (why.Run f) le is e = absurd (by_run f e)
  output_failed why.Memory le is e = absurd (cc)

-- a stream over files is stopped for no failure of standard output
pub files_stop : (names : List (List ℕ)) (stop : StreamFault) → stream_fault medium.Files names stop ≢ fault.Device Output
files_stop names (why.Source i reading.Read) e = cc
files_stop names (why.Source i (reading.Syntax line)) e = cc
files_stop names (why.Source i (reading.Range line)) e = cc
files_stop names (why.Source i (reading.CutOff number)) e = cc
files_stop names (why.Source i reading.Memory) e = cc
files_stop names (why.TooMany i) e = cc
files_stop names (why.Sink t) e = cc
files_stop names (why.Run run.Memory) e = cc
files_stop names (why.Run run.Worker) e = cc
files_stop names why.Memory e = cc
