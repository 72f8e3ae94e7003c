-- The lines on the token files of sources, actor after actor, and why there is no explanation.
use Rattle.std.proofs.Common.{◌≡◌, ◌≢◌, ◌<◌, ◌+◌, ℕ, suc, Bool, true, false, cond, List, [], ◌∷◌, ◌++◌, length, map, drop, drop-cons, get_or, append_assoc, refl, ap, sym, subst, ◌∙◌, inl, inr, arith}
use Rattle.std.specs.Prelude.{◌⊎◌, ◌≤◌, Option, Some, None, Result, Ok, Err, IfErr, OnOk, string_bytes}
use Rattle.std.specs.Io.KnownBytes.{Appends}
use Rattle.clap.specs.Words.{Text}
use Rattle.csdf_model.specs.Graph.{Actor, actor_view}
use Rattle.csdf_model.specs.declared.parts.Actor.{Actor as ActorCode}
use Rattle.csdf_core.specs.Planned.{is_source_kernel}
use Rattle.csdf_explain.specs.Explained.{IsExplained}
use Rattle.csdf_answers.specs.declared.fault.ToolFault.{ToolFault}
use Rattle.csdf_answers.specs.declared.fault.ToolFault.TheVariants as fault
use Rattle.csdf_answers.specs.declared.fault.DeviceName.TheVariants.{Input, Output, File}
use Rattle.csdf_answers.specs.declared.token_file.TokenFile.{TokenFile}
use Rattle.csdf_bytes.specs.declared.intake.InputFault.{InputFault}
use Rattle.csdf_bytes.specs.declared.intake.InputFault.TheVariants as input
use Rattle.csdf_disk.specs.Acts.{Act, Asks, Devices, Look, Marks, Read, devices}
use Rattle.csdf_tool.specs.Carried.{LacksExplanation}
use Rattle.csdf_answers.specs.Faults.{unread}
use Rattle.csdf_answers.specs.declared.fault.DeviceName.{DeviceName}
use Rattle.csdf_files.specs.GraphFiles.{IsNamed, IsNotGiven, graph_misses, graph_reads, is_input, stream_of}
use Rattle.csdf_tool.specs.Explaining.{Explains, Looked, AreNotes, AreNotesOf, IsExplanation, IsNotedAfter, IsUnreadAs, look_of, note_of, source_names}
use Rattle.csdf_files.specs.Unread.{FindsThen, LacksWhy, is_of_file, unread_text}
use Rattle.csdf_files.specs.Files.{token_path}
use Rattle.csdf_files.proofs.DiskLemmas.{asks_more, asks_none}
use Rattle.std.proofs.lemmas.List.{append-nil, drop_all, map-append}

-- ---- lines

module _ (folder : Text) where
  with_source : (actor : Actor) (actors : List Actor) (l : Looked) (all : List Looked) (rest : List ℕ) → is_source_kernel actor.kernel ≡ true
      → l.source ≡ actor.name → AreNotes folder actors all rest → AreNotes folder (actor ∷ actors) (l ∷ all) (note_of folder l ++ rest)
  with_source actor actors l all rest is named h = record {
    sources =
        ap (λ name. name ∷ map (λ (m : Looked). m.source) all) named
        ∙ ap (λ names. actor.name ∷ names) h.sources
        ∙ sym (ap (λ b. cond b (actor.name ∷ source_names actors) (source_names actors)) is);
    lines = ap (λ text. note_of folder l ++ text) h.lines;
  }

  with_other : (actor : Actor) (actors : List Actor) (all : List Looked) (rest : List ℕ) → is_source_kernel actor.kernel ≡ false
      → AreNotes folder actors all rest → AreNotes folder (actor ∷ actors) all rest
  with_other actor actors all rest is h = record {
    sources = h.sources ∙ sym (ap (λ b. cond b (actor.name ∷ source_names actors) (source_names actors)) is);
    lines = h.lines;
  }

  module _ (actors : List ActorCode) where
    -- with any that are those of the actors from a place on, those so far and their lines are those of all
    abbrev pub AreSoFar : ℕ → List Looked → List ℕ → Type 0
    AreSoFar i done text =
        (all : List Looked) (rest : List ℕ) → AreNotes folder (map actor_view (drop i actors)) all rest
        → AreNotes folder (map actor_view actors) (done ++ all) (text ++ rest)

    -- and they are what was looked at
    pub record AreLookedAt (before now : Option (List Act)) (i : ℕ) (text : List ℕ) : Type 0 where
      pub done : List Looked
      pub so_far : AreSoFar i done text
      pub asked : Asks before now (map (look_of folder) done)

    pub none_looked_at : (before : Option (List Act)) → AreLookedAt before before 0 []
    none_looked_at before = record { done = []; so_far = λ all rest h. h; asked = asks_none before }

    module _ (i : ℕ) (d : ActorCode) (lt : i < length actors) (is : d ≡ get_or actors i d) where
      cut : drop i actors ≡ d ∷ drop (i + 1) actors
      cut = drop-cons actors i d lt ∙ ap (λ a. a ∷ drop (suc i) actors) (sym is) ∙ ap (λ n. d ∷ drop n actors) (let e : suc i ≡ i + 1 = omega arith in e)

      source_after : (text more : List ℕ) (done : List Looked) (l : Looked) → is_source_kernel (actor_view d).kernel ≡ true → l.source ≡ string_bytes d.name
          → more ≡ text ++ note_of folder l → AreSoFar i done text → AreSoFar (i + 1) (done ++ l ∷ []) more
      source_after text more done l source named told so_far = λ all rest h.
          let line = note_of folder l in
          let here = with_source (actor_view d) (map actor_view (drop (i + 1) actors)) l all rest source named h in
          let whole = so_far (l ∷ all) (line ++ rest) (subst (λ ds. AreNotes folder (map actor_view ds) (l ∷ all) (line ++ rest)) (sym cut) here) in
          subst (λ ls. AreNotes folder (map actor_view actors) ls (more ++ rest)) (sym (append_assoc done (l ∷ []) all))
          (subst (AreNotes folder (map actor_view actors) (done ++ l ∷ all)) (sym (append_assoc text line rest) ∙ ap (λ t. t ++ rest) (sym told)) whole)

      pub source_next : (before now next : Option (List Act)) (text more : List ℕ) (l : Looked) → is_source_kernel (actor_view d).kernel ≡ true
          → l.source ≡ string_bytes d.name → more ≡ text ++ note_of folder l → Asks now next (look_of folder l ∷ []) → AreLookedAt before now i text
          → AreLookedAt before next (i + 1) more
      source_next before now next text more l source named told asked h = record {
        done = h.done ++ l ∷ [];
        so_far = source_after text more h.done l source named told h.so_far;
        asked = subst (Asks before next) (sym (map-append (look_of folder) h.done (l ∷ [])))
            (asks_more before now next (map (look_of folder) h.done) (look_of folder l ∷ []) h.asked asked);
      }

      pub other_next : (before now : Option (List Act)) (text : List ℕ) → is_source_kernel (actor_view d).kernel ≡ false → AreLookedAt before now i text
          → AreLookedAt before now (i + 1) text
      other_next before now text other h = record {
        done = h.done;
        so_far = λ all rest more.
            (let here = with_other (actor_view d) (map actor_view (drop (i + 1) actors)) all rest other more in
            h.so_far all rest (subst (λ ds. AreNotes folder (map actor_view ds) all rest) (sym cut) here));
        asked = h.asked;
      }

      pub actor_noted : (before now next : Option (List Act)) (text more : List ℕ) → IsNotedAfter folder (actor_view d) now next text more
          → AreLookedAt before now i text → AreLookedAt before next (i + 1) more
      actor_noted before now next text more noted h = by (is_source_kernel (actor_view d).kernel) refl
        where
          by : (b : Bool) → is_source_kernel (actor_view d).kernel ≡ b → AreLookedAt before next (i + 1) more
          by true is = let look = noted.source is in source_next before now next text more look.0 is look.1 look.2 look.3 h
          by false is =
              let same = noted.other is in
              subst (AreLookedAt before next (i + 1)) (sym same.0)
              (subst (λ (o : Option (List Act)). AreLookedAt before o (i + 1) text) (sym same.1) (other_next before now text is h))

    -- at the end these are all
    pub all_looked_at : (before now : Option (List Act)) (i : ℕ) (text : List ℕ) → length actors ≤ i → AreLookedAt before now i text
        → (all : List Looked) × AreNotes folder (map actor_view actors) all text × Asks before now (map (look_of folder) all)
    all_looked_at before now i text past h =
        let none : drop i actors ≡ [] = drop_all i actors past in
        let nothing : AreNotes folder (map actor_view (drop i actors)) [] [] =
        subst (λ ds. AreNotes folder (map actor_view ds) [] []) (sym none) (record { sources = refl; lines = refl }) in (
          h.done,
          subst (λ ls. AreNotes folder (map actor_view actors) ls text) (append-nil h.done)
              (subst (AreNotes folder (map actor_view actors) (h.done ++ [])) (append-nil text) (h.so_far [] [] nothing)),
          h.asked,
        )

-- a look at the path of the source's token file
pub look_there : (before now : Option (List Act)) (folder : Text) (source path : List ℕ) (file : TokenFile) → path ≡ token_path folder source
    → Asks before now (Look path (Some file) ∷ []) → Asks before now (look_of folder (record { source = source; file = file }) ∷ [])
look_there before now folder source path file same asked = subst (λ p. Asks before now (Look p (Some file) ∷ [])) same asked

-- ---- the whole answer

module _ (r : Result (Unit {0}) ToolFault) (bytes : List ℕ) (asked answered : Option (List Act)) (before after : Option (List ℕ)) where
  -- with a folder
  pub explained_with : (folder : Text) (all : List Looked) (notes : List ℕ) → AreNotesOf folder bytes all notes → Asks asked answered (map (look_of folder) all)
      → OnOk r ((text : List ℕ) × IsExplained bytes (Ok text) × Appends before after (text ++ notes))
      → OnOk r ((looks : List Act) × (text : List ℕ) × IsExplanation (Some folder) bytes looks text × Asks asked answered looks × Appends before after text)
  explained_with folder all notes are looked h = by r h
    where
      by : (r : Result (Unit {0}) ToolFault) → OnOk r ((text : List ℕ) × IsExplained bytes (Ok text) × Appends before after (text ++ notes))
          → OnOk r ((looks : List Act) × (text : List ℕ) × IsExplanation (Some folder) bytes looks text × Asks asked answered looks × Appends before after text)
      by (Ok u) h = (map (look_of folder) all, h.0 ++ notes, (all, h.0, notes, h.1, are, refl, refl), looked, h.2)
      by (Err f) h = tt

  -- and without
  pub explained_alone : (folder : Option Text) → folder ≡ None → Asks asked answered []
      → OnOk r ((text : List ℕ) × IsExplained bytes (Ok text) × Appends before after text)
      → OnOk r ((looks : List Act) × (text : List ℕ) × IsExplanation folder bytes looks text × Asks asked answered looks × Appends before after text)
  explained_alone folder is none h = subst (λ (f : Option Text). OnOk r ((looks : List Act) × (text : List ℕ) × IsExplanation f bytes looks text
      × Asks asked answered looks × Appends before after text)) (sym is) (by r h)
    where
      by : (r : Result (Unit {0}) ToolFault) → OnOk r ((text : List ℕ) × IsExplained bytes (Ok text) × Appends before after text)
          → OnOk r ((looks : List Act) × (text : List ℕ) × IsExplanation None bytes looks text × Asks asked answered looks × Appends before after text)
      by (Ok u) h = ([], h.0, (h.1, refl), none, h.2)
      by (Err f) h = tt

-- of the bytes that a word names
pub explains_files : (r : Result (Unit {0}) ToolFault) (word : Text) (folder : Option Text) (left : Option (List ℕ)) (asked mid answered : Option (List Act))
    (before after : Option (List ℕ)) (bytes seen : List ℕ) → IsNamed word left bytes → Asks asked mid (graph_reads word bytes) → bytes ≡ seen
    → OnOk r ((looks : List Act) × (text : List ℕ) × IsExplanation folder seen looks text × Asks mid answered looks × Appends before after text)
    → OnOk r (Explains word folder (devices left asked answered) before after)
explains_files (Ok u) word folder left asked mid answered before after bytes seen named read same h = inl (record {
  bytes = seen;
  looks = h.0;
  text = h.1;
  named = subst (IsNamed word left) same named;
  explanation = h.2;
  files = asks_more asked mid answered (graph_reads word seen) h.0 (subst (λ bs. Asks asked mid (graph_reads word bs)) same read) h.3;
  written = h.4;
})
explains_files (Err f) word folder left asked mid answered before after bytes seen named read same h = tt

-- ---- no answer

-- want of memory may stand for any
pub memory_lacks : (word : Text) (folder : Option Text) (d : Devices) (m : Marks) (f : ToolFault) → f ≡ fault.Memory → LacksExplanation word folder d m f
memory_lacks word folder d m f memory = inl (inl memory, ap is_of_file memory)

module _ (folder : Option Text) (bytes : List ℕ) (asked answered : Option (List Act)) where
  -- an explanation that was not written
  pub unwritten_alone : folder ≡ None → Asks asked answered [] → (text : List ℕ) × IsExplained bytes (Ok text)
      → (looks : List Act) × (text : List ℕ) × IsExplanation folder bytes looks text × Asks asked answered looks
  unwritten_alone is none h = subst (λ (f : Option Text). (looks : List Act) × (text : List ℕ) × IsExplanation f bytes looks text × Asks asked answered looks)
      (sym is) ([], h.0, (h.1, refl), none)

  pub unwritten_with : (named : Text) → folder ≡ Some named → (looks : List Act) × (text : List ℕ) × IsExplanation (Some named) bytes looks text × Asks asked answered looks
      → (looks : List Act) × (text : List ℕ) × IsExplanation folder bytes looks text × Asks asked answered looks
  unwritten_with named is h = subst (λ (f : Option Text). (looks : List Act) × (text : List ℕ) × IsExplanation f bytes looks text × Asks asked answered looks) (sym is) h

-- with a folder, an explanation that was not written
pub unwritten_notes : (bytes : List ℕ) (asked answered : Option (List Act)) (folder : Text) (all : List Looked) (notes : List ℕ) → AreNotesOf folder bytes all notes
    → Asks asked answered (map (look_of folder) all) → (text : List ℕ) × IsExplained bytes (Ok text)
    → (looks : List Act) × (text : List ℕ) × IsExplanation (Some folder) bytes looks text × Asks asked answered looks
unwritten_notes bytes asked answered folder all notes are looked h = (map (look_of folder) all, h.0 ++ notes, (all, h.0, notes, h.1, are, refl, refl), looked)

-- of the bytes that a word names
pub lacks_explanation : (r : Result (Unit {0}) ToolFault) (word : Text) (folder : Option Text) (left : Option (List ℕ)) (asked mid answered : Option (List Act)) (m : Marks)
    (bytes seen : List ℕ) → IsNamed word left bytes → Asks asked mid (graph_reads word bytes) → bytes ≡ seen
    → IfErr r (λ f. (f ≡ fault.Memory) ⊎ (f ≡ fault.Device Output))
    → (r ≡ Err (fault.Device Output)
    → ((looks : List Act) × (text : List ℕ) × IsExplanation folder seen looks text × Asks mid answered looks) × (m.output ≡ true))
    → IfErr r (LacksExplanation word folder (devices left asked answered) m)
lacks_explanation (Ok u) word folder left asked mid answered m bytes seen named read same caused failed = tt
lacks_explanation (Err f) word folder left asked mid answered m bytes seen named read same caused failed = by caused
  where
    by : (f ≡ fault.Memory) ⊎ (f ≡ fault.Device Output) → LacksExplanation word folder (devices left asked answered) m f
    by (inl memory) = memory_lacks word folder (devices left asked answered) m f memory
    by (inr output) =
        let told = failed (ap Err output) in
        inr (inl (record {
          bytes = seen;
          looks = told.0.0;
          text = told.0.1;
          named = subst (IsNamed word left) same named;
          explanation = told.0.2;
          files = asks_more asked mid answered (graph_reads word seen) told.0.0 (subst (λ bs. Asks asked mid (graph_reads word bs)) same read) told.0.3;
          told = output;
          failed = told.1;
        }))

-- ---- a graph file that could not be read

-- a fault of a file is that of reading one, and not that of standard output
of_reading : (s : DeviceName) (why : InputFault) → is_of_file (unread s why) ≡ true → why ≡ input.Read
of_reading s input.Read is = refl
of_reading s input.TooLong is = cc
of_reading s input.Memory is = cc

pub file_or_output : (f : ToolFault) → is_of_file f ≡ true → f ≢ fault.Device Output
file_or_output f is = λ output. let no : true ≡ false = sym is ∙ ap is_of_file output in cc

module _ (word : Text) (left : Option (List ℕ)) (asked mid : Option (List Act)) (failed : Bool) where
  -- the word names the file, and it was asked for
  pub record IsUnread (f : ToolFault) : Type 0 where
    pub named : is_input word ≡ false
    pub asked_for : Asks asked mid (Read word (Err input.Read) ∷ [])
    pub told : f ≡ fault.Device (File word)

  pub is_unread : (f : ToolFault) → is_of_file f ≡ true → IsNotGiven word (devices left asked mid) failed f → IsUnread f
  is_unread f is (inl memory) = absurd (let no : true ≡ false = sym is ∙ ap is_of_file memory in cc)
  is_unread f is (inr (why, missing, told)) = by (is_input word) refl
    where
      read : why ≡ input.Read
      read = of_reading (stream_of word) why (sym (ap is_of_file told) ∙ is)

      files : Asks asked mid (graph_misses word input.Read)
      files = subst (λ w. Asks asked mid (graph_misses word w)) read missing.files

      of : f ≡ unread (stream_of word) input.Read
      of = told ∙ ap (unread (stream_of word)) read

      by : (b : Bool) → is_input word ≡ b → IsUnread f
      by true at = absurd (let no : true ≡ false = sym is ∙ ap is_of_file (of ∙ ap (λ (b : Bool). unread (cond b Input (File word)) input.Read) at) in cc)
      by false at = record {
        named = at;
        asked_for = subst (λ (b : Bool). Asks asked mid (cond b [] (Read word (Err input.Read) ∷ []))) at files;
        told = of ∙ ap (λ (b : Bool). unread (cond b Input (File word)) input.Read) at;
      }

  module _ (answered : Option (List Act)) (f : ToolFault) (h : IsUnread f) where
    found_then : (why : Option TokenFile) → FindsThen word mid answered why → IsUnreadAs word (devices left asked answered) why
    found_then why then = record {
      file = then.0;
      named = h.named;
      files = asks_more asked mid answered (Read word (Err input.Read) ∷ []) (Look word (Some then.0) ∷ []) h.asked_for then.1;
      told = then.2;
    }

    -- why is told
    pub explains_unread : (r : Result (Unit {0}) ToolFault) (folder : Option Text) (before after : Option (List ℕ))
        → OnOk r ((why : TokenFile) × FindsThen word mid answered (Some why) × Appends before after (unread_text word why))
        → OnOk r (Explains word folder (devices left asked answered) before after)
    explains_unread (Ok u) folder before after then = inr (then.0, found_then (Some then.0) then.1, then.2)
    explains_unread (Err g) folder before after then = tt

    -- or it is not
    pub lacks_unread : (r : Result (Unit {0}) ToolFault) (folder : Option Text) (m : Marks)
        → IfErr r (λ g. (g ≡ fault.Memory) ⊎ LacksWhy word mid answered f m.output g) → IfErr r (LacksExplanation word folder (devices left asked answered) m)
    lacks_unread (Ok u) folder m caused = tt
    lacks_unread (Err g) folder m caused = by caused
      where
        by : (g ≡ fault.Memory) ⊎ LacksWhy word mid answered f m.output g → LacksExplanation word folder (devices left asked answered) m g
        by (inl memory) = memory_lacks word folder (devices left asked answered) m g memory
        by (inr (inl (then, same))) = inr (inr (inl (found_then None then, same ∙ h.told)))
        by (inr (inr (why, then, output, failed))) = inr (inr (inr (why, found_then (Some why) then, output, failed)))
