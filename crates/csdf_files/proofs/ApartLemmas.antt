-- Files of a run that are looked for, one after another.
use Rattle.std.proofs.Common.{◌≡◌, ℕ, ◌+◌, ◌<◌, true, false, List, [], ◌∷◌, ◌++◌, length, take, drop, get_or, refl, ap, sym, subst, ◌∙◌, append_assoc, inl, inr}
use Rattle.std.proofs.Common.{Option}
use Rattle.std.specs.Prelude.{◌⊎◌, option_to_list}
use Rattle.std.specs.List.{AllByRecursion}
use Rattle.std.proofs.lemmas.List.{take-append-drop, take_more}
use Rattle.csdf_model.specs.Graph.{Actor}
use Rattle.csdf_answers.specs.declared.fault.ToolFault.{ToolFault}
use Rattle.csdf_answers.specs.declared.fault.ToolFault.TheVariants.{InUse, Memory}
use Rattle.csdf_disk.specs.Acts.{Act, Asks, IsRead, Locate, OnlyReads}
use Rattle.csdf_files.specs.Places.{Apart, AreApart, IsInUse, Listed, file_on, files_on, is_in_use, located, more, none}
use Rattle.csdf_files.specs.declared.apart.Side.{Side}
use Rattle.csdf_disk.specs.declared.place.FilePlace.{FilePlace}
use Rattle.csdf_files.proofs.DiskLemmas.{asks_more, asks_none, both_read}

-- ---- the files of a run

pub files_step : (on : Side) (folder : List ℕ) (actor : Actor) (actors : List Actor) (before after total : List Listed)
    → after ≡ before ++ option_to_list (file_on on folder actor) → before ++ files_on on folder (actor ∷ actors) ≡ total
    → after ++ files_on on folder actors ≡ total
files_step on folder actor actors before after total is so_far =
    ap (λ (files : List Listed). files ++ files_on on folder actors) is
    ∙ append_assoc before (option_to_list (file_on on folder actor)) (files_on on folder actors)
    ∙ so_far

-- ---- none is in use

pub only_located : (a b : Option (List Act)) (path : List ℕ) (found : Option FilePlace) → Asks a b (Locate path found ∷ []) → OnlyReads a b
only_located a b path found p = (Locate path found ∷ [], (tt, tt), p)

pub apart_reads : {files : List Listed} {places : List FilePlace} {acts : List Act} → AreApart files places acts → AllByRecursion IsRead acts
apart_reads none = tt
apart_reads (more {files} {places} {acts} file p h free) = both_read acts (located file p ∷ []) (apart_reads h) (tt, tt)

-- the files before a place were looked for, and none is in use
abbrev pub AreApartTo : Option (List Act) → Option (List Act) → List Listed → ℕ → List FilePlace → Type 0
AreApartTo before now files i places = (acts : List Act) × Asks before now acts × AreApart (take i files) places acts

pub none_apart : (before : Option (List Act)) (files : List Listed) → AreApartTo before before files 0 []
none_apart before files = ([], asks_none before, none)

pub only_apart : (before now : Option (List Act)) (files : List Listed) (i : ℕ) (places : List FilePlace) → AreApartTo before now files i places → OnlyReads before now
only_apart before now files i places h = (h.0, apart_reads h.2, h.1)

module _ (before now next : Option (List Act)) (files : List Listed) (i : ℕ) (file : Listed) (places : List FilePlace) (there : i < length files)
    (at : get_or files i file ≡ file) (so_far : AreApartTo before now files i places) where
  longer : take (i + 1) files ≡ take i files ++ file ∷ []
  longer = take_more files i file there ∙ ap (λ (f : Listed). take i files ++ f ∷ []) at

  pub one_apart : (now_places : List FilePlace) → (p : FilePlace) × Asks now next (located file p ∷ []) × (is_in_use file p places ≡ false) × (now_places ≡ places ++ p ∷ [])
      → AreApartTo before next files (i + 1) now_places
  one_apart now_places found =
      subst (λ (ps : List FilePlace). AreApartTo before next files (i + 1) ps) (sym found.3) (
        so_far.0 ++ located file found.0 ∷ [],
        asks_more before now next so_far.0 (located file found.0 ∷ []) so_far.1 found.1,
        subst (λ (fs : List Listed). AreApart fs (places ++ found.0 ∷ []) (so_far.0 ++ located file found.0 ∷ [])) (sym longer)
            (more file found.0 so_far.2 found.2),
      )

  pub one_in_use : (f : ToolFault) → (f ≡ Memory) ⊎ ((p : FilePlace) × Asks now next (located file p ∷ []) × (is_in_use file p places ≡ true) × (f ≡ InUse file.name))
      → (f ≡ Memory) ⊎ ((acts : List Act) × Asks before next acts × IsInUse files acts f)
  one_in_use f (inl memory) = inl memory
  one_in_use f (inr found) =
      inr (
        so_far.0 ++ located file found.0 ∷ [],
        asks_more before now next so_far.0 (located file found.0 ∷ []) so_far.1 found.1,
        record {
          front = take i files;
          file = file;
          rest = drop (i + 1) files;
          places = places;
          found = found.0;
          before = so_far.0;
          split =
              sym (take-append-drop (i + 1) files) ∙ ap (λ (fs : List Listed). fs ++ drop (i + 1) files) longer
              ∙ append_assoc (take i files) (file ∷ []) (drop (i + 1) files);
          apart = so_far.2;
          in_use = found.2;
          acts_are = refl;
          told = found.3;
        },
      )

pub all_apart : (before now : Option (List Act)) (files : List Listed) (i : ℕ) (places : List FilePlace) → take i files ≡ files → AreApartTo before now files i places
    → (acts : List Act) × Asks before now acts × Apart files acts
all_apart before now files i places all h = (h.0, h.1, (places, subst (λ (fs : List Listed). AreApart fs places h.0) all h.2))
