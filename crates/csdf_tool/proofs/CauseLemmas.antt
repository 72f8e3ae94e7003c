-- Why there is no answer, by what the devices gave.
use Rattle.std.proofs.Common.{◌≡◌, ◌≢◌, ℕ, List, true, Option, Some, None, Result, Ok, Err, refl, ap, subst, inl, inr}
use Rattle.std.specs.Prelude.{◌⊎◌, IfErr, OnOk}
use Rattle.std.specs.Io.KnownBytes.{Appends}
use Rattle.clap.specs.Words.{Text}
use Rattle.csdf_answers.specs.declared.fault.DeviceName.TheVariants as stream
use Rattle.csdf_answers.specs.declared.fault.ToolFault.{ToolFault}
use Rattle.csdf_answers.specs.declared.fault.ToolFault.TheVariants as fault
use Rattle.csdf_words.specs.CommandLine.{Asked, Input, Moves, Ask, Explain, Run, Flow, FolderNames}
use Rattle.csdf_disk.specs.Acts.{Act, Asks, Devices, Marks, devices}
use Rattle.csdf_tool.specs.Carried.{IsCauseOf, LacksAnswer, PutsOut}
use Rattle.csdf_flows.specs.Flows.{StopsOver, Through}
use Rattle.csdf_files.specs.GraphFiles.{IsGivenBy, IsNamed, graph_reads}
use Rattle.csdf_files.proofs.DiskLemmas.{only_none}
use Rattle.csdf_run_files.proofs.FaultLemmas.{which}

-- ---- bytes that have no answer

-- bytes that came of a word, seen as a slice
pub given_bytes : (word : Text) (d : Devices) {bytes seen : List ℕ} → IsNamed word d.left bytes → Asks d.before d.after (graph_reads word bytes) → bytes ≡ seen
    → IsGivenBy word d seen
given_bytes word d named files same = subst (IsGivenBy word d) same (record { named = named; files = files })

module _ (IsAnswerTo : List ℕ → Result (List ℕ) ToolFault → Type 0) (word : Text) (d : Devices) (bytes : List ℕ) (given : IsGivenBy word d bytes) where
  pub puts_out : (answer : Result (Unit {0}) ToolFault) (before after : Option (List ℕ))
      → OnOk answer ((text : List ℕ) × IsAnswerTo bytes (Ok text) × Appends before after text) → OnOk answer (PutsOut IsAnswerTo word d before after)
  puts_out (Ok u) before after h = (bytes, h.0, given, h.1, h.2)
  puts_out (Err f) before after h = tt

  pub lacks_answer : (m : Marks) (answer : Result (Unit {0}) ToolFault)
      → IfErr answer (λ f. f ≢ fault.Memory → f ≢ fault.Device stream.Output → IsAnswerTo bytes (Err f))
      → (answer ≡ Err (fault.Device stream.Output) → ((text : List ℕ) × IsAnswerTo bytes (Ok text)) × (m.output ≡ true))
      → IfErr answer (LacksAnswer IsAnswerTo word d m)
  lacks_answer m (Ok u) other failed = tt
  lacks_answer m (Err f) other failed = by (which f)
    where
      by : (f ≡ fault.Memory) ⊎ ((f ≡ fault.Device stream.Output) ⊎ ((f ≢ fault.Memory) × (f ≢ fault.Device stream.Output)))
          → LacksAnswer IsAnswerTo word d m f
      by (inl memory) = inl (inl memory)
      by (inr (inl output)) = let told = failed (ap Err output) in inr (bytes, given, inr (told.0.0, told.0.1, output, told.1))
      by (inr (inr none)) = inr (bytes, given, inl (other none.0 none.1))

-- ---- what is asked for by another name

module _ (d : Devices) (answer : Result (Unit {0}) ToolFault) {asked : Asked} (other : Asked) (same : asked ≡ other) where
  pub caused_as : (t : Through) (m : Marks) → IfErr answer (IsCauseOf asked d t m) → IfErr answer (IsCauseOf other d t m)
  caused_as t m h = subst (λ a. IfErr answer (IsCauseOf a d t m)) same h

-- ---- want of memory

-- want of memory may stand for any answer, where nothing was asked of files
pub memory_causes : (asks : Asked) (left : Option (List ℕ)) (acts : Option (List Act)) (t : Through) (m : Marks)
    → IsCauseOf asks (devices left acts acts) t m fault.Memory
memory_causes Input left acts t m = inl (inl refl)
memory_causes (Moves path) left acts t m = inl (inl refl)
memory_causes (Ask question form room path) left acts t m = inl (inl refl)
memory_causes (Explain path folder) left acts t m = inl (inl refl, refl)
memory_causes (Run order) left acts t m = inl (record { only = only_none acts; why = inl (inl refl) })
memory_causes (Flow order) left acts t m = by order.folders
  where
    by : (folders : Option FolderNames) → StopsOver folders order (devices left acts acts) t m fault.Memory
    by None = inr (inl (inl refl))
    by (Some folders) = inl (inl refl)
