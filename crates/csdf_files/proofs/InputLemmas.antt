-- Bytes that a word names: those that came, and why none did.
use Rattle.std.proofs.Common.{◌≡◌, ◌≢◌, ◌∙◌, ℕ, List, [], ◌∷◌, length, map, codes, Bool, true, false, cond, Option, Result, Ok, Err, refl, sym, ap, subst, inl, inr}
use Rattle.std.specs.Prelude.{◌⊎◌, ◌<◌, IfErr, IfOk, IfSome}
use Rattle.std.specs.Global.{Vec}
use Rattle.clap.specs.Words.{Text}
use Rattle.csdf_bytes.specs.declared.intake.InputFault.{InputFault}
use Rattle.csdf_bytes.specs.declared.intake.InputFault.TheVariants as input
use Rattle.csdf_answers.specs.Faults.{unread}
use Rattle.csdf_answers.specs.declared.fault.DeviceName.TheVariants as stream
use Rattle.csdf_answers.specs.declared.fault.ToolFault.{ToolFault}
use Rattle.csdf_answers.specs.declared.fault.ToolFault.TheVariants as fault
use Rattle.csdf_disk.specs.Acts.{Act, Asks, Read, devices}
use Rattle.csdf_files.specs.GraphFiles.{IsInputFault, IsNamed, IsNotGiven, graph_reads, is_input}

-- `-` alone names standard input
words_that_name_input : map is_input (codes "-" ∷ codes "./-" ∷ codes "--" ∷ [] ∷ []) ≡ true ∷ false ∷ false ∷ false ∷ []
words_that_name_input = refl

abbrev unread_as : InputFault → Result (Vec ℕ) InputFault
unread_as why = Err why

pub input_fault : (left : Option (List ℕ)) (failed : Bool) (why : InputFault) → (unread_as why ≡ Err input.Read → failed ≡ true)
    → (unread_as why ≡ Err input.TooLong → IfSome left (λ all. 16777216 < length all)) → IsInputFault left failed why
input_fault left failed input.Read read long = read refl
input_fault left failed input.TooLong read long = long refl
input_fault left failed input.Memory read long = tt

module _ (word : Text) (left : Option (List ℕ)) (before after : Option (List Act)) (failed : Bool) where
  abbrev of : ToolFault → Type 0
  of f = IsNotGiven word (devices left before after) failed f

  -- of standard input
  pub input_missing : is_input word ≡ true → Asks before after [] → (r : Result (Vec ℕ) ToolFault)
      → IfErr r (λ f. (why : InputFault) × IsInputFault left failed why × (f ≡ unread stream.Input why)) → IfErr r of
  input_missing is none (Ok bytes) h = tt
  input_missing is none (Err f) h =
      inr (
        h.0,
        record {
          input = λ _. h.1;
          files = subst (λ (b : Bool). Asks before after (cond b [] (Read word (Err h.0) ∷ []))) (sym is) none;
        },
        h.2 ∙ ap (λ (b : Bool). unread (cond b stream.Input (stream.File word)) h.0) (sym is),
      )

  -- and of a file
  pub file_missing : is_input word ≡ false → (r : Result (Vec ℕ) ToolFault)
      → IfErr r (λ f. (f ≡ fault.Memory) ⊎ ((why : InputFault) × Asks before after (Read word (Err why) ∷ []) × (f ≡ unread (stream.File word) why)))
      → IfErr r of
  file_missing is (Ok bytes) h = tt
  file_missing is (Err f) h = by h
    where
      by : (f ≡ fault.Memory) ⊎ ((why : InputFault) × Asks before after (Read word (Err why) ∷ []) × (f ≡ unread (stream.File word) why)) → of f
      by (inl memory) = inl memory
      by (inr asked) =
          inr (
            asked.0,
            record {
              input = λ yes. absurd (let no : true ≡ false = sym yes ∙ is in cc);
              files = subst (λ (b : Bool). Asks before after (cond b [] (Read word (Err asked.0) ∷ []))) (sym is) asked.1;
            },
            asked.2 ∙ ap (λ (b : Bool). unread (cond b stream.Input (stream.File word)) asked.0) (sym is),
          )

  -- bytes that came of standard input, and those that came of a file
  pub input_read : is_input word ≡ true → Asks before after [] → (r : Result (Vec ℕ) ToolFault)
      → IfOk r (λ bytes. Asks before after (graph_reads word bytes.items))
  input_read is none (Ok bytes) = subst (λ (b : Bool). Asks before after (cond b [] (Read word (Ok bytes.items) ∷ []))) (sym is) none
  input_read is none (Err f) = tt

  pub file_read : is_input word ≡ false → (r : Result (Vec ℕ) ToolFault) → IfOk r (λ bytes. Asks before after (Read word (Ok bytes.items) ∷ []))
      → IfOk r (λ bytes. Asks before after (graph_reads word bytes.items))
  file_read is (Ok bytes) h = subst (λ (b : Bool). Asks before after (cond b [] (Read word (Ok bytes.items) ∷ []))) (sym is) h
  file_read is (Err f) h = tt

  pub input_named : (r : Result (Vec ℕ) ToolFault) → IfOk r (λ bytes. IfSome left (λ all. bytes.items ≡ all))
      → IfOk r (λ bytes. IsNamed word left bytes.items)
  input_named (Ok bytes) h = λ _. h
  input_named (Err f) h = tt

  pub file_named : is_input word ≡ false → (r : Result (Vec ℕ) ToolFault) → IfOk r (λ bytes. IsNamed word left bytes.items)
  file_named is (Ok bytes) = λ yes. absurd (let no : true ≡ false = sym yes ∙ is in cc)
  file_named is (Err f) = tt

-- a file that was not read is no failure of standard output
pub file_ends : (name : List ℕ) (why : InputFault) → unread (stream.File name) why ≢ fault.Device stream.Output
file_ends name input.Read = λ e. cc
file_ends name input.TooLong = λ e. cc
file_ends name input.Memory = λ e. cc
