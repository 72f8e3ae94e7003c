-- How the program ends, by the answer of its command.
use Rattle.std.proofs.Common.{◌≡◌, ◌≢◌, ℕ, List, [], Bool, true, Option, Some, None, arith, refl, sym, ap, subst, ◌∙◌, inl, inr}
use Rattle.std.specs.Prelude.{◌⊎◌, Result, Ok, Err, IfErr, OnErr, OnOk}
use Rattle.csdf_tool.specs.Carried.{IsCarriedOut, IsStreamedOut}
use Rattle.csdf_flows.specs.Flows.{Standard}
use Rattle.clap.specs.Words.{Kinds, HasKind, Text, fault_of, kind_of}
use Rattle.clap.specs.declared.error.Error.{Error}
use Rattle.clap.specs.declared.error.kind.ErrorKind.{ErrorKind}
use Rattle.clap.specs.declared.error.kind.ErrorKind.TheVariants.{DisplayHelp, DisplayVersion, OutOfMemory}
use Rattle.csdf_words.specs.declared.command.Unread.{Unread}
use Rattle.csdf_words.specs.declared.command.Unread.TheVariants as unread
use Rattle.csdf_words.specs.CommandLine.{Asked, IsUnread, program, words_ask}
use Rattle.csdf_disk.specs.Acts.{Devices}
use Rattle.csdf_tool.specs.Ends.{AreTaken, Ended, Ending, EndsAs, EndsBy, EndsFor, EndsForOneOf, EndsHelp, EndsInForm, EndsTelling, EndsTold, EndsUnread, TellsLine, told_in}
use Rattle.std.specs.Io.KnownBytes.{Appends}
use Rattle.csdf_answers.specs.declared.fault.Lack.{Lack}
use Rattle.csdf_answers.specs.declared.fault.DeviceName.TheVariants.{Output}
use Rattle.csdf_answers.specs.declared.question.Form.{Form}
use Rattle.csdf_answers.specs.declared.question.Form.TheVariants as forms
use Rattle.csdf_answers.specs.Faults.{status_of}
use Rattle.csdf_answers.specs.Objects.{TellsFault}
use Rattle.csdf_answers.specs.declared.fault.ToolFault.{ToolFault}
use Rattle.csdf_answers.specs.declared.fault.ToolFault.TheVariants as fault
use Rattle.csdf_run_files.proofs.FaultLemmas.{output_or_not}

-- ---- statuses

-- a fault ends with status 1, 2 or 3
one_to_three : (f : ToolFault) → (status_of f ≡ 1) ⊎ ((status_of f ≡ 2) ⊎ (status_of f ≡ 3))
one_to_three (fault.Graph g) = inl refl
one_to_three (fault.Line n) = inl refl
one_to_three (fault.Unbalanced name) = inl refl
one_to_three (fault.TooLarge name) = inl refl
one_to_three fault.Deadlock = inl refl
one_to_three fault.TooTight = inl refl
one_to_three fault.TooLong = inl refl
one_to_three (fault.TokenSyntax name line) = inl refl
one_to_three (fault.TokenRange name line) = inl refl
one_to_three (fault.TokenCutOff name number) = inl refl
one_to_three (fault.TooManyTokens name) = inl refl
one_to_three (fault.InUse name) = inr (inl refl)
one_to_three (fault.Lacks lack) = inr (inl refl)
one_to_three fault.Worker = inr (inr refl)
one_to_three (fault.Device d) = inr (inr refl)
one_to_three fault.Memory = inr (inr refl)

not_zero : (n status : ℕ) → status ≡ n → (n ≡ 1) ⊎ ((n ≡ 2) ⊎ (n ≡ 3)) → status ≡ 0 → ⊥
not_zero n status is (inl one) zero = omega (arith, is, one, zero)
not_zero n status is (inr (inl two)) zero = omega (arith, is, two, zero)
not_zero n status is (inr (inr three)) zero = omega (arith, is, three, zero)

-- status 2 is that of a file in use, or of words that lack something for the graph
abbrev pub IsOfWords : (ToolFault → Type 0) → Type 0
IsOfWords P = ((name : List ℕ) × P (fault.InUse name)) ⊎ ((lack : Lack) × P (fault.Lacks lack))

use_at : (f : ToolFault) → status_of f ≡ 2 → IsOfWords (λ g. f ≡ g)
use_at (fault.InUse name) two = inl (name, refl)
use_at (fault.Lacks lack) two = inr (lack, refl)
use_at (fault.Graph g) two = absurd (cc)
use_at (fault.Line n) two = absurd (cc)
use_at (fault.Unbalanced name) two = absurd (cc)
use_at (fault.TooLarge name) two = absurd (cc)
use_at fault.Deadlock two = absurd (cc)
use_at fault.TooTight two = absurd (cc)
use_at fault.TooLong two = absurd (cc)
use_at (fault.TokenSyntax name line) two = absurd (cc)
use_at (fault.TokenRange name line) two = absurd (cc)
use_at (fault.TokenCutOff name number) two = absurd (cc)
use_at (fault.TooManyTokens name) two = absurd (cc)
use_at fault.Worker two = absurd (cc)
use_at (fault.Device d) two = absurd (cc)
use_at fault.Memory two = absurd (cc)

-- ---- the line beside a status

-- a line that tells a fault, where it was put or the device failed
pub tells_line : (form : Form) (f : ToolFault) (line : List ℕ) (before after : Option (List ℕ)) (failed : Bool) → TellsFault (told_in form f) f line
    → Appends before after line ⊎ (failed ≡ true) → TellsLine form f before after failed
tells_line form f line before after failed told (inl put) = inl (line, told, put)
tells_line form f line before after failed told (inr gone) = inr gone

-- the end of an answer in a form of another name
pub ended_in : (answer : Result (Unit {0}) ToolFault) (status : ℕ) (before after : Option (List ℕ)) (failed : Bool) {form other : Form} → form ≡ other
    → Ended form answer status before after failed → Ended other answer status before after failed
ended_in answer status before after failed same h = subst (λ (form : Form). Ended form answer status before after failed) same h

pub on_ok_both : {X E A B C : Type 0} (r : Result X E) → (A → B → C) → OnOk r A → OnOk r B → OnOk r C
on_ok_both (Ok x) f a b = f a b
on_ok_both (Err e) f a b = tt

-- nothing was told on a device before a fault was
pub ended_from : {D : Type 0} (written : D → Option (List ℕ)) (form : Form) (answer : Result (Unit {0}) ToolFault) (status : ℕ) (old now : D)
    (after : Option (List ℕ)) (failed : Bool) → OnErr answer (now ≡ old) → Ended form answer status (written now) after failed
    → Ended form answer status (written old) after failed
ended_from written form (Ok u) status old now after failed same h = record { zero = h.zero; by = tt }
ended_from written form (Err f) status old now after failed same h =
    subst (λ d. Ended form (Err f) status (written d) after failed) same h

module _ {form : Form} {status : ℕ} {before after : Option (List ℕ)} {failed : Bool} where
  pub ends_as : (f : ToolFault) → EndsBy form f status before after failed → (g : ToolFault) × EndsAs form g status before after failed
  ends_as f (inl h) = (f, h)
  ends_as f (inr h) = (fault.Memory, h)

  -- where the status is 0, what holds of an answer holds
  pub at_zero : (answer : Result (Unit {0}) ToolFault) (P : Type 0) → Ended form answer status before after failed → status ≡ 0 → OnOk answer P → P
  at_zero (Ok u) P h zero p = p
  at_zero (Err f) P h zero p =
      let told = ends_as f h.by in
      absurd (not_zero (status_of told.0) status told.1.ends (one_to_three told.0) zero)

  -- a failure of standard output ends with status 3
  of_output : (f : ToolFault) → f ≡ fault.Device Output → EndsBy form f status before after failed → status ≡ 3
  of_output f output (inl ends) = ends.ends ∙ ap status_of output
  of_output f output (inr ends) = ends.ends

  -- where it is 1 or 2, what holds of a fault that is none of standard output holds
  pub at_refusal : (answer : Result (Unit {0}) ToolFault) (P : Type 0) → Ended form answer status before after failed
      → IfErr answer (λ f. f ≢ fault.Device Output → P) → (status ≡ 1) ⊎ (status ≡ 2) → P
  at_refusal (Ok u) P h p (inl one) = absurd (let no : 1 ≡ 0 = sym one ∙ h.zero in cc)
  at_refusal (Ok u) P h p (inr two) = absurd (let no : 2 ≡ 0 = sym two ∙ h.zero in cc)
  at_refusal (Err f) P h p (inl one) = p (λ output. let no : 1 ≡ 3 = sym one ∙ of_output f output h.by in cc)
  at_refusal (Err f) P h p (inr two) = p (λ output. let no : 2 ≡ 3 = sym two ∙ of_output f output h.by in cc)

  -- where it is 3, that holds, or what holds of a failure of standard output
  pub at_three : (answer : Result (Unit {0}) ToolFault) (P Q : Type 0) → Ended form answer status before after failed
      → IfErr answer (λ f. f ≢ fault.Device Output → P) → (answer ≡ Err (fault.Device Output) → Q) → status ≡ 3 → P ⊎ Q
  at_three (Ok u) P Q h p q three = absurd (let no : 3 ≡ 0 = sym three ∙ h.zero in cc)
  at_three (Err f) P Q h p q three = by (output_or_not f)
    where
      by : (f ≡ fault.Device Output) ⊎ (f ≢ fault.Device Output) → P ⊎ Q
      by (inl output) = inr (q (ap Err output))
      by (inr other) = inl (p other)

  -- where it is 2, what holds of the answer's fault holds of a file in use, or of words that lack something, and that is told
  pub use_of : (answer : Result (Unit {0}) ToolFault) (P : ToolFault → Type 0) → Ended form answer status before after failed → status ≡ 2
      → IfErr answer P → IsOfWords (λ f. P f × EndsAs form f status before after failed)
  use_of (Ok u) P h two p = absurd (let no : 2 ≡ 0 = sym two ∙ h.zero in cc)
  use_of (Err f) P h two p = by h.by
    where
      told : EndsAs form f status before after failed → IsOfWords (λ g. f ≡ g) → IsOfWords (λ f. P f × EndsAs form f status before after failed)
      told ends (inl (name, same)) = inl (name, (subst P same p, subst (λ (g : ToolFault). EndsAs form g status before after failed) same ends))
      told ends (inr (lack, same)) = inr (lack, (subst P same p, subst (λ (g : ToolFault). EndsAs form g status before after failed) same ends))

      by : EndsBy form f status before after failed → IsOfWords (λ f. P f × EndsAs form f status before after failed)
      by (inl ends) = told ends (use_at f (sym ends.ends ∙ two))
      by (inr ends) = absurd (let no : 2 ≡ 3 = sym two ∙ ends.ends in cc)

  -- where it is 1 or 3, a fault is told
  pub lined : (answer : Result (Unit {0}) ToolFault) → Ended form answer status before after failed → (status ≡ 1) ⊎ (status ≡ 3)
      → (f : ToolFault) × EndsInForm form f status before after failed
  lined (Ok u) h (inl one) = absurd (let no : 1 ≡ 0 = sym one ∙ h.zero in cc)
  lined (Ok u) h (inr three) = absurd (let no : 3 ≡ 0 = sym three ∙ h.zero in cc)
  lined (Err f) h told = let ends = ends_as f h.by in (ends.0, inl ends.1)

  -- where it is not 0, the fault is told of which holds what holds of the answer's
  pub told_of : (answer : Result (Unit {0}) ToolFault) (P : ToolFault → Type 0) → Ended form answer status before after failed → status ≢ 0
      → IfErr answer P → (f : ToolFault) × P f × EndsTelling form f status before after failed
  told_of (Ok u) P h some p = absurd (some h.zero)
  told_of (Err f) P h some p = (f, p, inl h.by)

  -- an answer that is this fault is told as it
  pub told_as : (answer : Result (Unit {0}) ToolFault) (f : ToolFault) → answer ≡ Err f → Ended form answer status before after failed
      → EndsTelling form f status before after failed
  told_as (Ok u) f is h = absurd (cc)
  told_as (Err g) f is h = let same : g ≡ f = cc in subst (λ k. EndsTelling form k status before after failed) same (inl h.by)

  -- where it is 3, the fault of words that were not read is told by its line
  pub lined_unread : ((status ≡ 1) ⊎ (status ≡ 3) → status ≡ 3) → (status ≡ 3 → (f : ToolFault) × EndsAs forms.Text f status before after failed)
      → (status ≡ 1) ⊎ (status ≡ 3) → (f : ToolFault) × EndsInForm form f status before after failed
  lined_unread only told known = let three = only known in let ends = told three in (ends.0, inr (three, ends.1))

-- ---- what is asked for by another name

module _ (d : Devices) (answer : Result (Unit {0}) ToolFault) {asked : Asked} (other : Asked) (same : asked ≡ other) where
  pub carried_as : (before after : Option (List ℕ)) → OnOk answer (IsCarriedOut asked d before after) → OnOk answer (IsCarriedOut other d before after)
  carried_as before after h = subst (λ a. OnOk answer (IsCarriedOut a d before after)) same h

  pub streamed_as : (s : Standard) → OnOk answer (IsStreamedOut asked d s) → OnOk answer (IsStreamedOut other d s)
  streamed_as s h = subst (λ a. OnOk answer (IsStreamedOut a d s)) same h

pub one_asked : {asks : Option Asked} {a b : Asked} → asks ≡ Some a → asks ≡ Some b → a ≡ b
one_asked first second = cc

-- ---- help and the version

-- they are written, or memory ran out, or standard output failed
pub help_ends : (answer : Result (Unit {0}) ToolFault) (e : Ending) → Ended forms.Text answer e.status e.before e.after e.failed
    → IfErr answer (λ f. (f ≡ fault.Memory) ⊎ (f ≡ fault.Device Output)) → (answer ≡ Err (fault.Device Output) → e.unwritten ≡ true) → EndsHelp e
help_ends (Ok u) e h caused failed = inl h.zero
help_ends (Err f) e h caused failed = by caused h.by
  where
    by : (f ≡ fault.Memory) ⊎ (f ≡ fault.Device Output) → EndsBy forms.Text f e.status e.before e.after e.failed → EndsHelp e
    by (inl memory) (inl ends) = inr (inl (subst (EndsTold e) memory ends))
    by (inr output) (inl ends) = inr (inr (failed (ap Err output), subst (EndsTold e) output ends))
    by why (inr ends) = inr (inl ends)

pub help_for : (kind : ErrorKind) (e : Ending) → (kind ≡ DisplayHelp) ⊎ (kind ≡ DisplayVersion) → EndsHelp e → EndsFor kind e
help_for kind e (inl help) h = subst (λ (k : ErrorKind). EndsFor k e) (sym help) h
help_for kind e (inr version) h = subst (λ (k : ErrorKind). EndsFor k e) (sym version) h

-- ---- words that are no request

memory_ends : (error : Error) (e : Ending) → kind_of error ≡ OutOfMemory → EndsFor (kind_of error) e → EndsTold e fault.Memory
memory_ends error e memory ends = subst (λ (k : ErrorKind). EndsFor k e) memory ends

by_kind : (error : Error) (e : Ending) (kinds : Kinds) → HasKind kinds error → EndsFor (kind_of error) e → EndsForOneOf kinds e
by_kind error e kinds (inl memory) ends = inl (memory_ends error e memory ends)
by_kind error e kinds (inr among) ends = inr (kind_of error, among, ends)

-- words that are taken are refused for want of memory alone
of_taken : (words : List Text) (error : Error) → IsUnread words (unread.Parse error) → AreTaken words → kind_of error ≡ OutOfMemory
of_taken words error why (inl taken) = why.1 taken
of_taken words error why (inr none) = by (subst (λ (kinds : Kinds). HasKind kinds error) none why.0)
  where
    by : HasKind [] error → kind_of error ≡ OutOfMemory
    by (inl memory) = memory
    by (inr among) = absurd among

module _ (words : List Text) (e : Ending) where
  pub unread_ends : (u : Unread) → IsUnread words u → EndsUnread u e → fault_of program words ≢ [] → EndsForOneOf (fault_of program words) e
  unread_ends (unread.Parse error) why ends some = by_kind error e (fault_of program words) why.0 ends
  unread_ends (unread.Room text) why ends some = absurd (some why.taken)
  unread_ends (unread.Workers text) why ends some = absurd (some why.taken)
  unread_ends unread.Lengths why ends some = absurd (some why.taken)
  unread_ends unread.OutAlone why ends some = absurd (some why.taken)

  pub taken_ends : (u : Unread) → IsUnread words u → EndsUnread u e → AreTaken words → words_ask words ≢ None → EndsTold e fault.Memory
  taken_ends (unread.Parse error) why ends taken asks = memory_ends error e (of_taken words error why taken) ends
  taken_ends (unread.Room text) why ends taken asks = absurd (asks why.nothing)
  taken_ends (unread.Workers text) why ends taken asks = absurd (asks why.nothing)
  taken_ends unread.Lengths why ends taken asks = absurd (asks why.nothing)
  taken_ends unread.OutAlone why ends taken asks = absurd (asks why.nothing)

  pub nothing_ends : (u : Unread) → IsUnread words u → EndsUnread u e → AreTaken words → (e.status ≡ 2) ⊎ EndsTold e fault.Memory
  nothing_ends (unread.Parse error) why ends taken = inr (memory_ends error e (of_taken words error why taken) ends)
  nothing_ends (unread.Room text) why ends taken = inl ends.status
  nothing_ends (unread.Workers text) why ends taken = inl ends.status
  nothing_ends unread.Lengths why ends taken = inl ends.status
  nothing_ends unread.OutAlone why ends taken = inl ends.status

-- a status that is told of want of memory is 3
pub memory_is_three : (e : Ending) → EndsTold e fault.Memory → e.status ≡ 3
memory_is_three e told = told.ends

pub some_asked : {asks : Option Asked} {asked : Asked} → asks ≡ Some asked → asks ≢ None
some_asked is none = let no = sym is ∙ none in cc

-- words that were read are taken, and ask for something
pub taken_words : (words : List Text) (asked : Asked) → fault_of program words ≡ [] → words_ask words ≡ Some asked
    → (fault_of program words ≢ []) ⊎ (words_ask words ≡ None) → ⊥
taken_words words asked none is (inl some) = some none
taken_words words asked none is (inr nothing) = some_asked is nothing
