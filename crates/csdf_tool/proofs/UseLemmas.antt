-- Only a run and a stream end for a file in use, and only a stream for words that lack something: no other command has a fault of status 2.
use Rattle.std.proofs.Common.{◌≡◌, ◌<◌, ℕ, suc, length, get_or, List, [], ◌∷◌, Bool, true, Option, Some, None, Result, Ok, Err, refl, sym, ap, subst, ◌∙◌, inl, inr, codes}
use Rattle.std.specs.Prelude.{◌⊎◌, MatchResult}
use Rattle.csdf_graph.specs.declared.fault.GraphFault.{GraphFault}
use Rattle.csdf_graph.specs.declared.fault.GraphFault.TheVariants as graph
use Rattle.csdf_graph.specs.ScriptText.{Script, script_of}
use Rattle.csdf_bytes.specs.declared.intake.InputFault.{InputFault}
use Rattle.csdf_bytes.specs.declared.intake.InputFault.TheVariants as input
use Rattle.csdf_model.specs.Graph.{Graph}
use Rattle.csdf_analysis.specs.declared.fault.AcceptFault.{AcceptFault}
use Rattle.csdf_analysis.specs.declared.fault.AcceptFault.TheVariants as accept
use Rattle.csdf_answers.specs.declared.fault.DeviceName.{DeviceName}
use Rattle.csdf_answers.specs.declared.fault.ToolFault.{ToolFault}
use Rattle.csdf_answers.specs.declared.fault.ToolFault.TheVariants as fault
use Rattle.csdf_answers.specs.Faults.{◌>>=◌, fault_of, accept_fault, status_of, unread}
use Rattle.csdf_answers.specs.declared.fault.Lack.{Lack}
use Rattle.csdf_answers.specs.Lines.{Line, line_in}
use Rattle.csdf_answers.specs.Session.{IsAnswer, IsReplay, IsReplayOf, RefusesGraph, lines_from, or_line}
use Rattle.csdf_answers.specs.Described.{Refuses}
use Rattle.csdf_answers.specs.Objects.{IsDescriptionAs}
use Rattle.csdf_answers.specs.declared.question.Form.{Form}
use Rattle.csdf_answers.specs.declared.question.Question.{Question}
use Rattle.csdf_answers.specs.declared.question.Question.TheVariants as question
use Rattle.csdf_analysis.specs.declared.room.Room.{Room}
use Rattle.csdf_bytes.specs.declared.tokens.TokenFault.{TokenFault}
use Rattle.csdf_bytes.specs.declared.tokens.TokenFault.TheVariants as token
use Rattle.csdf_run.specs.declared.tokens.TokensFault.{TokensFault}
use Rattle.csdf_run.specs.declared.tokens.TokensFault.TheVariants as tokens
use Rattle.csdf_words.specs.CommandLine.{Asked, Input, Moves, Ask, Explain, Run, Flow, Order}
use Rattle.csdf_run.specs.declared.no_outcome.NoOutcome.{NoOutcome}
use Rattle.csdf_run.specs.declared.no_outcome.NoOutcome.TheVariants as run
use Rattle.csdf_disk.specs.Acts.{Act, Devices, Marks}
use Rattle.csdf_tool.specs.Carried.{IsCauseOf, IsUnanswered, LacksAnswer, LacksExplanation, asks_files, asks_stream}
use Rattle.csdf_tool.specs.Ends.{EndsAs, EndsInUse, EndsLacking}
use Rattle.csdf_flows.specs.Flows.{Through}
use Rattle.csdf_files.specs.GraphFiles.{IsNotGiven}
use Rattle.csdf_told.specs.NoRun.{run_fault}
use Rattle.csdf_run_files.specs.Running.{EndsOnFiles, StopsOnGraph, StopsRun, files_of, token_fault, tokens_fault}
use Rattle.csdf_files.specs.Files.{IsUnput, Written, feed_fault, put_fault}
use Rattle.csdf_disk.specs.declared.put_fault.PutFault.{PutFault}
use Rattle.csdf_disk.specs.declared.put_fault.PutFault.TheVariants as put
use Rattle.csdf_tool.proofs.EndLemmas.{IsOfWords}

-- the fault is none of the words
abbrev IsNoUse : ToolFault → Type 0
IsNoUse f = status_of f ≡ 2 → ⊥

graph_is_none : (why : GraphFault) → IsNoUse (fault_of why)
graph_is_none graph.NotToml = λ e. cc
graph_is_none (graph.Shape at) = λ e. cc
graph_is_none (graph.Name at) = λ e. cc
graph_is_none (graph.Range at) = λ e. cc
graph_is_none (graph.UnknownActor c) = λ e. cc
graph_is_none (graph.PhaseLength c) = λ e. cc
graph_is_none (graph.ZeroRate c) = λ e. cc
graph_is_none (graph.KernelPorts a) = λ e. cc
graph_is_none graph.NotConnected = λ e. cc
graph_is_none graph.Memory = λ e. cc

accept_is_none : (names : List (List ℕ)) (why : AcceptFault) → IsNoUse (accept_fault names why)
accept_is_none names (accept.Unbalanced c) = λ e. cc
accept_is_none names (accept.TooLarge c) = λ e. cc
accept_is_none names accept.Deadlock = λ e. cc
accept_is_none names accept.TooTight = λ e. cc
accept_is_none names accept.Memory = λ e. cc

unread_is_none : (stream : DeviceName) (why : InputFault) → IsNoUse (unread stream why)
unread_is_none stream input.Read = λ e. cc
unread_is_none stream input.TooLong = λ e. cc
unread_is_none stream input.Memory = λ e. cc

abbrev failed : ToolFault → Result (List ℕ) ToolFault
failed f = Err f

-- a fault that an answer has is none
same_fault : (f g : ToolFault) (answer : Result (List ℕ) ToolFault) → answer ≡ Err f → answer ≡ Err g → IsNoUse g → IsNoUse f
same_fault f g answer has same none = let is : f ≡ g = cc in subst IsNoUse (sym is) none

lines_are_none : (g : Graph) (n : ℕ) (texts : List (List ℕ)) (f : ToolFault) → lines_from g n texts ≡ Err f → IsNoUse f
lines_are_none g n [] f is = absurd (cc)
lines_are_none g n (text ∷ texts) f is = at_line (line_in g text) is (lines_are_none g (suc n) texts)
  where
    rest : (line : Line) (lines : Result (List Line) ToolFault) → lines ≡ lines_from g (suc n) texts
        → (lines >>= λ more. Ok (line ∷ more)) ≡ Err f → ((e : ToolFault) → lines_from g (suc n) texts ≡ Err e → IsNoUse e) → IsNoUse f
    rest line (Ok more) same here others = absurd (cc)
    rest line (Err other) same here others = let is : other ≡ f = cc in subst IsNoUse is (others other (sym same))

    at_line : (line : Option Line) → (or_line n line >>= λ one. lines_from g (suc n) texts >>= λ more. Ok (one ∷ more)) ≡ Err f
        → ((e : ToolFault) → lines_from g (suc n) texts ≡ Err e → IsNoUse e) → IsNoUse f
    at_line None here others = let is : fault.Line n ≡ f = cc in λ e. let no : 1 ≡ 2 = ap status_of is ∙ e in cc
    at_line (Some line) here others = rest line (lines_from g (suc n) texts) refl here others

-- ---- answers

refused_is_none : (g : Graph) (f : ToolFault) → RefusesGraph g f → IsNoUse f
refused_is_none g f (why, not, some, is) = subst IsNoUse (sym is) (accept_is_none _ why)

replay_is_none : (g : Graph) (script : Script) (f : ToolFault) → IsReplayOf g script (Err f) → IsNoUse f
replay_is_none g script f h = by (lines_from g 0 script.lines) refl h
  where
    by : (lines : Result (List Line) ToolFault) → lines_from g 0 script.lines ≡ lines
        → MatchResult lines (λ lines. IsReplay g script lines (Err f)) (λ other. failed f ≡ failed other) → IsNoUse f
    by (Ok lines) same replay = refused_is_none g f replay
    by (Err other) same is = same_fault f _ _ refl is (lines_are_none g 0 script.lines other same)

answer_is_none : (bytes : List ℕ) (f : ToolFault) → IsAnswer bytes (Err f) → IsNoUse f
answer_is_none bytes f (Err why, of, is) = same_fault f _ _ refl is (graph_is_none why)
answer_is_none bytes f (Ok g, of, is) = by (script_of bytes) is
  where
    by : (script : Result Script GraphFault) → MatchResult script (λ script. IsReplayOf g script (Err f)) (λ why. failed f ≡ failed (fault_of why)) → IsNoUse f
    by (Ok script) replay = replay_is_none g script f replay
    by (Err why) is = same_fault f _ _ refl is (graph_is_none why)

refuses_is_none : (q : Question) (g : Graph) (f : ToolFault) → Refuses q g f → IsNoUse f
refuses_is_none question.Check g f (why, not, some, is) = subst IsNoUse (sym is) (accept_is_none _ why)
refuses_is_none question.Repetition g f (why, not, some, is) = subst IsNoUse (sym is) (accept_is_none _ why)
refuses_is_none question.Schedule g f refused = refused_is_none g f refused
refuses_is_none question.Capacity g f refused = refused_is_none g f refused
refuses_is_none question.Dot g f refused = refused_is_none g f refused

description_is_none : (form : Form) (q : Question) (room : Room) (bytes : List ℕ) (f : ToolFault) → IsDescriptionAs form q room bytes (Err f) → IsNoUse f
description_is_none form q room bytes f (Ok g, of, refused) = refuses_is_none q g f refused
description_is_none form q room bytes f (Err why, of, is) = same_fault f _ _ refl is (graph_is_none why)

-- ---- causes

given_is_none : (word : List ℕ) (d : Devices) (failed : Bool) (f : ToolFault) → IsNotGiven word d failed f → IsNoUse f
given_is_none word d failed f (inl memory) = λ e. let no : 3 ≡ 2 = sym (ap status_of memory) ∙ e in cc
given_is_none word d failed f (inr (why, missing, is)) = subst IsNoUse (sym is) (unread_is_none _ why)

module _ (IsAnswerTo : List ℕ → Result (List ℕ) ToolFault → Type 0) (none : (bytes : List ℕ) (f : ToolFault) → IsAnswerTo bytes (Err f) → IsNoUse f) where
  unanswered_is_none : (bytes : List ℕ) (m : Marks) (f : ToolFault) → IsUnanswered IsAnswerTo bytes m f → IsNoUse f
  unanswered_is_none bytes m f (inl answer) = none bytes f answer
  unanswered_is_none bytes m f (inr (text, answer, output, failed)) = λ e. let no : 3 ≡ 2 = sym (ap status_of output) ∙ e in cc

  lacks_is_none : (word : List ℕ) (d : Devices) (m : Marks) (f : ToolFault) → LacksAnswer IsAnswerTo word d m f → IsNoUse f
  lacks_is_none word d m f (inl missing) = given_is_none word d m.input f missing
  lacks_is_none word d m f (inr (bytes, given, unanswered)) = unanswered_is_none bytes m f unanswered

unexplained_is_none : (word : List ℕ) (folder : Option (List ℕ)) (d : Devices) (m : Marks) (f : ToolFault) → LacksExplanation word folder d m f → IsNoUse f
unexplained_is_none word folder d m f (inl missing) = given_is_none word d m.input f missing.0
unexplained_is_none word folder d m f (inr (inl unexplained)) = λ e. let no : 3 ≡ 2 = sym (ap status_of unexplained.told) ∙ e in cc
unexplained_is_none word folder d m f (inr (inr (inl (unread, told)))) = λ e. let no : 3 ≡ 2 = sym (ap status_of told) ∙ e in cc
unexplained_is_none word folder d m f (inr (inr (inr (why, unread, told, failed)))) = λ e. let no : 3 ≡ 2 = sym (ap status_of told) ∙ e in cc

-- ---- a run and words that lack something

feed_is_none : (name : List ℕ) (why : InputFault) → IsNoUse (feed_fault name why)
feed_is_none name input.Read = λ e. cc
feed_is_none name input.TooLong = λ e. cc
feed_is_none name input.Memory = λ e. cc

token_is_none : (name : List ℕ) (why : TokenFault) → IsNoUse (token_fault name why)
token_is_none name (token.Syntax line) = λ e. cc
token_is_none name (token.Range line) = λ e. cc
token_is_none name token.TooMany = λ e. cc
token_is_none name token.Read = λ e. cc
token_is_none name token.Memory = λ e. cc

run_is_none : (why : NoOutcome) → IsNoUse (run_fault why)
run_is_none run.Memory = λ e. cc
run_is_none run.Worker = λ e. cc

tokens_is_none : (g : Graph) (why : TokensFault) → IsNoUse (tokens_fault g why)
tokens_is_none g (tokens.Accept why) = accept_is_none _ why
tokens_is_none g (tokens.Feed feed) = token_is_none _ feed.fault
tokens_is_none g (tokens.Run why) = run_is_none why

put_is_none : (name : List ℕ) (why : PutFault) → IsNoUse (put_fault name why)
put_is_none name put.Device = λ e. cc
put_is_none name put.Memory = λ e. cc

module _ (l : Lack) where
  abbrev lacks : ToolFault
  lacks = fault.Lacks l

  -- it is none of these
  other : (f : ToolFault) → lacks ≡ f → IsNoUse f → ⊥
  other f same none = none (sym (ap status_of same))

  lack_of_graph : (order : Order) (bytes : List ℕ) (d : Devices) → StopsOnGraph order bytes d lacks → ⊥
  lack_of_graph order bytes d (inl (why, of, files, told)) = other (fault_of why) told (graph_is_none why)
  lack_of_graph order bytes d (inr (g, of, inl (acts, files, lacking))) = other _ lacking.told (feed_is_none lacking.actor.name lacking.why)
  lack_of_graph order bytes d (inr (g, of, inr (inl places))) = let no : lacks ≡ fault.InUse places.in_use.file.name = places.in_use.told in cc
  lack_of_graph order bytes d (inr (g, of, inr (inr texts))) = other _ texts.refuses.2 (tokens_is_none g texts.refuses.0)

  lack_before : (order : Order) (d : Devices) (failed : Bool) → StopsRun order d failed lacks → ⊥
  lack_before order d failed (inl missing) = given_is_none order.graph d failed lacks missing refl
  lack_before order d failed (inr (bytes, named, stops)) = lack_of_graph order bytes d stops

  lack_unput : (file : Written) (acts : List Act) → IsUnput file acts lacks → ⊥
  lack_unput file acts (inl none) = let no : lacks ≡ fault.Memory = none.1 in cc
  lack_unput file acts (inr some) = other _ some.2 (put_is_none file.name some.0)

  lack_cut : (files : List Written) (many : ℕ) (last : List Act)
      → ((last ≡ []) × (lacks ≡ fault.Memory)) ⊎ ((file : Written) × (many < length files) × (get_or files many file ≡ file) × IsUnput file last lacks) → ⊥
  lack_cut files many last (inl none) = let no : lacks ≡ fault.Memory = none.1 in cc
  lack_cut files many last (inr some) = lack_unput some.0 last some.3

  lack_of_run : (order : Order) (d : Devices) (m : Marks) → EndsOnFiles order d m lacks → ⊥
  lack_of_run order d m (inl before) = lack_before order d m.input before.why
  lack_of_run order d m (inr (inl among)) = lack_cut (files_of order among.graph among.outcome) among.cut.many among.cut.last among.cut.cut
  lack_of_run order d m (inr (inr after)) = let no : lacks ≡ fault.Device _ = after.0 in cc

-- ---- what is asked for

-- it is a run or a stream, where the fault is of the words
pub words_of_files : (asks : Asked) (d : Devices) (t : Through) (m : Marks) (f : ToolFault) → IsCauseOf asks d t m f → status_of f ≡ 2 → asks_files asks ≡ true
words_of_files Input d t m f cause two = absurd (lacks_is_none IsAnswer answer_is_none (codes "-") d m f cause two)
words_of_files (Moves path) d t m f cause two = absurd (lacks_is_none IsAnswer answer_is_none path d m f cause two)
words_of_files (Ask q form room path) d t m f cause two =
    absurd (lacks_is_none (IsDescriptionAs form q room) (description_is_none form q room) path d m f cause two)
words_of_files (Explain path folder) d t m f cause two = absurd (unexplained_is_none path folder d m f cause two)
words_of_files (Run order) d t m f cause two = refl
words_of_files (Flow order) d t m f cause two = refl

-- it is a stream, where they lack something
pub lack_of_stream : (asks : Asked) (d : Devices) (t : Through) (m : Marks) (l : Lack) → IsCauseOf asks d t m (fault.Lacks l) → asks_stream asks ≡ true
lack_of_stream Input d t m l cause = absurd (lacks_is_none IsAnswer answer_is_none (codes "-") d m _ cause refl)
lack_of_stream (Moves path) d t m l cause = absurd (lacks_is_none IsAnswer answer_is_none path d m _ cause refl)
lack_of_stream (Ask q form room path) d t m l cause = absurd (lacks_is_none (IsDescriptionAs form q room) (description_is_none form q room) path d m _ cause refl)
lack_of_stream (Explain path folder) d t m l cause = absurd (unexplained_is_none path folder d m _ cause refl)
lack_of_stream (Run order) d t m l cause = absurd (lack_of_run l order d m cause)
lack_of_stream (Flow order) d t m l cause = refl

-- what ends with status 2
module _ (asks : Asked) (d : Devices) (t : Through) (m : Marks) {form : Form} {status : ℕ} {before after : Option (List ℕ)} {failed : Bool}
    (of : IsOfWords (λ f. IsCauseOf asks d t m f × EndsAs form f status before after failed)) where
  pub two_is_told : EndsInUse form status before after failed ⊎ ((asks_stream asks ≡ true) × EndsLacking form status before after failed)
  two_is_told = elim of [
    | inl used ↦ inl (used.0, used.1.1)
    | inr lacking ↦ inr (lack_of_stream asks d t m lacking.0 lacking.1.0, (lacking.0, lacking.1.1))
  ]

  pub two_is_of_files : asks_files asks ≡ true
  two_is_of_files = elim of [
    | inl used ↦ words_of_files asks d t m (fault.InUse used.0) used.1.0 refl
    | inr lacking ↦ words_of_files asks d t m (fault.Lacks lacking.0) lacking.1.0 refl
  ]
