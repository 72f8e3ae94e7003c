-- A run from texts to texts: a graph file and the tokens for its sources, and what is told of the run.
use Rattle.std.specs.Prelude.{ℕ, suc, ◌≡◌, ◌≢◌, ◌⊎◌, ◌≤◌, if◌then◌else◌, List, [], ◌∷◌, ℤ, Option, Result, Ok, Err, count_by, drop, length, map, option_map, slice_index_or}
use Rattle.std.specs.Global.{Vec}
use Rattle.std.specs.Result.{result_map_both}
use Rattle.csdf_graph.specs.declared.fault.GraphFault.TheVariants as graph
use Rattle.csdf_bytes.specs.declared.tokens.TokenFault.{TokenFault}
use Rattle.csdf_bytes.specs.declared.tokens.TokenFault.TheVariants as token
use Rattle.csdf_model.specs.Graph.{Actor, Graph, numbers_from}
use Rattle.csdf_graph.specs.GraphText.{IsGraphOf}
use Rattle.csdf_bytes.specs.TokenText.{token_text, tokens_in}
use Rattle.csdf_analysis.specs.Acceptance.{Accepted, IsAccepted, IsNotAccepted}
use Rattle.csdf_analysis.specs.declared.room.Room.{Room}
use Rattle.csdf_analysis.specs.Room.{IsWithRoom}
use Rattle.csdf_core.specs.Planned.{is_source_kernel}
use Rattle.csdf_core.specs.Streams.{IsPrefix}
use Rattle.csdf_floor.specs.declared.ending.Ending.{Ending}
use Rattle.csdf_floor.specs.declared.ending.Ending.TheVariants.{Complete, Stopped, Starved, Dry}
use Rattle.csdf_floor.specs.declared.outcome.Outcome.{Outcome}
use Rattle.csdf_run.specs.declared.texts.Texts.{Texts}
use Rattle.csdf_run.specs.declared.texts.TextsFault.{TextsFault}
use Rattle.csdf_run.specs.declared.texts.TextsFault.TheVariants as fault
use Rattle.csdf_floor.specs.Journal.{program_for}
use Rattle.csdf_floor.specs.Outcome.{IsOutcome, sequential_list}
use Rattle.csdf_floor.specs.Report.{names_of, report_text}
use Rattle.csdf_floor.specs.Sequential.{IsSequential}
use Rattle.csdf_floor.specs.Work.{Work, HasFewFirings, IsMostPeriods, feed_of, feeds_in, is_sink_kernel}
use Rattle.csdf_run.specs.Causes.{IsCauseAmong}
use Rattle.csdf_run.specs.Scripts.{kept_script}
use Rattle.csdf_analysis.specs.declared.length.Length.{Length}
use Rattle.csdf_analysis.specs.declared.length.Length.TheVariants.{Periods, UntilDry}

-- the contents of texts
abbrev pub texts_in : List (Vec ℕ) → List (List ℕ)
texts_in texts = map (λ (text : Vec ℕ). text.items) texts

-- ---- what is read

-- the bytes are the file of a graph, and this holds of that graph
pub record IsFileWhere (bytes : List ℕ) (P : Graph → Type 0) : Type 0 where
  pub graph : Graph
  pub read : IsGraphOf bytes (Ok graph)
  pub holds : P graph

-- this is the graph, as accepted with this room
pub record IsInRoom (room : Room) (g : Graph) (a : Accepted) : Type 0 where
  pub roomy : IsWithRoom room a.q g a.graph
  pub accepted : IsAccepted a

-- the bytes are the file of a graph, and this is it as accepted with this room
abbrev pub IsFileOf : Room → List ℕ → Accepted → Type 0
IsFileOf room bytes a = IsFileWhere bytes (λ g. IsInRoom room g a)

-- the graph that is handed back is the one that was handed in, or that as accepted with this room
abbrev pub IsHandedBack : Room → Graph → Graph → Type 0
IsHandedBack room g h = (h ≡ g) ⊎ ((a : Accepted) × IsInRoom room g a × (h ≡ a.graph))

-- a run goes on for so many periods of the graph
abbrev pub GoesOnFor : Length → Accepted → ℕ → Type 0
GoesOnFor (Periods n) a periods = periods ≡ n
GoesOnFor UntilDry a periods = IsMostPeriods a periods

-- a run of an accepted graph may go on so long: however many periods that is, there are some, and few firings in them
abbrev pub MayGoOnOver : Length → Accepted → Type 0
MayGoOnOver how_long a = (periods : ℕ) → GoesOnFor how_long a periods → (1 ≤ periods) × HasFewFirings a periods

-- a run of the graph may go on so long
abbrev pub MayGraphGoOn : Room → Graph → Length → Type 0
MayGraphGoOn room g (Periods n) = (1 ≤ n) × ((a : Accepted) → IsInRoom room g a → HasFewFirings a n)
MayGraphGoOn room g UntilDry = Unit {0}

-- a run of the file's graph may go on so long
abbrev pub MayGoOn : Room → List ℕ → Length → Type 0
MayGoOn room bytes (Periods n) = (1 ≤ n) × ((a : Accepted) → IsFileOf room bytes a → HasFewFirings a n)
MayGoOn room bytes UntilDry = Unit {0}

-- how many sources there are
abbrev pub source_count : List Actor → ℕ
source_count actors = count_by (λ (actor : Actor). is_source_kernel actor.kernel) actors

infixl 10 ◌>>=◌
abbrev pub ◌>>=◌ : {A B E : Type 0} → Result A E → (A → Result B E) → Result B E
(Ok x) >>= f = f x
(Err e) >>= f = Err e

-- the tokens in the text of actor a, or why there are none
abbrev pub feed_in : ℕ → List ℕ → Result (List ℤ) (ℕ × TokenFault)
feed_in a text = result_map_both (λ tokens. tokens) (λ why. (a, why)) (tokens_in text)

-- the tokens for the actors from number a on: those in one text for each source, in file order,
-- and none for any other actor; or the first source whose text is refused
abbrev pub feeds_from : ℕ → List Actor → List (List ℕ) → Result (List (List ℤ)) (ℕ × TokenFault)
feeds_from a [] texts = Ok []
feeds_from a (actor ∷ actors) texts =
    if is_source_kernel actor.kernel
    then (feed_in a (slice_index_or texts 0 []) >>= λ feed. feeds_from (suc a) actors (drop 1 texts) >>= λ feeds. Ok (feed ∷ feeds))
    else (feeds_from (suc a) actors texts >>= λ feeds. Ok ([] ∷ feeds))

-- the texts hold these tokens for the actors of the graph, which is accepted with this room
pub record AreTextsOf (room : Room) (g : Graph) (texts : List (List ℕ)) (a : Accepted) (feeds : List (List ℤ)) : Type 0 where
  pub in_room : IsInRoom room g a
  pub each_source : length texts ≡ source_count a.graph.actors
  pub tokens : feeds_from 0 a.graph.actors texts ≡ Ok feeds

-- ---- what is refused; want of memory says nothing of the texts

-- the text of actor n is why reading gives nothing
abbrev pub IsReadFault : {A : Type 0} → Result A (ℕ × TokenFault) → TextsFault → Type 0
IsReadFault read (fault.Feed n why) = why ≢ token.Memory → read ≡ Err (n, why)
IsReadFault read fault.FeedCount = ⊥
IsReadFault read (fault.Graph why) = ⊥
IsReadFault read (fault.Accept why) = ⊥
IsReadFault read (fault.Run why) = ⊥

-- why texts hold no tokens for actors: there is not one for each source, or the first that is refused
abbrev pub IsFeedFault : List Actor → List (List ℕ) → TextsFault → Type 0
IsFeedFault actors texts fault.FeedCount = length texts ≢ source_count actors
IsFeedFault actors texts (fault.Feed n why) = (length texts ≡ source_count actors) × IsReadFault (feeds_from 0 actors texts) (fault.Feed n why)
IsFeedFault actors texts (fault.Graph why) = ⊥
IsFeedFault actors texts (fault.Accept why) = ⊥
IsFeedFault actors texts (fault.Run why) = ⊥

-- why there is no run of a graph: that it is not accepted comes first, then the texts, and then the run itself
abbrev pub IsGraphRefusal : Room → Graph → List (List ℕ) → TextsFault → Type 0
IsGraphRefusal room g texts (fault.Graph why) = ⊥
IsGraphRefusal room g texts (fault.Accept why) = IsNotAccepted g why
IsGraphRefusal room g texts fault.FeedCount = (a : Accepted) × IsInRoom room g a × IsFeedFault a.graph.actors texts fault.FeedCount
IsGraphRefusal room g texts (fault.Feed n why) = (a : Accepted) × IsInRoom room g a × IsFeedFault a.graph.actors texts (fault.Feed n why)
IsGraphRefusal room g texts (fault.Run why) = (a : Accepted) × (feeds : List (List ℤ)) × AreTextsOf room g texts a feeds

-- where it is the run itself that has no outcome, why is what a run by so many workers can end with
abbrev pub IsRunCause : ℕ → TextsFault → Type 0
IsRunCause workers (fault.Graph why) = Unit {0}
IsRunCause workers (fault.Accept why) = Unit {0}
IsRunCause workers fault.FeedCount = Unit {0}
IsRunCause workers (fault.Feed n why) = Unit {0}
IsRunCause workers (fault.Run why) = IsCauseAmong workers why

-- why there is no run: the file comes first, and then its graph
abbrev pub IsRefusal : Room → List ℕ → List (List ℕ) → TextsFault → Type 0
IsRefusal room bytes texts (fault.Graph why) = why ≢ graph.Memory → IsGraphOf bytes (Err why)
IsRefusal room bytes texts (fault.Accept why) = IsFileWhere bytes (λ g. IsGraphRefusal room g texts (fault.Accept why))
IsRefusal room bytes texts fault.FeedCount = IsFileWhere bytes (λ g. IsGraphRefusal room g texts fault.FeedCount)
IsRefusal room bytes texts (fault.Feed n why) = IsFileWhere bytes (λ g. IsGraphRefusal room g texts (fault.Feed n why))
IsRefusal room bytes texts (fault.Run why) = IsFileWhere bytes (λ g. IsGraphRefusal room g texts (fault.Run why))

-- ---- what is told

-- the numbers of the sinks, in file order
abbrev pub sinks_among : List Actor → List ℕ
sinks_among actors = numbers_from 0 (λ (actor : Actor). is_sink_kernel actor.kernel) actors

-- the written text of list number a
abbrev pub text_at : List (List ℤ) → ℕ → List ℕ
text_at lists a = token_text (feed_of lists a)

-- the written text of each sink's list, in file order
abbrev pub sink_texts : List Actor → List (List ℤ) → List (List ℕ)
sink_texts actors lists = map (text_at lists) (sinks_among actors)

-- so many periods of an accepted graph over these tokens
abbrev pub work_for : Accepted → List (List ℤ) → ℕ → Option ℕ → Work
work_for a feeds periods firings = record { accepted = a; feeds = feeds; periods = periods; firings = firings }

-- the texts tell an outcome of this work
pub record TellOutcome (w : Work) (o : Outcome) (t : Texts) : Type 0 where
  pub outcome : IsOutcome w o
  pub ending : t.ending ≡ o.ending
  pub sinks : texts_in t.sinks.items ≡ sink_texts w.accepted.graph.actors (feeds_in o.sinks.items)
  pub report : t.report.items ≡ report_text (names_of w.accepted.graph.channels) o.ending o.report.items
  pub channels : t.channels.items ≡ o.report.items
  pub journal : option_map (λ (text : Vec ℕ). text.items) t.journal ≡ kept_script w.accepted.graph o.journal

-- the texts tell an outcome of a run of the graph, accepted with this room, over the texts' tokens, which goes on so long
pub record TellGraphRun (room : Room) (g : Graph) (texts : List (List ℕ)) (how_long : Length) (firings : Option ℕ) (t : Texts) : Type 0 where
  pub accepted : Accepted
  pub feeds : List (List ℤ)
  pub periods : ℕ
  pub outcome : Outcome
  pub goes_on : GoesOnFor how_long accepted periods
  pub read : AreTextsOf room g texts accepted feeds
  pub told : TellOutcome (work_for accepted feeds periods firings) outcome t

-- the same of a run of the file's graph
abbrev pub TellRun : Room → List ℕ → List (List ℕ) → Length → Option ℕ → Texts → Type 0
TellRun room bytes texts how_long firings t = IsFileWhere bytes (λ g. TellGraphRun room g texts how_long firings t)

-- ---- beside the sequential run

-- the written text of a list, or of a front of it where the limit on all firings or want of cells held the run back
abbrev pub IsTextBeside : Ending → List ℤ → List ℕ → Type 0
IsTextBeside Complete list text = text ≡ token_text list
IsTextBeside Dry list text = text ≡ token_text list
IsTextBeside Stopped list text = (front : List ℤ) × IsPrefix front list × (text ≡ token_text front)
IsTextBeside Starved list text = (front : List ℤ) × IsPrefix front list × (text ≡ token_text front)

-- the same of each sink's text, where list has what each sink takes
abbrev pub AreTextsBeside : Ending → (ℕ → List ℤ) → List ℕ → List (List ℕ) → Type 0
AreTextsBeside ending list [] [] = Unit {0}
AreTextsBeside ending list [] (text ∷ texts) = ⊥
AreTextsBeside ending list (a ∷ sinks) [] = ⊥
AreTextsBeside ending list (a ∷ sinks) (text ∷ texts) = IsTextBeside ending (list a) text × AreTextsBeside ending list sinks texts

-- the sinks' texts are those of the sequential run of the graph over the texts' tokens, or of a front of it
pub record TellSequentialGraphRun (room : Room) (g : Graph) (texts : List (List ℕ)) (how_long : Length) (firings : Option ℕ) (t : Texts) : Type 0 where
  pub accepted : Accepted
  pub feeds : List (List ℤ)
  pub periods : ℕ
  pub goes_on : GoesOnFor how_long accepted periods
  pub read : AreTextsOf room g texts accepted feeds
  pub sinks : (run : List ℕ) → IsSequential (program_for accepted feeds periods firings) run
      → AreTextsBeside t.ending (sequential_list (program_for accepted feeds periods firings) run) (sinks_among accepted.graph.actors) (texts_in t.sinks.items)

-- the same of the sequential run of the file's graph
abbrev pub TellSequentialRun : Room → List ℕ → List (List ℕ) → Length → Option ℕ → Texts → Type 0
TellSequentialRun room bytes texts how_long firings t = IsFileWhere bytes (λ g. TellSequentialGraphRun room g texts how_long firings t)

-- ---- beside a run in another room

-- any other run of the same graph over the same texts that goes on as long, in whatever room and with whatever limit on all firings, has the same texts of the
-- sinks where both are complete
abbrev pub TellGraphSameInAnyRoom : Graph → List (List ℕ) → Length → Texts → Type 0
TellGraphSameInAnyRoom g texts how_long t =
    (room : Room) (firings : Option ℕ) (other : Texts) → TellGraphRun room g texts how_long firings other → t.ending ≡ Complete → other.ending ≡ Complete
    → texts_in t.sinks.items ≡ texts_in other.sinks.items

-- any other run of the same file over the same texts that goes on as long, in whatever room and with whatever limit on all firings, has the same texts of the sinks where both are
-- complete
abbrev pub TellSameInAnyRoom : List ℕ → List (List ℕ) → Length → Texts → Type 0
TellSameInAnyRoom bytes texts how_long t =
    (room : Room) (firings : Option ℕ) (other : Texts) → TellRun room bytes texts how_long firings other → t.ending ≡ Complete → other.ending ≡ Complete
    → texts_in t.sinks.items ≡ texts_in other.sinks.items
