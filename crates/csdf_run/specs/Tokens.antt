-- A run over tokens that were read from texts, and what is told of it.
use Rattle.std.specs.Prelude.{ℕ, ◌≡◌, List, [], ◌∷◌, ◌++◌, ℤ, Option, Result, Ok, Err, length}
use Rattle.std.specs.Global.{Vec}
use Rattle.std.specs.Result.{result_map_both}
use Rattle.csdf_bytes.specs.declared.tokens.TokenFault.{TokenFault}
use Rattle.csdf_model.specs.Graph.{Actor, Graph}
use Rattle.csdf_analysis.specs.Acceptance.{Accepted, IsNotAccepted}
use Rattle.csdf_analysis.specs.declared.length.Length.{Length}
use Rattle.csdf_analysis.specs.declared.room.Room.{Room}
use Rattle.csdf_floor.specs.declared.ending.Ending.TheVariants.{Complete}
use Rattle.csdf_floor.specs.declared.outcome.Outcome.{Outcome}
use Rattle.csdf_floor.specs.Journal.{program_for}
use Rattle.csdf_floor.specs.Outcome.{IsOutcome, sequential_list}
use Rattle.csdf_floor.specs.Sequential.{IsSequential}
use Rattle.csdf_floor.specs.Work.{feeds_in}
use Rattle.csdf_run.specs.declared.tokens.FeedFault.{FeedFault}
use Rattle.csdf_run.specs.declared.tokens.TokensFault.{TokensFault}
use Rattle.csdf_run.specs.declared.tokens.TokensFault.TheVariants as fault
use Rattle.csdf_run.specs.Causes.{IsWantAmong}
use Rattle.csdf_run.specs.Texts.{◌>>=◌, AreTextsBeside, AreTextsOf, GoesOnFor, IsFileWhere, IsInRoom, feeds_from, sink_texts, sinks_among, source_count, work_for}

-- ---- what is read

-- the tokens for each actor, or the first source whose text is refused and why
abbrev pub read_in : Result (Vec (Vec ℤ)) FeedFault → Result (List (List ℤ)) (ℕ × TokenFault)
read_in read = result_map_both (λ (feeds : Vec (Vec ℤ)). feeds_in feeds.items) (λ (why : FeedFault). (why.actor, why.fault)) read

-- what was told of a source by its number
abbrev pub told_at : ℕ → Result (List ℤ) TokenFault → Result (List ℤ) (ℕ × TokenFault)
told_at a told = result_map_both (λ tokens. tokens) (λ why. (a, why)) told

-- the tokens for some actors, and then those for one more; or the first fault
abbrev pub with_last : Result (List (List ℤ)) (ℕ × TokenFault) → Result (List ℤ) (ℕ × TokenFault) → Result (List (List ℤ)) (ℕ × TokenFault)
with_last read last = read >>= λ front. last >>= λ feed. Ok (front ++ feed ∷ [])

-- this was read from one text for each source
pub record AreReadOf (actors : List Actor) (texts : List (List ℕ)) (read : Result (Vec (Vec ℤ)) FeedFault) : Type 0 where
  pub each_source : length texts ≡ source_count actors
  pub tokens : feeds_from 0 actors texts ≡ read_in read

-- ---- what is told

-- the outcome of a run of the graph, accepted with this room, over the texts' tokens, which goes on so long
pub record IsGraphRun (room : Room) (g : Graph) (texts : List (List ℕ)) (how_long : Length) (firings : Option ℕ) (o : Outcome) : Type 0 where
  pub accepted : Accepted
  pub feeds : List (List ℤ)
  pub periods : ℕ
  pub goes_on : GoesOnFor how_long accepted periods
  pub read : AreTextsOf room g texts accepted feeds
  pub outcome : IsOutcome (work_for accepted feeds periods firings) o

-- the same of a run of the file's graph
abbrev pub IsRunOf : Room → List ℕ → List (List ℕ) → Length → Option ℕ → Outcome → Type 0
IsRunOf room bytes texts how_long firings o = IsFileWhere bytes (λ g. IsGraphRun room g texts how_long firings o)

-- the written texts of what the sinks took are those of the sequential run of the graph over the texts' tokens, or of a front of it
pub record IsSequentialGraphRun (room : Room) (g : Graph) (texts : List (List ℕ)) (how_long : Length) (firings : Option ℕ) (o : Outcome) : Type 0 where
  pub accepted : Accepted
  pub feeds : List (List ℤ)
  pub periods : ℕ
  pub goes_on : GoesOnFor how_long accepted periods
  pub read : AreTextsOf room g texts accepted feeds
  pub sinks : (run : List ℕ) → IsSequential (program_for accepted feeds periods firings) run
      → AreTextsBeside o.ending (sequential_list (program_for accepted feeds periods firings) run) (sinks_among accepted.graph.actors)
      (sink_texts accepted.graph.actors (feeds_in o.sinks.items))

-- the same of the sequential run of the file's graph
abbrev pub IsSequentialRunOf : Room → List ℕ → List (List ℕ) → Length → Option ℕ → Outcome → Type 0
IsSequentialRunOf room bytes texts how_long firings o = IsFileWhere bytes (λ g. IsSequentialGraphRun room g texts how_long firings o)

-- any other run of the same graph over the same texts that goes on as long, in whatever room and with whatever limit on all firings, has the same sinks where both
-- are complete
abbrev pub IsGraphRunSameInAnyRoom : Graph → List (List ℕ) → Length → Outcome → Type 0
IsGraphRunSameInAnyRoom g texts how_long o =
    (room : Room) (firings : Option ℕ) (other : Outcome) → IsGraphRun room g texts how_long firings other → o.ending ≡ Complete → other.ending ≡ Complete
    → feeds_in o.sinks.items ≡ feeds_in other.sinks.items

-- ---- what is refused

-- why there is no run: that the graph is not accepted comes first, then the first text that is refused, and then the run itself
abbrev pub IsTokensRefusal : Room → Graph → List (List ℕ) → TokensFault → Type 0
IsTokensRefusal room g texts (fault.Accept why) = IsNotAccepted g why
IsTokensRefusal room g texts (fault.Feed why) = ((a : Accepted) × IsInRoom room g a) × (feeds_from 0 g.actors texts ≡ Err (why.actor, why.fault))
IsTokensRefusal room g texts (fault.Run why) = (a : Accepted) × (feeds : List (List ℤ)) × AreTextsOf room g texts a feeds

-- the same of the graph of a file
abbrev pub IsTokensRefusalOf : Room → List ℕ → List (List ℕ) → TokensFault → Type 0
IsTokensRefusalOf room bytes texts why = IsFileWhere bytes (λ g. IsTokensRefusal room g texts why)

-- where it is the run itself that has no outcome, why is what a run by so many workers can end with
abbrev pub IsTokensCause : ℕ → TokensFault → Type 0
IsTokensCause workers (fault.Accept why) = Unit {0}
IsTokensCause workers (fault.Feed why) = Unit {0}
IsTokensCause workers (fault.Run why) = IsWantAmong workers why
