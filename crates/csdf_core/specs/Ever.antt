-- A period of an accepted graph, played on a core over and over.
use Rattle.std.specs.Prelude.{ℕ, zero, suc, ◌≡◌, ◌≤◌, ◌<◌, ◌*◌, ◌%◌, List, [], ◌∷◌, ◌++◌, ℤ, Option, None, IfSome, true, length, take, replicate, slice_index}
use Rattle.std.specs.Prelude.{sum}
use Rattle.std.specs.List.{AllByRecursion}
use Rattle.csdf_analysis.specs.Acceptance.{Accepted, IsAccepted}
use Rattle.csdf_analysis.specs.Period.{fired, IsSchedule, counts_after, no_firings, IsScheduleOf}
use Rattle.csdf_core.specs.declared.stage.Stage.TheVariants.{Idle}
use Rattle.csdf_core.specs.Moves.{Move}
use Rattle.csdf_core.specs.Moves.{Begin, Read, Write, Finish}
use Rattle.csdf_core.specs.Plan.{Plan, HasAmpleCells}
use Rattle.csdf_core.specs.Planned.{plan_for}
use Rattle.csdf_core.specs.Rows.{gift}
use Rattle.csdf_core.specs.State.{State, Present, present, opening}
use Rattle.csdf_core.specs.Step.{Reply, count, stage, given, is_source, refused, replies_of, state_after}
use Rattle.csdf_core.specs.Streams.{AreWithin, initial, length_of, part}
use Rattle.csdf_model.specs.Graph.{phases_of}

-- the moves begin with a whole firing of the actor, its number k, and go on with the rest; it writes any tokens, as many as the firing gives
pub record IsFiring (plan : Plan) (a k : ℕ) (moves rest : List Move) : Type 0 where
  pub tokens : List ℤ
  pub whole : length tokens ≡ gift a k plan.channels
  pub four : moves ≡ Begin a ∷ Read a ∷ Write a tokens ∷ Finish a ∷ rest

-- the moves are those of whole firings of these actors, one after another, where each has finished so many before
abbrev pub AreFirings : Plan → List ℕ → List ℕ → List Move → Type 0
AreFirings plan n [] moves = moves ≡ []
AreFirings plan n (a ∷ actors) moves = (rest : List Move) × IsFiring plan a (slice_index n a) moves rest × AreFirings plan (fired n a) actors rest

-- a list so many times
abbrev pub repeated : ℕ → List ℕ → List ℕ
repeated zero actors = []
repeated (suc m) actors = actors ++ repeated m actors

-- no actor has finished a firing
abbrev pub none_finished : Plan → List ℕ
none_finished plan = replicate (length plan.sources) 0

-- the moves are those of so many periods, each by this schedule
abbrev pub ArePeriods : Plan → List ℕ → ℕ → List Move → Type 0
ArePeriods plan schedule periods moves = AreFirings plan (none_finished plan) (repeated periods schedule) moves

-- so many periods may be played: by each actor's limit, by the tokens in the sources' files, and by the limit on all firings, where there is one
pub record Allows (plan : Plan) (q : List ℕ) (periods : ℕ) : Type 0 where
  pub limits : (b : ℕ) → periods * slice_index q b ≤ slice_index plan.limits b
  pub supplies : (b : ℕ) → is_source plan b ≡ true → given plan b (periods * slice_index q b) ≤ slice_index plan.supplies b
  pub firings : IfSome plan.firings (λ most. periods * sum q ≤ most)

-- the end of a period: every channel holds as many tokens as at first, each actor has finished its firings of so many periods, and all are idle
pub record IsPeriodEnd (plan : Plan) (q : List ℕ) (periods : ℕ) (s : State) : Type 0 where
  pub held : (c : ℕ) → length_of s c ≡ length (initial plan c)
  pub counts : (b : ℕ) → count (present s) b ≡ periods * slice_index q b
  pub idle : (b : ℕ) → stage (present s) b ≡ Idle

-- no move is refused; no channel ever holds more than its capacity; each period ends as it should, and so does the last
pub record Runs (plan : Plan) (q schedule : List ℕ) (periods : ℕ) (moves : List Move) : Type 0 where
  pub accepted : AllByRecursion (λ (r : Reply). refused r ≡ None) (replies_of plan (opening plan) moves)
  pub within : (k : ℕ) → AreWithin plan (state_after plan (opening plan) (take k moves))
  pub each : (i : ℕ) → i ≤ periods → IsPeriodEnd plan q i (state_after plan (opening plan) (take (i * (4 * length schedule)) moves))
  pub ends : IsPeriodEnd plan q periods (state_after plan (opening plan) moves)

-- the list lets each actor fire as often as in a period, each at a place where it is able to
pub record IsPeriod (a : Accepted) (schedule : List ℕ) : Type 0 where
  pub able : IsSchedule a.graph.channels a.capacities (no_firings a.q) schedule
  pub leads : counts_after (no_firings a.q) schedule ≡ a.q

-- a core whose cells are at least the sum of the capacities can play it over and over, as often as the limits and the files allow
abbrev pub Lasts : Accepted → List ℕ → Type 0
Lasts a schedule =
    (limits supplies : List ℕ) (firings : Option ℕ) (periods : ℕ) (moves : List Move)
    → HasAmpleCells (plan_for a limits supplies firings) → Allows (plan_for a limits supplies firings) a.q periods
    → ArePeriods (plan_for a limits supplies firings) schedule periods moves → Runs (plan_for a limits supplies firings) a.q schedule periods moves

-- an accepted graph runs for ever in bounded buffers: any schedule of a period lasts
abbrev pub RunsForEver : Type 0
RunsForEver = (a : Accepted) (schedule : List ℕ) → IsAccepted a → IsPeriod a schedule → Lasts a schedule

-- none of the replies is a refusal, and what is present is as it was at first, but for the counts
pub record IsAsAtFirst (plan : Plan) (q : List ℕ) (periods : ℕ) (now : Present) (replies : List Reply) : Type 0 where
  pub accepted : AllByRecursion (λ (r : Reply). refused r ≡ None) replies
  pub held : (c : ℕ) → length (part c now.tokens) ≡ length (initial plan c)
  pub counts : (b : ℕ) → count now b ≡ periods * slice_index q b
  pub idle : (b : ℕ) → stage now b ≡ Idle

-- where the moves are those of so many periods of the accepted graph, none was refused, and the core is as it was at first, but for the counts
abbrev pub EndsPeriods : Accepted → Plan → Present → List Move → List Reply → Type 0
EndsPeriods a plan now moves replies =
    (schedule : List ℕ) (periods : ℕ) → IsAccepted a → IsPeriod a schedule
    → HasAmpleCells plan → Allows plan a.q periods → ArePeriods plan schedule periods moves
    → IsAsAtFirst plan a.q periods now replies

-- the printed schedule is one of a period
abbrev pub PrintedIsPeriod : Type 0
PrintedIsPeriod = (a : Accepted) (schedule : List ℕ) → IsScheduleOf a.graph.channels a.q a.capacities schedule → IsPeriod a schedule

-- an accepted graph has one
abbrev pub HasPeriod : Type 0
HasPeriod = (a : Accepted) → IsAccepted a → (schedule : List ℕ) × IsPeriod a schedule

-- a graph that gives no number of cells has enough
abbrev pub AmpleByDefault : Type 0
AmpleByDefault = (a : Accepted) (limits supplies : List ℕ) (firings : Option ℕ) → IsAccepted a → a.graph.cells ≡ None
    → HasAmpleCells (plan_for a limits supplies firings)

-- the whole firings of these actors, where firing k of actor a writes `tokens a k`
abbrev pub whole_firings : (ℕ → ℕ → List ℤ) → List ℕ → List ℕ → List Move
whole_firings tokens n [] = []
whole_firings tokens n (a ∷ actors) = Begin a ∷ Read a ∷ Write a (tokens a (slice_index n a)) ∷ Finish a ∷ whole_firings tokens (fired n a) actors

-- such moves there are, whatever tokens are written
abbrev pub HasFirings : Type 0
HasFirings = (plan : Plan) (tokens : ℕ → ℕ → List ℤ) (n actors : List ℕ) → ((a k : ℕ) → length (tokens a k) ≡ gift a k plan.channels)
    → AreFirings plan n actors (whole_firings tokens n actors)

-- the phases are as at first
abbrev pub PhasesReturn : Type 0
PhasesReturn = (a : Accepted) (periods b : ℕ) → IsAccepted a → b < length a.q → (periods * slice_index a.q b) % phases_of a.graph.actors b ≡ 0
