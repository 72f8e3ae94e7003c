-- One move on a plain state: the reply, and the next state.
use Rattle.std.specs.Prelude.{ℕ, suc, ◌≡◌, ◌≢◌, ◌<◌, ◌+◌, ◌-◌, ◌==◌, ◌&&◌, ◌||◌, Bool, true, false, not, nat_lt, nat_le, if◌then◌else◌, List, [], ◌∷◌, ◌++◌, ℤ}
use Rattle.std.specs.Prelude.{Option, Some, None, Result, Ok, Err, length, map, sum, sum_by, count_by, slice_index, slice_index_or, slice_set, option_map}
use Rattle.std.specs.List.{zip, range_with_len}
use Rattle.csdf_model.specs.Rates.{total}
use Rattle.csdf_core.specs.declared.stage.Stage.{Stage}
use Rattle.csdf_core.specs.declared.stage.Stage.TheVariants.{Idle, Begun, Fetched, Written}
use Rattle.csdf_core.specs.Moves.{Move}
use Rattle.csdf_core.specs.Moves.{Begin, Read, Write, Finish, Close}
use Rattle.csdf_core.specs.declared.refusal.Refusal.{Refusal}
use Rattle.csdf_core.specs.declared.refusal.Refusal.TheVariants.{Unknown, Busy, Spent, Closed, Dry, Short, Full, Stopped, NoCells, NotBegun, NotRead}
use Rattle.csdf_core.specs.declared.refusal.Refusal.TheVariants.{WrongCount, NotWritten}
use Rattle.csdf_core.specs.Plan.{Channel, Plan, from_at, takes_of}
use Rattle.csdf_core.specs.Rows.{is_closed, is_short, is_full, first, taken, shares, need, gift}
use Rattle.csdf_core.specs.State.{Stream, State, Present, present}

-- an actor's finished firings and its stage
abbrev pub count : Present → ℕ → ℕ
count p a = slice_index p.counts a

abbrev pub stage : Present → ℕ → Stage
stage p a = slice_index_or p.stages a Idle

-- two stages are one
abbrev pub is_stage : Stage → Stage → Bool
is_stage Idle Idle = true
is_stage Begun Begun = true
is_stage Fetched Fetched = true
is_stage Written Written = true
is_stage s t = false

abbrev pub exists : Plan → ℕ → Bool
exists plan a = nat_lt a (length plan.sources)

abbrev pub is_source : Plan → ℕ → Bool
is_source plan a = slice_index_or plan.sources a false

-- how many tokens the first n firings of the actor write
unfoldable pub given : Plan → ℕ → ℕ → ℕ
given plan a n = sum_by (λ (channel : Channel). if channel.from == a then total channel.produce n else 0) plan.channels

-- the actor has made as many firings as it may
abbrev pub is_spent : Plan → Present → ℕ → Bool
is_spent plan p a = nat_le (slice_index plan.limits a) (count p a)

-- a source's file has too few tokens for the next firing
abbrev pub is_dry : Plan → Present → ℕ → Bool
is_dry plan p a = is_source plan a && nat_lt (slice_index plan.supplies a) (given plan a (suc (count p a)))

-- the actor makes no firing more: it is spent or dry
abbrev pub is_over : Plan → Present → ℕ → Bool
is_over plan p a = is_spent plan p a || is_dry plan p a

-- the firings that were begun: those finished, and one for each actor that is not idle
abbrev pub begun_count : Present → ℕ
begun_count p = sum p.counts + count_by (λ s. not (is_stage s Idle)) p.stages

-- a limit, where there is one, that so many firings have come up to
abbrev pub is_reached : Option ℕ → ℕ → Bool
is_reached None firings = false
is_reached (Some limit) firings = nat_le limit firings

-- as many firings have begun as may
abbrev pub is_stopped : Plan → Present → Bool
is_stopped plan p = is_reached plan.firings (begun_count p)

-- the cells that an actor reserves: what its firing will write beyond what it has still to read
abbrev pub reserved_at : Stage → ℕ → ℕ → ℕ
reserved_at Begun needed given = given - needed
reserved_at Fetched needed given = given
reserved_at Idle needed given = 0
reserved_at Written needed given = 0

abbrev pub reserved_by : Plan → Present → ℕ → ℕ
reserved_by plan p a = reserved_at (stage p a) (need a (count p a) plan.channels) (gift a (count p a) plan.channels)

abbrev pub reserved : Plan → Present → ℕ
reserved plan p = sum_by (reserved_by plan p) (range_with_len 0 (length plan.sources))

-- how many tokens wait in all channels
abbrev pub held : Present → ℕ
held p = sum_by length p.tokens

-- a firing that writes more than it reads asks for more cells than there are beside those in use
abbrev pub exceeds : ℕ → ℕ → ℕ → ℕ → Bool
exceeds cells used needed given = nat_lt needed given && nat_lt cells (used + (given - needed))

-- the cells for the firing are held or reserved
abbrev pub lacks_cells : Plan → Present → ℕ → Bool
lacks_cells plan p a = exceeds plan.cells (held p + reserved plan p) (need a (count p a) plan.channels) (gift a (count p a) plan.channels)

-- the producer of a channel, and whether the channel is open
abbrev pub producer : Plan → ℕ → ℕ
producer plan c = from_at plan.channels c

abbrev pub is_open : Present → ℕ → Bool
is_open p c = slice_index_or p.opens c false

abbrev pub when : Bool → Refusal → Option Refusal
when b refusal = if b then Some refusal else None

-- the first refusal of a table that applies
abbrev pub first_of : List (Option Refusal) → Option Refusal
first_of [] = None
first_of (None ∷ table) = first_of table
first_of (Some refusal ∷ table) = Some refusal

-- the tables of refusals, in order
abbrev pub space_table : Plan → Present → ℕ → List (Option Refusal)
space_table plan p a =
    option_map Short (first (is_short a (count p a)) plan.channels p.tokens)
    ∷ option_map Full (first (is_full a (count p a)) plan.channels p.tokens)
    ∷ when (is_stopped plan p) Stopped
    ∷ when (lacks_cells plan p a) NoCells
    ∷ []

abbrev pub firing_table : Plan → Present → ℕ → List (Option Refusal)
firing_table plan p a =
    when (not (is_stage (stage p a) Idle)) Busy
    ∷ when (is_spent plan p a) Spent
    ∷ option_map Closed (first (is_closed a) plan.channels p.opens)
    ∷ when (is_dry plan p a) Dry
    ∷ space_table plan p a

abbrev pub begin_table : Plan → Present → ℕ → List (Option Refusal)
begin_table plan p a = when (not (exists plan a)) Unknown ∷ firing_table plan p a

abbrev pub read_table : Plan → Present → ℕ → List (Option Refusal)
read_table plan p a =
    when (not (exists plan a)) Unknown
    ∷ when (not (is_stage (stage p a) Begun)) NotBegun
    ∷ []

abbrev pub write_table : Plan → Present → ℕ → List ℤ → List (Option Refusal)
write_table plan p a v =
    when (not (exists plan a)) Unknown
    ∷ when (not (is_stage (stage p a) Fetched)) NotRead
    ∷ when (not (length v == (given plan a (suc (count p a)) - given plan a (count p a)))) WrongCount
    ∷ []

abbrev pub finish_table : Plan → Present → ℕ → List (Option Refusal)
finish_table plan p a =
    when (not (exists plan a)) Unknown
    ∷ when (not (is_stage (stage p a) Written)) NotWritten
    ∷ []

abbrev pub close_table : Plan → Present → ℕ → List (Option Refusal)
close_table plan p c =
    when (not (nat_lt c (length plan.channels))) Unknown
    ∷ when (not (is_open p c)) (Closed c)
    ∷ when (is_stage (stage p (producer plan c)) Begun || is_stage (stage p (producer plan c)) Fetched) Busy
    ∷ []

abbrev pub refusal : Plan → Present → Move → Option Refusal
refusal plan p (Begin a) = first_of (begin_table plan p a)
refusal plan p (Read a) = first_of (read_table plan p a)
refusal plan p (Write a v) = first_of (write_table plan p a v)
refusal plan p (Finish a) = first_of (finish_table plan p a)
refusal plan p (Close c) = first_of (close_table plan p c)

-- the actor is idle, and can't begin a firing
abbrev pub Rests : Plan → Present → ℕ → Type 0
Rests plan p a = (stage p a ≡ Idle) × (refusal plan p (Begin a) ≢ None)

-- every actor is idle, and none can begin a firing
unfoldable pub IsQuiet : Plan → Present → Type 0
IsQuiet plan p = (a : ℕ) → a < length plan.sources → Rests plan p a

-- quiet, and a channel is open exactly where its producer can make a firing more
pub record IsSettled (plan : Plan) (p : Present) : Type 0 where
  pub quiet : IsQuiet plan p
  pub open_until_over : (c : ℕ) → c < length plan.channels → is_open p c ≡ not (is_over plan p (producer plan c))

-- the tokens that an accepted move answers
abbrev pub answer : Plan → Present → Move → List ℤ
answer plan p (Read a) = taken a (count p a) plan.channels p.tokens
answer plan p (Begin a) = []
answer plan p (Write a v) = []
answer plan p (Finish a) = []
answer plan p (Close c) = []

abbrev pub take_out : ℕ → Stream → Stream
take_out n stream = record stream { taken = stream.taken + n }

abbrev pub put_in : List ℤ → Stream → Stream
put_in v stream = record stream { written = stream.written ++ v }

-- the state after an accepted move
abbrev pub accepted : Plan → State → Move → State
accepted plan s (Begin a) = record s { stages = slice_set s.stages a Begun }
accepted plan s (Read a) = record s {
  stages = slice_set s.stages a Fetched;
  streams = map (λ (row : Channel × Stream). take_out (takes_of a (count (present s) a) row.0) row.1) (zip plan.channels s.streams);
}
accepted plan s (Write a v) = record s {
  stages = slice_set s.stages a Written;
  streams = map (λ (pair : Stream × List ℤ). put_in pair.1 pair.0) (zip s.streams (shares a (count (present s) a) plan.channels v));
}
accepted plan s (Finish a) = record s {
  stages = slice_set s.stages a Idle;
  counts = slice_set s.counts a (suc (count (present s) a));
}
accepted plan s (Close c) = record s { opens = slice_set s.opens c false }

-- the refusal of an answer
abbrev pub refused : {T : Type 0} → Result T Refusal → Option Refusal
refused (Ok x) = None
refused (Err refusal) = Some refusal

abbrev pub reply_by : Option Refusal → List ℤ → Result (List ℤ) Refusal
reply_by None tokens = Ok tokens
reply_by (Some refusal) tokens = Err refusal

abbrev pub state_by : Option Refusal → State → State → State
state_by None next old = next
state_by (Some refusal) next old = old

-- the step: the reply, and the next state
abbrev pub reply_to : Plan → State → Move → Result (List ℤ) Refusal
reply_to plan s m = reply_by (refusal plan (present s) m) (answer plan (present s) m)

abbrev pub after : Plan → State → Move → State
after plan s m = state_by (refusal plan (present s) m) (accepted plan s m) s

abbrev pub Reply : Type 0
Reply = Result (List ℤ) Refusal

-- over lists of moves
abbrev pub replies_of : Plan → State → List Move → List Reply
replies_of plan s [] = []
replies_of plan s (m ∷ moves) = reply_to plan s m ∷ replies_of plan (after plan s m) moves

abbrev pub state_after : Plan → State → List Move → State
state_after plan s [] = s
state_after plan s (m ∷ moves) = state_after plan (after plan s m) moves
