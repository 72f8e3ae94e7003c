-- What went into each channel and out of it, from a list of moves and its replies alone; and how full it was.
use Rattle.std.specs.Prelude.{ℕ, suc, ◌≡◌, ◌≤◌, ◌⊎◌, max, List, [], ◌∷◌, ◌++◌, ℤ, Ok, Err, length, map, replicate, slice_index, slice_index_or, slice_set}
use Rattle.std.specs.List.{zip, AllByRecursion}
use Rattle.csdf_core.specs.Moves.{Move}
use Rattle.csdf_core.specs.Moves.{Begin, Read, Write, Finish, Close}
use Rattle.csdf_core.specs.Plan.{Channel, Plan, takes_of, gives_of}
use Rattle.csdf_core.specs.Rows.{Row, cut}
use Rattle.csdf_core.specs.State.{State, waiting}
use Rattle.csdf_core.specs.Step.{Reply, after}

-- the part of channel c
abbrev pub part : ℕ → List (List ℤ) → List ℤ
part c parts = slice_index_or parts c []

-- what an accepted write put into channel c, and an accepted read took from it, where the counts are the finishes before
abbrev pub written_by : Plan → List ℕ → ℕ → Move → Reply → List ℤ
written_by plan counts c (Write a v) (Ok tokens) = part c (cut (gives_of a (slice_index counts a)) plan.channels v)
written_by plan counts c (Write a v) (Err refusal) = []
written_by plan counts c (Begin a) reply = []
written_by plan counts c (Read a) reply = []
written_by plan counts c (Finish a) reply = []
written_by plan counts c (Close d) reply = []

abbrev pub taken_by : Plan → List ℕ → ℕ → Move → Reply → List ℤ
taken_by plan counts c (Read a) (Ok tokens) = part c (cut (takes_of a (slice_index counts a)) plan.channels tokens)
taken_by plan counts c (Read a) (Err refusal) = []
taken_by plan counts c (Begin a) reply = []
taken_by plan counts c (Write a v) reply = []
taken_by plan counts c (Finish a) reply = []
taken_by plan counts c (Close d) reply = []

-- one more accepted finish
abbrev pub finishes_after : List ℕ → Move → Reply → List ℕ
finishes_after counts (Finish a) (Ok tokens) = slice_set counts a (suc (slice_index counts a))
finishes_after counts (Finish a) (Err refusal) = counts
finishes_after counts (Begin a) reply = counts
finishes_after counts (Read a) reply = counts
finishes_after counts (Write a v) reply = counts
finishes_after counts (Close d) reply = counts

abbrev pub written_from : Plan → List ℕ → ℕ → List Move → List Reply → List ℤ
written_from plan counts c [] replies = []
written_from plan counts c (m ∷ moves) [] = []
written_from plan counts c (m ∷ moves) (r ∷ replies) = written_by plan counts c m r ++ written_from plan (finishes_after counts m r) c moves replies

abbrev pub taken_from : Plan → List ℕ → ℕ → List Move → List Reply → List ℤ
taken_from plan counts c [] replies = []
taken_from plan counts c (m ∷ moves) [] = []
taken_from plan counts c (m ∷ moves) (r ∷ replies) = taken_by plan counts c m r ++ taken_from plan (finishes_after counts m r) c moves replies

-- all that was written to channel c, and all that was taken from it
abbrev pub written_to : Plan → ℕ → List Move → List Reply → List ℤ
written_to plan c moves replies = written_from plan (replicate (length plan.sources) 0) c moves replies

abbrev pub tokens_taken : Plan → ℕ → List Move → List Reply → List ℤ
tokens_taken plan c moves replies = taken_from plan (replicate (length plan.sources) 0) c moves replies

-- the initial tokens of channel c
abbrev pub initial : Plan → ℕ → List ℤ
initial plan c = part c (map (λ (channel : Channel). channel.initial) plan.channels)

abbrev pub IsPrefix : List ℤ → List ℤ → Type 0
IsPrefix xs ys = (rest : List ℤ) × (ys ≡ xs ++ rest)

-- each channel holds at most its capacity
abbrev pub AreWithin : Plan → State → Type 0
AreWithin plan s = AllByRecursion (λ (row : Row). length row.1 ≤ row.0.capacity) (zip plan.channels (map waiting s.streams))

-- the move is an accepted close of channel c
abbrev pub IsCloseOf : ℕ → Move → Reply → Type 0
IsCloseOf c (Close d) (Ok tokens) = d ≡ c
IsCloseOf c (Close d) (Err refusal) = ⊥
IsCloseOf c (Begin a) reply = ⊥
IsCloseOf c (Read a) reply = ⊥
IsCloseOf c (Write a v) reply = ⊥
IsCloseOf c (Finish a) reply = ⊥

-- an accepted close of channel c stands among the moves
abbrev pub IsClosedIn : ℕ → List Move → List Reply → Type 0
IsClosedIn c [] replies = ⊥
IsClosedIn c (m ∷ moves) [] = ⊥
IsClosedIn c (m ∷ moves) (r ∷ replies) = IsCloseOf c m r ⊎ IsClosedIn c moves replies

-- how many tokens wait in channel c
abbrev pub length_of : State → ℕ → ℕ
length_of s c = length (part c (map waiting s.streams))

-- the greatest length of channel c after any prefix of the moves
abbrev pub peak_of : Plan → State → ℕ → List Move → ℕ
peak_of plan s c [] = length_of s c
peak_of plan s c (m ∷ moves) = max (length_of s c) (peak_of plan (after plan s m) c moves)
