-- What holds of any list of moves and its replies, in the words of the streams alone.
use Rattle.std.specs.Prelude.{ℕ, ◌≡◌, ◌≤◌, ◌+◌, List, ◌++◌, length, map, take, slice_index}
use Rattle.csdf_core.specs.Moves.{Move}
use Rattle.csdf_core.specs.Plan.{Channel, Plan}
use Rattle.csdf_core.specs.Step.{Reply}
use Rattle.csdf_core.specs.Streams.{IsPrefix, IsClosedIn, initial, tokens_taken, written_to}

-- the capacity of channel c
abbrev pub capacity_of : Plan → ℕ → ℕ
capacity_of plan c = slice_index (map (λ (channel : Channel). channel.capacity) plan.channels) c

-- after each front of the moves, the tokens taken from a channel are a prefix of its initial tokens followed by those written to it, in order
abbrev pub KeepsOrder : Plan → List Move → List Reply → Type 0
KeepsOrder plan moves replies =
    (c n : ℕ) → IsPrefix (tokens_taken plan c (take n moves) (take n replies)) (initial plan c ++ written_to plan c (take n moves) (take n replies))

-- after each front of the moves, the initial tokens of a channel and those written to it are no more than its capacity and those taken from it
abbrev pub KeepsCapacities : Plan → List Move → List Reply → Type 0
KeepsCapacities plan moves replies =
    (c n : ℕ)
    → length (initial plan c) + length (written_to plan c (take n moves) (take n replies))
    ≤ capacity_of plan c + length (tokens_taken plan c (take n moves) (take n replies))

-- where an accepted close of a channel stands in a front of the moves, nothing is written to it after that front
abbrev pub KeepsClosed : Plan → List Move → List Reply → Type 0
KeepsClosed plan moves replies =
    (c n : ℕ) → IsClosedIn c (take n moves) (take n replies) → written_to plan c moves replies ≡ written_to plan c (take n moves) (take n replies)
