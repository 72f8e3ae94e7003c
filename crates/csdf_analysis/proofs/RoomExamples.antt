-- Room, computed.
use Rattle.std.proofs.Common.{◌≡◌, ℕ, Option, Some, None, List, [], ◌∷◌, refl}
use Rattle.std.specs.Prelude.{ℤ, pos}
use Rattle.csdf_model.specs.Graph.{Channel}
use Rattle.csdf_analysis.specs.Room.{room_for, capacity_with_room}

-- actor 0, which fires four times in a period, puts in 2 tokens and then 1, and one token is there at first
channel : List ℤ → Option ℕ → Channel
channel initial capacity = record {
  name = [];
  from = 0;
  to = 1;
  produce = 2 ∷ 1 ∷ [];
  consume = 3 ∷ [];
  initial = initial;
  capacity = capacity;
}

-- 6 tokens a period: 1 + 5 * 6
five_periods : room_for (4 ∷ 2 ∷ []) 5 (channel (pos 9 ∷ []) None) ≡ 31
unfolding channel
five_periods = refl

one_period : room_for (4 ∷ 2 ∷ []) 1 (channel (pos 9 ∷ []) None) ≡ 7
unfolding channel
one_period = refl

-- no more than 65,535
many_periods : room_for (4 ∷ 2 ∷ []) 4294967295 (channel (pos 9 ∷ []) None) ≡ 65535
unfolding channel
many_periods = refl

-- a given capacity stays
given_stays : capacity_with_room (4 ∷ 2 ∷ []) 5 (channel (pos 9 ∷ []) (Some 8)) ≡ 8
unfolding channel
given_stays = refl

no_capacity : capacity_with_room (4 ∷ 2 ∷ []) 5 (channel (pos 9 ∷ []) None) ≡ 31
unfolding channel
no_capacity = refl
