-- What one firing does to the channels, each beside the tokens in it.
use Rattle.std.specs.Prelude.{ℕ, ◌+◌, ◌-◌, ◌==◌, ◌≤◌, ◌&&◌, Bool, not, nat_lt, List, [], ◌∷◌, ◌++◌, ℤ, Option, length, take, drop, map, sum_by}
use Rattle.std.specs.List.{zip, flat_map, position_from, AllByRecursion}
use Rattle.csdf_core.specs.Plan.{Channel, takes_of, gives_of}

abbrev pub Row : Type 0
Row = Channel × List ℤ

-- the channel is an output of the actor, and closed
abbrev pub is_closed : ℕ → Channel × Bool → Bool
is_closed a row = row.0.from == a && not row.1

-- the channel has fewer tokens than the firing takes
abbrev pub is_short : ℕ → ℕ → Row → Bool
is_short a k row = nat_lt (length row.1) (takes_of a k row.0)

-- the channel is an output that, with n tokens in it, would then hold more than its capacity
abbrev pub overflows : ℕ → ℕ → Channel → ℕ → Bool
overflows a k channel n = channel.from == a && nat_lt channel.capacity (n - takes_of a k channel + gives_of a k channel)

abbrev pub is_full : ℕ → ℕ → Row → Bool
is_full a k row = overflows a k row.0 (length row.1)

-- the number of the first channel that passes the test, each beside its entry in a list
abbrev pub first : {A : Type 0} → (Channel × A → Bool) → List Channel → List A → Option ℕ
first test channels entries = position_from test 0 (zip channels entries)

-- the tokens that the firing takes, the inputs in order
abbrev pub taken : ℕ → ℕ → List Channel → List (List ℤ) → List ℤ
taken a k channels tokens = flat_map (λ (row : Row). take (takes_of a k row.0) row.1) (zip channels tokens)

-- what it leaves in each channel
abbrev pub left : ℕ → ℕ → List Channel → List (List ℤ) → List (List ℤ)
left a k channels tokens = map (λ (row : Row). drop (takes_of a k row.0) row.1) (zip channels tokens)

-- each channel has the tokens that the firing takes
abbrev pub AreThere : ℕ → ℕ → List Channel → List (List ℤ) → Type 0
AreThere a k channels tokens = AllByRecursion (λ (row : Row). takes_of a k row.0 ≤ length row.1) (zip channels tokens)

-- the tokens v cut by the amounts of the channels, in order
abbrev pub cut : (Channel → ℕ) → List Channel → List ℤ → List (List ℤ)
cut amount [] v = []
cut amount (channel ∷ channels) v = take (amount channel) v ∷ cut amount channels (drop (amount channel) v)

-- the share of each channel in the tokens that the firing writes
abbrev pub shares : ℕ → ℕ → List Channel → List ℤ → List (List ℤ)
shares a k channels v = cut (gives_of a k) channels v

-- each channel's tokens with its share at their end
abbrev pub joined : List (List ℤ) → List (List ℤ) → List (List ℤ)
joined tokens parts = map (λ (pair : List ℤ × List ℤ). pair.0 ++ pair.1) (zip tokens parts)

-- how many tokens the firing takes, and how many it gives
abbrev pub need : ℕ → ℕ → List Channel → ℕ
need a k channels = sum_by (takes_of a k) channels

abbrev pub gift : ℕ → ℕ → List Channel → ℕ
gift a k channels = sum_by (gives_of a k) channels

-- each channel has room for what the firing gives
abbrev pub HaveRoom : ℕ → ℕ → List Channel → List (List ℤ) → Type 0
HaveRoom a k channels tokens = AllByRecursion (λ (row : Row). length row.1 + gives_of a k row.0 ≤ row.0.capacity) (zip channels tokens)
