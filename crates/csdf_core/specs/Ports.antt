-- What a firing does to its actor's own channels, one after another.
use Rattle.std.specs.Prelude.{ℕ, ◌+◌, ◌-◌, ◌≤◌, ◌==◌, max, Bool, false, not, nat_lt, List, [], ◌∷◌, ◌++◌, ℤ, length, take, drop, map, slice_index}
use Rattle.std.specs.Prelude.{slice_index_or, slice_set}
use Rattle.csdf_model.specs.Graph.{numbers_from}
use Rattle.csdf_pool.specs.Pool.{Shared, held_tokens}
use Rattle.csdf_core.specs.Plan.{Channel, consumption, production, takes_of}

-- the inputs and the outputs of an actor, by number
abbrev pub inputs_at : List Channel → ℕ → List ℕ
inputs_at channels a = numbers_from 0 (λ c. c.to == a) channels

abbrev pub outputs_at : List Channel → ℕ → List ℕ
outputs_at channels a = numbers_from 0 (λ c. c.from == a) channels

-- how many tokens firing number k of a channel's consumer takes out, and how many that of its producer puts in, by the channel's number
abbrev pub take_at : List Channel → ℕ → ℕ → ℕ
take_at channels k c = slice_index (map (λ (channel : Channel). consumption channel k) channels) c

abbrev pub give_at : List Channel → ℕ → ℕ → ℕ
give_at channels k c = slice_index (map (λ (channel : Channel). production channel k) channels) c

-- the tokens of a channel
abbrev pub tokens_at : List (List ℤ) → ℕ → List ℤ
tokens_at tokens c = slice_index_or tokens c []

-- each of the channels gives up its amount from the front
abbrev pub takes_over : (ℕ → ℕ) → List ℕ → List (List ℤ) → List (List ℤ)
takes_over amount [] tokens = tokens
takes_over amount (c ∷ numbers) tokens = takes_over amount numbers (slice_set tokens c (drop (amount c) (tokens_at tokens c)))

-- what they give up, in order
abbrev pub taken_over : (ℕ → ℕ) → List ℕ → List (List ℤ) → List ℤ
taken_over amount [] tokens = []
taken_over amount (c ∷ numbers) tokens =
    take (amount c) (tokens_at tokens c) ++ taken_over amount numbers (slice_set tokens c (drop (amount c) (tokens_at tokens c)))

-- each has its amount
abbrev pub EnoughOver : (ℕ → ℕ) → List ℕ → List (List ℤ) → Type 0
EnoughOver amount [] tokens = Unit {0}
EnoughOver amount (c ∷ numbers) tokens = (amount c ≤ length (tokens_at tokens c))
    × EnoughOver amount numbers (slice_set tokens c (drop (amount c) (tokens_at tokens c)))

-- each of the channels gets its amount of v at its end
abbrev pub puts_over : (ℕ → ℕ) → List ℕ → List (List ℤ) → List ℤ → List (List ℤ)
puts_over amount [] tokens v = tokens
puts_over amount (c ∷ numbers) tokens v = puts_over amount numbers (slice_set tokens c (tokens_at tokens c ++ take (amount c) v)) (drop (amount c) v)

-- the peak of each of the channels is raised to its length
abbrev pub raise_over : List ℕ → List (List ℤ) → List ℕ → List ℕ
raise_over [] tokens peaks = peaks
raise_over (c ∷ numbers) tokens peaks = raise_over numbers tokens (slice_set peaks c (max (slice_index peaks c) (length (tokens_at tokens c))))

-- the tokens of all chains of a pool
abbrev pub tokens_in : Shared → List (List ℤ)
tokens_in pool = map held_tokens pool.chains

-- a closed channel, by its number
abbrev pub closed_at : List Bool → ℕ → Bool
closed_at opens c = not (slice_index_or opens c false)

-- the channel has fewer tokens than the firing takes
abbrev pub short_at : List Channel → ℕ → List (List ℤ) → ℕ → Bool
short_at channels k tokens c = nat_lt (length (tokens_at tokens c)) (take_at channels k c)

-- what an actor's firing takes of a channel, by the channel's number
abbrev pub own_take_at : List Channel → ℕ → ℕ → ℕ → ℕ
own_take_at channels a k c = slice_index (map (takes_of a k) channels) c

-- the channel would hold more than its capacity
abbrev pub full_at : List Channel → ℕ → ℕ → List (List ℤ) → ℕ → Bool
full_at channels a k tokens c =
    nat_lt (slice_index (map (λ (channel : Channel). channel.capacity) channels) c)
    (length (tokens_at tokens c) - own_take_at channels a k c + give_at channels k c)
