-- Which cells go where: a firing's tokens are taken and put channel by channel, each in single takes and puts; and a new pool is filled so.
use Rattle.std.specs.Prelude.{ℕ, suc, List, [], ◌∷◌, ℤ, length, take, drop, map, replicate}
use Rattle.std.specs.List.{range_with_len}
use Rattle.csdf_pool.specs.Pool.{Shared, after_takes, after_puts}
use Rattle.csdf_core.specs.Plan.{Channel, Plan}
use Rattle.csdf_core.specs.Ports.{inputs_at, outputs_at, take_at, give_at}

-- the pool after each of these channels gave up its amount
abbrev pub after_takes_over : (ℕ → ℕ) → List ℕ → Shared → Shared
after_takes_over amount [] pool = pool
after_takes_over amount (c ∷ numbers) pool = after_takes_over amount numbers (after_takes pool c (amount c))

-- the pool after each of these channels got its amount of v
abbrev pub after_puts_over : (ℕ → ℕ) → List ℕ → Shared → List ℤ → Shared
after_puts_over amount [] pool v = pool
after_puts_over amount (c ∷ numbers) pool v = after_puts_over amount numbers (after_puts pool c (take (amount c) v)) (drop (amount c) v)

-- the pool after firing number k of the actor has read, its inputs in file order, and after it has written v, its outputs in file order
abbrev pub after_read : Plan → ℕ → ℕ → Shared → Shared
after_read plan a k pool = after_takes_over (take_at plan.channels k) (inputs_at plan.channels a) pool

abbrev pub after_write : Plan → ℕ → ℕ → Shared → List ℤ → Shared
after_write plan a k pool v = after_puts_over (give_at plan.channels k) (outputs_at plan.channels a) pool v

-- a pool whose cells are all free, in ascending order
abbrev pub empty_pool : ℕ → ℕ → Shared
empty_pool cells chains = record { size = cells; chains = replicate chains []; free = range_with_len 0 cells }

-- from channel c on, each channel gets its tokens
abbrev pub filled_from : ℕ → List (List ℤ) → Shared → Shared
filled_from c [] pool = pool
filled_from c (v ∷ rest) pool = filled_from (suc c) rest (after_puts pool c v)

-- the pool of a new core: the initial tokens, channel by channel, in the lowest cells, and the others free
abbrev pub opening_pool : Plan → Shared
opening_pool plan =
    filled_from 0 (map (λ (c : Channel). c.initial) plan.channels) (empty_pool plan.cells (length plan.channels))
