-- Which actors have firings that several workers gain by, and which graphs have enough of them.
use Rattle.std.specs.Prelude.{ℕ, ◌+◌, ◌*◌, ◌/◌, ◌==◌, ◌&&◌, ◌||◌, Bool, nat_le, nat_lt, List, count_by, length, min, sum_by, if◌then◌else◌}
use Rattle.std.specs.List.{enumerate_from, list_all, zip}
use Rattle.csdf_model.specs.Graph.{Actor, Channel}
use Rattle.csdf_model.specs.Rates.{consumption, production}
use Rattle.csdf_model.specs.declared.parts.Kernel.{Kernel}
use Rattle.csdf_model.specs.declared.parts.Kernel.TheVariants as kernel

-- ---- products

-- how many weights of a filter count; none of another kernel
abbrev pub taps_of : Kernel → ℕ
taps_of kernel.Source = 0
taps_of kernel.Sink = 0
taps_of kernel.Copy = 0
taps_of kernel.Sum = 0
taps_of (kernel.Fir weights taps shift) = min taps 16

-- how many tokens the first firing of an actor reads from a channel, and how many it writes to it
abbrev pub read_from : ℕ → Channel → ℕ
read_from a c = if c.to == a then consumption c 0 else 0

abbrev pub written_to : ℕ → Channel → ℕ
written_to a c = if c.from == a then production c 0 else 0

-- how many products it takes: its weights times the tokens that it reads
abbrev pub products : List Channel → ℕ → Actor → ℕ
products channels a actor = sum_by (read_from a) channels * taps_of actor.kernel

-- ---- heavy actors

-- how many firings of so many products each make a heavy block: one of 98,304 products
abbrev pub firings_of_block : ℕ → ℕ
firings_of_block each = (98303 + each) / each

-- a channel from the actor to itself keeps its state: its first firing takes all the tokens of it, and gives as many back
abbrev pub keeps_state : ℕ → Channel → Bool
keeps_state a c = length c.initial == read_from a c && read_from a c == written_to a c

-- the channel holds what so many firings of the actor read from it or write to it, or leads from the actor to itself and keeps its state
abbrev pub holds : ℕ → ℕ → Channel → ℕ → Bool
holds a firings c capacity =
    if c.from == a && c.to == a then keeps_state a c else (nat_le (firings * read_from a c) capacity && nat_le (firings * written_to a c) capacity)

-- all channels do
abbrev pub hold_all : ℕ → ℕ → List Channel → List ℕ → Bool
hold_all a firings channels capacities = list_all (λ (row : Channel × ℕ). holds a firings row.0 row.1) (zip channels capacities)

-- an actor of one phase whose channels hold the firings of a heavy block
abbrev pub has_blocks : List Channel → List ℕ → ℕ → Actor → Bool
has_blocks channels capacities a actor =
    let each = products channels a actor in
    actor.phases == 1 && (nat_lt 0 each && hold_all a (firings_of_block each) channels capacities)

-- its first firing takes 16,384 products or more, or its firings come in heavy blocks
abbrev pub is_heavy : List Channel → List ℕ → ℕ → Actor → Bool
is_heavy channels capacities a actor = nat_le 16384 (products channels a actor) || has_blocks channels capacities a actor

-- how many actors are heavy
abbrev pub heavy_count : List Actor → List Channel → List ℕ → ℕ
heavy_count actors channels capacities = count_by (λ (row : ℕ × Actor). is_heavy channels capacities row.0 row.1) (enumerate_from 0 actors)

-- two or more are: the firings of one alone come one after another, by however many workers
abbrev pub gains_by_workers : List Actor → List Channel → List ℕ → Bool
gains_by_workers actors channels capacities = nat_le 2 (heavy_count actors channels capacities)
