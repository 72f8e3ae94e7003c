-- What a core plays: a graph whose channels have their capacities, the limits on firings, and the number of cells.
use Rattle.std.specs.Prelude.{ℕ, ◌≤◌, Bool, ◌==◌, if◌then◌else◌, ℤ, List, [], Option, map, slice_index, slice_index_or, sum_by}
use Rattle.csdf_model.specs.Rates.{rate}

-- a channel with its capacity
pub record Channel : Type 0 where
  pub from : ℕ
  pub to : ℕ
  pub produce : List ℕ
  pub consume : List ℕ
  pub initial : List ℤ
  pub capacity : ℕ

-- per actor whether it is a source, its greatest number of firings and the tokens in its file;
-- the greatest number of firings of all actors, where there is one; and the number of cells that all channels share
pub record Plan : Type 0 where
  pub sources : List Bool
  pub channels : List Channel
  pub limits : List ℕ
  pub supplies : List ℕ
  pub firings : Option ℕ
  pub cells : ℕ

-- the ends and the rates of a channel, by its number
abbrev pub from_at : List Channel → ℕ → ℕ
from_at channels c = slice_index (map (λ (channel : Channel). channel.from) channels) c

abbrev pub to_at : List Channel → ℕ → ℕ
to_at channels c = slice_index (map (λ (channel : Channel). channel.to) channels) c

abbrev pub produce_at : List Channel → ℕ → List ℕ
produce_at channels c = slice_index_or (map (λ (channel : Channel). channel.produce) channels) c []

abbrev pub consume_at : List Channel → ℕ → List ℕ
consume_at channels c = slice_index_or (map (λ (channel : Channel). channel.consume) channels) c []

-- how many tokens firing number k of a channel's producer puts in, and how many that of its consumer takes out
abbrev pub production : Channel → ℕ → ℕ
production channel k = rate channel.produce k

abbrev pub consumption : Channel → ℕ → ℕ
consumption channel k = rate channel.consume k

-- the same of an actor's firing number k, which takes nothing of a channel that is no input of it and gives nothing to one that is no output of it
abbrev pub takes_of : ℕ → ℕ → Channel → ℕ
takes_of a k channel = if channel.to == a then consumption channel k else 0

abbrev pub gives_of : ℕ → ℕ → Channel → ℕ
gives_of a k channel = if channel.from == a then production channel k else 0

-- there are as many cells as the capacities add up to
abbrev pub HasAmpleCells : Plan → Type 0
HasAmpleCells plan = sum_by (λ (channel : Channel). channel.capacity) plan.channels ≤ plan.cells
