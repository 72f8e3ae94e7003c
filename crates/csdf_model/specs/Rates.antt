-- How many tokens firings move: a list of rates has one entry for each phase, and is repeated cyclically (Bilsen et al. 1996).
use Rattle.std.specs.Prelude.{ℕ, zero, suc, ◌+◌, ◌%◌, List, length, slice_index}
use Rattle.csdf_model.specs.Graph.{Channel}

-- the rate of firing number k
abbrev pub rate : List ℕ → ℕ → ℕ
rate rates k = slice_index rates (k % length rates)

-- the sum of the rates of the first n firings
abbrev pub total : List ℕ → ℕ → ℕ
total rates zero = 0
total rates (suc n) = total rates n + rate rates n

-- how many tokens the first n firings of its producer put into the channel, and how many the first n of its consumer take out
abbrev pub produced : Channel → ℕ → ℕ
produced c n = total c.produce n

abbrev pub consumed : Channel → ℕ → ℕ
consumed c n = total c.consume n

-- how many tokens firing number k puts in, and how many it takes out
abbrev pub production : Channel → ℕ → ℕ
production c k = rate c.produce k

abbrev pub consumption : Channel → ℕ → ℕ
consumption c k = rate c.consume k
