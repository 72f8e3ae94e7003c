-- The values of firings that keep a state: each reads what the one before it wrote in its place.
use Rattle.std.specs.Prelude.{ℕ, zero, suc, ◌+◌, ◌-◌, nat_lt, if◌then◌else◌, Bool, true, false, List, [], ◌++◌, ℤ, length, take, drop}
use Rattle.csdf_model.specs.declared.parts.Kernel.{Kernel}
use Rattle.csdf_kernel.specs.Value.{value_of}

-- the state and the other tokens that a firing reads, the state first or last
abbrev pub beside : Bool → List ℤ → List ℤ → List ℤ
beside true state others = state ++ others
beside false state others = others ++ state

-- what n firings of the same counts write, end to end: each reads the state and the next `each` of the others, and its state goes on as so many
-- tokens behind the first `before` of its value
abbrev pub loop_values : Kernel → List ℕ → Bool → ℕ → ℕ → ℕ → List ℤ → List ℤ → List ℤ
loop_values kernel counts is_first each before zero state others = []
loop_values kernel counts is_first each before (suc n) state others =
    value_of kernel counts (beside is_first state (take each others))
    ++ loop_values kernel counts is_first each before n
    (take (length state) (drop before (value_of kernel counts (beside is_first state (take each others))))) (drop each others)

-- the state after these values of `size` tokens each: where there is none yet, that of the beginning
abbrev pub latest_of : List ℤ → List ℤ → ℕ → ℕ → List ℤ
latest_of state values size before =
    if nat_lt (length values) size then state else take (length state) (drop (length values - size + before) values)
