-- The values of firings that keep a state, one firing after another.
use Rattle.std.proofs.Common.{◌≡◌, ℕ, zero, suc, ◌+◌, ◌-◌, ◌<◌, ◌≤◌, cond, Bool, true, false, nat_lt, List, [], ◌∷◌, ◌++◌, length}
use Rattle.std.proofs.Common.{take, drop, refl, ap, ap₂, sym, ◌∙◌, arith, append_assoc, le-ltb, lt-ltb}
use Rattle.std.specs.Prelude.{ℤ}
use Rattle.std.proofs.Math.Seq.{drop-append_seam}
use Rattle.std.proofs.lemmas.List.{drop-drop, length-append, length-drop, length-take-le}
use Rattle.csdf_model.specs.declared.parts.Kernel.{Kernel}
use Rattle.csdf_kernel.specs.Loop.{beside, loop_values, latest_of}
use Rattle.csdf_kernel.specs.Value.{value_of}

none : (b : Bool) (xs : List ℤ) → cond {A = List ℤ} b [] (take 0 xs) ≡ []
none true xs = refl
none false xs = refl

-- before the first value the state is that of the beginning
pub latest_first : (state : List ℤ) (size before : ℕ) → before + length state ≤ size → latest_of state [] size before ≡ state
latest_first [] size before le = none (nat_lt 0 size) (drop (0 - size + before) [])
latest_first (x ∷ state) size before le =
    ap (λ (b : Bool). cond b (x ∷ state) (take (length (x ∷ state)) (drop (0 - size + before) []))) (lt-ltb 0 size (omega (arith, le)))

-- and after one more it is in that one
pub latest_more : (state old x : List ℤ) (size before : ℕ) → length x ≡ size → latest_of state (old ++ x) size before ≡ take (length state) (drop before x)
latest_more state old x size before long =
    let all = length-append old x in
    let from : length (old ++ x) - size + before ≡ length old + before = omega (arith, all, long) in
    ap (λ (b : Bool). cond b state (take (length state) (drop (length (old ++ x) - size + before) (old ++ x))))
    (le-ltb (length (old ++ x)) size (omega (arith, all, long)))
    ∙ ap (λ (i : ℕ). take (length state) (drop i (old ++ x))) from
    ∙ ap (take (length state)) (sym (drop-drop before (length old) (old ++ x)) ∙ ap (drop before) (drop-append_seam old x))

pub latest_long : (state old x : List ℤ) (size before : ℕ) → length x ≡ size → before + length state ≤ size
    → length (latest_of state (old ++ x) size before) ≡ length state
latest_long state old x size before long part =
    ap length (latest_more state old x size before long)
    ∙ length-take-le (length state) (drop before x) (let d = length-drop before x in omega (arith, d, long, part))

loop_step : (kernel : Kernel) (counts : List ℕ) (is_first : Bool) (each before n : ℕ) (state others : List ℤ) → 0 < n
    → loop_values kernel counts is_first each before n state others
    ≡ value_of kernel counts (beside is_first state (take each others))
    ++ loop_values kernel counts is_first each before (n - 1)
    (take (length state) (drop before (value_of kernel counts (beside is_first state (take each others))))) (drop each others)
loop_step kernel counts is_first each before zero state others some = absurd (omega arith)
loop_step kernel counts is_first each before (suc n) state others some =
    let e : suc n - 1 ≡ n = omega arith in
    ap (λ (j : ℕ). value_of kernel counts (beside is_first state (take each others))
    ++ loop_values kernel counts is_first each before j
    (take (length state) (drop before (value_of kernel counts (beside is_first state (take each others))))) (drop each others)) (sym e)

-- one firing more
pub one_loop_more : (kernel : Kernel) (counts : List ℕ) (is_first : Bool) (each before n i at : ℕ) (others state next old new x whole : List ℤ) → i < n
    → x ≡ value_of kernel counts (beside is_first state (take (at + each - at) (drop at others))) → new ≡ old ++ x
    → next ≡ take (length state) (drop before x)
    → old ++ loop_values kernel counts is_first each before (n - i) state (drop at others) ≡ whole
    → new ++ loop_values kernel counts is_first each before (n - (i + 1)) next (drop (at + each) others) ≡ whole
one_loop_more kernel counts is_first each before n i at others state next old new x whole lt is grown goes_on all =
    let e1 : at + each - at ≡ each = omega arith in
    let e2 : n - i - 1 ≡ n - (i + 1) = omega arith in
    let y : List ℤ = value_of kernel counts (beside is_first state (take each (drop at others))) in
    let same : x ≡ y = is ∙ ap (λ (j : ℕ). value_of kernel counts (beside is_first state (take j (drop at others)))) e1 in
    let step = loop_step kernel counts is_first each before (n - i) state (drop at others) (omega arith) in
    let rest : List ℤ = loop_values kernel counts is_first each before (n - (i + 1)) next (drop (at + each) others) in
    ap (λ (u : List ℤ). u ++ rest) (grown ∙ ap (λ (u : List ℤ). old ++ u) same)
    ∙ append_assoc old y rest
    ∙ ap (λ (u : List ℤ). old ++ (y ++ u))
    (ap₂ (λ (u w : List ℤ). loop_values kernel counts is_first each before (n - (i + 1)) u w)
    (goes_on ∙ ap (λ (u : List ℤ). take (length state) (drop before u)) same) (sym (drop-drop each at others))
    ∙ ap (λ (j : ℕ). loop_values kernel counts is_first each before j (take (length state) (drop before y)) (drop each (drop at others))) (sym e2))
    ∙ ap (λ (u : List ℤ). old ++ u) (sym step)
    ∙ all
