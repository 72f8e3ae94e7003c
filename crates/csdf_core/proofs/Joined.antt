-- What a channel gets of a firing.
use Rattle.std.proofs.Common.{◌≡◌, ◌≢◌, ℕ, zero, suc, ◌+◌, ◌<◌, ◌≤◌, ◌==◌, min, cond, Bool, true, false, List, [], ◌∷◌, ◌++◌, length, take, drop, ap, ◌∙◌, arith, append-nil}
use Rattle.std.specs.Prelude.{ℤ}
use Rattle.std.specs.List.{AllByRecursion}
use Rattle.std.proofs.lemmas.Bool.{ne_eqb}
use Rattle.std.proofs.lemmas.List.{length-append, length-drop, length-take}
use Rattle.csdf_model.specs.Rates.{rate}
use Rattle.csdf_core.specs.Plan.{Channel, Plan, from_at, gives_of}
use Rattle.csdf_core.specs.Ports.{outputs_at, give_at, own_take_at, tokens_at}
use Rattle.csdf_core.specs.Rows.{gift, left, joined, shares}
use Rattle.csdf_core.proofs.BlockPorts.{each}
use Rattle.csdf_core.proofs.BlockTokens.{left_at, length-left}
use Rattle.csdf_core.proofs.OwnChannels.{outs_there}

-- none of n firings gives many
abbrev pub AreFew : Plan → ℕ → ℕ → ℕ → Type 0
AreFew plan a k n = (i : ℕ) → i < n → gift a (k + i) plan.channels ≤ 8192

pub joined_other : (a k : ℕ) (cs : List Channel) (ts : List (List ℤ)) (v : List ℤ) (c : ℕ) → length ts ≡ length cs → c < length cs → from_at cs c ≢ a
    → tokens_at (joined ts (shares a k cs v)) c ≡ tokens_at ts c
joined_other a k [] ts v c e lt other = absurd (omega arith)
joined_other a k (x ∷ cs) [] v c e lt other = absurd (omega arith)
joined_other a k (x ∷ cs) (t ∷ ts) v zero e lt other =
    ap (λ b. t ++ take (cond b (rate x.produce k) 0) v) (ne_eqb x.from a other) ∙ append-nil t
joined_other a k (x ∷ cs) (t ∷ ts) v (suc c) e lt other = joined_other a k cs ts (drop (gives_of a k x) v) c (omega arith) (omega arith) other

at_most : (b : Bool) (r : ℕ) → cond b r 0 ≤ r
at_most true r = omega arith
at_most false r = omega arith

pub joined_length : (a k : ℕ) (cs : List Channel) (ts : List (List ℤ)) (v : List ℤ) (c : ℕ) → length ts ≡ length cs → c < length cs
    → length (tokens_at (joined ts (shares a k cs v)) c) ≤ length (tokens_at ts c) + give_at cs k c
joined_length a k [] ts v c e lt = absurd (omega arith)
joined_length a k (x ∷ cs) [] v c e lt = absurd (omega arith)
joined_length a k (x ∷ cs) (t ∷ ts) v zero e lt =
    let n : ℕ = gives_of a k x in
    let l : length (t ++ take n v) ≡ length t + length (take n v) = length-append t (take n v) in
    let s : length (take n v) ≡ min n (length v) = length-take n v in
    let m : n ≤ rate x.produce k = at_most (x.from == a) (rate x.produce k) in
    let r : length (t ++ take n v) ≤ length t + rate x.produce k = omega (arith, l, s, m) in
    r
joined_length a k (x ∷ cs) (t ∷ ts) v (suc c) e lt = joined_length a k cs ts (drop (gives_of a k x) v) c (omega arith) (omega arith)

module _ (cs : List Channel) (a : ℕ) where
  abbrev outs : List ℕ
  outs = outputs_at cs a

  module _ (k : ℕ) (ts : List (List ℤ)) (v : List ℤ) (queued : length ts ≡ length cs) where
    -- and each output has at most what it gave more
    pub outputs_after : AllByRecursion (λ d. length (tokens_at (joined (left a k cs ts) (shares a k cs v)) d) ≤ length (tokens_at ts d) + give_at cs k d) outs
    outputs_after =
        each outs
        (λ d (lt : d < length cs).
        (let n = joined_length a k cs (left a k cs ts) v d (length-left a k cs ts queued) lt in
        let e = ap length (left_at a k cs ts d queued lt) in
        let s = length-drop (own_take_at cs a k d) (tokens_at ts d) in
        let r : length (tokens_at (joined (left a k cs ts) (shares a k cs v)) d) ≤ length (tokens_at ts d) + give_at cs k d = omega (arith, n, e, s) in r))
        (outs_there cs a)
