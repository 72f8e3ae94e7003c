-- Each channel after a firing: what it held, without what was taken, and behind it its share; and the peaks.
use Rattle.csdf_core.proofs.BlockTokens.{drop_sum, left_at, length-left}
use Rattle.csdf_core.specs.Plan.{Channel, from_at, gives_of, takes_of}
use Rattle.csdf_core.specs.Ports.{give_at, own_take_at, tokens_at}
use Rattle.csdf_core.specs.Rows.{Row, joined, left, shares}
use Rattle.csdf_core.specs.Shows.{raised}
use Rattle.csdf_model.specs.Rates.{rate}
use Rattle.std.proofs.Common.{Bool, List, [], ap, ap₂, arith, cond, drop, false, get_or, length, map, max, refl, suc, sym, take, true, zero, ℕ, ◌++◌, ◌+◌, ◌<◌, ◌==◌, ◌∙◌, ◌∷◌, ◌≡◌, ◌≢◌, ◌≤◌}
use Rattle.std.proofs.lemmas.Bool.{eq-eqb, ne_eqb}
use Rattle.std.proofs.lemmas.List.Sums.{sum_by-cons}
use Rattle.std.specs.List.{AllByRecursion, zip}
use Rattle.std.specs.Prelude.{sum_by, ℤ}

-- how many the firing gives to it, and how many to the channels before it
abbrev pub own_give_at : List Channel → ℕ → ℕ → ℕ → ℕ
own_give_at cs a k c = get_or (map (gives_of a k) cs) c 0

abbrev pub given_before : List Channel → ℕ → ℕ → ℕ → ℕ
given_before cs a k c = sum_by (gives_of a k) (take c cs)

-- each channel has what the firing takes
pub there_at : (a k : ℕ) (cs : List Channel) (ts : List (List ℤ)) (c : ℕ) → length ts ≡ length cs → c < length cs
    → AllByRecursion (λ (row : Row). takes_of a k row.0 ≤ length row.1) (zip cs ts) → own_take_at cs a k c ≤ length (tokens_at ts c)
there_at a k [] ts c e lt all = absurd (omega arith)
there_at a k (x ∷ cs) [] c e lt all = absurd (omega arith)
there_at a k (x ∷ cs) (t ∷ ts) zero e lt all = all.0
there_at a k (x ∷ cs) (t ∷ ts) (suc c) e lt all = there_at a k cs ts c (omega arith) (omega arith) all.1

-- its share is put behind what it holds, and is a part of what is written
pub shares_at : (a k : ℕ) (cs : List Channel) (ts : List (List ℤ)) (v : List ℤ) (c : ℕ) → length ts ≡ length cs → c < length cs
    → tokens_at (joined ts (shares a k cs v)) c ≡ tokens_at ts c ++ tokens_at (shares a k cs v) c
shares_at a k [] ts v c e lt = absurd (omega arith)
shares_at a k (x ∷ cs) [] v c e lt = absurd (omega arith)
shares_at a k (x ∷ cs) (t ∷ ts) v zero e lt = refl
shares_at a k (x ∷ cs) (t ∷ ts) v (suc c) e lt = shares_at a k cs ts (drop (gives_of a k x) v) c (omega arith) (omega arith)

pub share_at : (a k : ℕ) (cs : List Channel) (v : List ℤ) (c : ℕ) → c < length cs
    → tokens_at (shares a k cs v) c ≡ take (own_give_at cs a k c) (drop (given_before cs a k c) v)
share_at a k [] v c lt = absurd (omega arith)
share_at a k (x ∷ cs) v zero lt = refl
share_at a k (x ∷ cs) v (suc c) lt =
    share_at a k cs (drop (gives_of a k x) v) c (omega arith)
    ∙ ap (take (own_give_at cs a k c))
    (sym (drop_sum (gives_of a k x) (given_before cs a k c) v) ∙ ap (λ (n : ℕ). drop n v) (sym (sum_by-cons (gives_of a k) x (take c cs))))

pub joined_part : (a k : ℕ) (cs : List Channel) (ts : List (List ℤ)) (v : List ℤ) (c : ℕ) → length ts ≡ length cs → c < length cs
    → tokens_at (joined ts (shares a k cs v)) c ≡ tokens_at ts c ++ take (own_give_at cs a k c) (drop (given_before cs a k c) v)
joined_part a k cs ts v c e lt = shares_at a k cs ts v c e lt ∙ ap (λ (u : List ℤ). tokens_at ts c ++ u) (share_at a k cs v c lt)

-- one channel's amount and those before it are within the sum of all
pub part_within : (f : Channel → ℕ) (cs : List Channel) (c : ℕ) → c < length cs → sum_by f (take c cs) + get_or (map f cs) c 0 ≤ sum_by f cs
part_within f [] c lt = absurd (omega arith)
part_within f (x ∷ cs) zero lt = let s = sum_by-cons f x cs in omega (arith, s)
part_within f (x ∷ cs) (suc c) lt =
    let s = sum_by-cons f x cs in
    let t = sum_by-cons f x (take c cs) in
    let r = part_within f cs c (omega (arith, lt)) in
    let g : sum_by f (x ∷ take c cs) + get_or (map f cs) c 0 ≤ sum_by f (x ∷ cs) = omega (arith, s, t, r) in
    g

pub own_give : (a k : ℕ) (cs : List Channel) (c : ℕ) → from_at cs c ≡ a → c < length cs → give_at cs k c ≡ own_give_at cs a k c
own_give a k [] c is lt = absurd (omega arith)
own_give a k (ch ∷ cs) zero is lt = sym (ap (λ b. cond b (rate ch.produce k) 0) (eq-eqb ch.from a is))
own_give a k (ch ∷ cs) (suc c) is lt = own_give a k cs c is (omega arith)

pub own_give_none : (a k : ℕ) (cs : List Channel) (c : ℕ) → from_at cs c ≢ a → own_give_at cs a k c ≡ 0
own_give_none a k [] c other = refl
own_give_none a k (x ∷ cs) zero other = ap (λ (b : Bool). cond b (rate x.produce k) 0) (ne_eqb x.from a other)
own_give_none a k (x ∷ cs) (suc c) other = own_give_none a k cs c other

pub fired_at : (a k : ℕ) (cs : List Channel) (ts : List (List ℤ)) (v : List ℤ) (c : ℕ) → length ts ≡ length cs → c < length cs
    → tokens_at (joined (left a k cs ts) (shares a k cs v)) c
    ≡ drop (own_take_at cs a k c) (tokens_at ts c) ++ take (own_give_at cs a k c) (drop (given_before cs a k c) v)
fired_at a k cs ts v c queued lt =
    joined_part a k cs (left a k cs ts) v c (length-left a k cs ts queued) lt
    ∙ ap (λ (u : List ℤ). u ++ take (own_give_at cs a k c) (drop (given_before cs a k c) v)) (left_at a k cs ts c queued lt)

pub raised_past : (ps : List ℕ) (ts us : List (List ℤ)) → length ts ≡ length ps → length us ≡ length ps
    → ((c : ℕ) → c < length ps → length (tokens_at ts c) ≤ max (get_or ps c 0) (length (tokens_at us c))) → raised (raised ps ts) us ≡ raised ps us
raised_past [] ts us e f le = refl
raised_past (p ∷ ps) [] us e f le = absurd (omega arith)
raised_past (p ∷ ps) (t ∷ ts) [] e f le = absurd (omega arith)
raised_past (p ∷ ps) (t ∷ ts) (u ∷ us) e f le =
    let low = le 0 (omega arith) in
    let here : max (max p (length t)) (length u) ≡ max p (length u) = omega (arith, low) in
    ap₂ (λ (n : ℕ) (ns : List ℕ). n ∷ ns) here (raised_past ps ts us (omega arith) (omega arith) (λ c lt. le (suc c) (omega (arith, lt))))

pub high_elsewhere : (a : ℕ) (cs : List Channel) (ps : List ℕ) (ts : List (List ℤ)) → length ps ≡ length cs → length ts ≡ length cs
    → ((c : ℕ) → c < length cs → from_at cs c ≢ a → length (tokens_at ts c) ≤ get_or ps c 0)
    → AllByRecursion (λ (row : Channel × (ℕ × List ℤ)). (row.0.from == a) ≡ false → length row.1.1 ≤ row.1.0) (zip cs (zip ps ts))
high_elsewhere a [] ps ts e f low = tt
high_elsewhere a (x ∷ cs) [] ts e f low = absurd (omega arith)
high_elsewhere a (x ∷ cs) (p ∷ ps) [] e f low = absurd (omega arith)
high_elsewhere a (x ∷ cs) (p ∷ ps) (t ∷ ts) e f low = (
  λ other. low 0 (omega arith) (λ is. absurd (let both : false ≡ true = sym other ∙ eq-eqb x.from a is in cc)),
  high_elsewhere a cs ps ts (omega arith) (omega arith) (λ c lt. low (suc c) (omega (arith, lt))),
)
