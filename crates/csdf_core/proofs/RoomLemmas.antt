-- Cells that are held or reserved never pass those that there are.
use Rattle.std.proofs.Common.{◌≡◌, ◌≢◌, ℕ, ◌⊎◌, zero, suc, ◌+◌, ◌-◌, ◌<◌, ◌≤◌, List, [], ◌∷◌, ◌++◌, inl, inr, length, get_or, set, take, drop, refl, ap, ◌∙◌}
use Rattle.std.proofs.Common.{arith, Bool, true, false}
use Rattle.std.specs.Prelude.{ℤ, sum_by, nat_lt, ◌&&◌}
use Rattle.std.specs.List.{range_with_len}
use Rattle.std.proofs.lemmas.List.{get_or-set_other, get_or-set_same, length-drop, length-append, length-take-le}
use Rattle.std.proofs.lemmas.List.Sums.{sum_by-cons}
use Rattle.std.proofs.lemmas.Bool.{ltb-false, cases_Bool}
use Rattle.std.proofs.lemmas.Bool.Decides.{eqb_tells}
use Rattle.csdf_core.specs.declared.stage.Stage.{Stage}
use Rattle.csdf_core.specs.declared.stage.Stage.TheVariants.{Idle, Begun, Fetched, Written}
use Rattle.csdf_core.specs.Plan.{Channel, Plan, takes_of, gives_of}
use Rattle.csdf_core.specs.Rows.{left, joined, shares, need, gift, AreThere}
use Rattle.csdf_core.specs.State.{Present}
use Rattle.csdf_core.specs.Step.{count, stage, held, reserved, reserved_by, reserved_at, lacks_cells}
use Rattle.csdf_core.specs.Next.{begun, fetched, written, finished}

-- what is false of the second of two, where the first is true
pub second_false : (b c : Bool) → b ≡ true → (b && c) ≡ false → c ≡ false
second_false true c e h = h
second_false false c e h = absurd (cc)

-- one term of a sum changes
sum_past : (f g : ℕ → ℕ) (k n a : ℕ) → a < k → ((b : ℕ) → b ≢ a → g b ≡ f b) → sum_by g (range_with_len k n) ≡ sum_by f (range_with_len k n)
sum_past f g k zero a lt same = refl
sum_past f g k (suc n) a lt same =
    let here : g k ≡ f k = same k (λ e. omega arith) in
    omega (arith, sum_by-cons f k (range_with_len (k + 1) n), sum_by-cons g k (range_with_len (k + 1) n), sum_past f g (k + 1) n a (omega arith) same, here)

sum_from : (f g : ℕ → ℕ) (k n a : ℕ) → k ≤ a → a < k + n → ((b : ℕ) → b ≢ a → g b ≡ f b)
    → sum_by g (range_with_len k n) + f a ≡ sum_by f (range_with_len k n) + g a
sum_from f g k zero a le lt same = absurd (omega arith)
sum_from f g k (suc n) a le lt same = elim (eqb_tells k a) [
  | inl e ↦ let past = sum_past f g (k + 1) n a (omega (arith, e.1)) same in
      let p : f k ≡ f a = ap f e.1 in let q : g k ≡ g a = ap g e.1 in
      omega (arith, sum_by-cons f k (range_with_len (k + 1) n), sum_by-cons g k (range_with_len (k + 1) n), past, p, q)
  | inr e ↦ let more = sum_from f g (k + 1) n a (let ne = e.1 in omega arith) (omega arith) same in
      let here : g k ≡ f k = same k e.1 in
      omega (arith, sum_by-cons f k (range_with_len (k + 1) n), sum_by-cons g k (range_with_len (k + 1) n), more, here)
]

reserved_change : (plan : Plan) (p q : Present) (a : ℕ) → a < length plan.sources → ((b : ℕ) → b ≢ a → reserved_by plan q b ≡ reserved_by plan p b)
    → reserved plan q + reserved_by plan p a ≡ reserved plan p + reserved_by plan q a
reserved_change plan p q a lt same = sum_from (reserved_by plan p) (reserved_by plan q) 0 (length plan.sources) a (omega arith) (omega arith) same

-- the stage of one actor changes, and with it no count
stage_only : (plan : Plan) (p q : Present) (a : ℕ) (x : Stage) → q.counts ≡ p.counts → q.stages ≡ set p.stages a x → (b : ℕ) → b ≢ a
    → reserved_by plan q b ≡ reserved_by plan p b
stage_only plan p q a x counts stages b ne =
    let st : stage q b ≡ stage p b = ap (λ ss. get_or ss b Idle) stages ∙ get_or-set_other p.stages a b x Idle ne in
    let k : count q b ≡ count p b = ap (λ ks. get_or ks b 0) counts in
    ap (λ s. reserved_at s (need b (count q b) plan.channels) (gift b (count q b) plan.channels)) st
    ∙ ap (λ n. reserved_at (stage p b) (need b n plan.channels) (gift b n plan.channels)) k

now_at : (plan : Plan) (p q : Present) (a : ℕ) (x : Stage) → a < length p.stages → q.counts ≡ p.counts → q.stages ≡ set p.stages a x
    → reserved_by plan q a ≡ reserved_at x (need a (count p a) plan.channels) (gift a (count p a) plan.channels)
now_at plan p q a x lt counts stages =
    let st : stage q a ≡ x = ap (λ ss. get_or ss a Idle) stages ∙ get_or-set_same p.stages a x Idle lt in
    let k : count q a ≡ count p a = ap (λ ks. get_or ks a 0) counts in
    ap (λ s. reserved_at s (need a (count q a) plan.channels) (gift a (count q a) plan.channels)) st
    ∙ ap (λ n. reserved_at x (need a n plan.channels) (gift a n plan.channels)) k

was_at : (plan : Plan) (p : Present) (a : ℕ) (x : Stage) → stage p a ≡ x
    → reserved_by plan p a ≡ reserved_at x (need a (count p a) plan.channels) (gift a (count p a) plan.channels)
was_at plan p a x at = ap (λ s. reserved_at s (need a (count p a) plan.channels) (gift a (count p a) plan.channels)) at

-- what a read takes out of all channels
pub held-left : (a k : ℕ) (cs : List Channel) (ts : List (List ℤ)) → length ts ≡ length cs → AreThere a k cs ts
    → sum_by length (left a k cs ts) + need a k cs ≡ sum_by length ts
held-left a k [] [] e there = refl
held-left a k [] (t ∷ ts) e there = absurd (omega arith)
held-left a k (c ∷ cs) [] e there = absurd (omega arith)
held-left a k (c ∷ cs) (t ∷ ts) e there =
    let rest = held-left a k cs ts (omega arith) there.1 in
    let enough = there.0 in
    omega (
      arith,
      sum_by-cons length (drop (takes_of a k c) t) (left a k cs ts),
      sum_by-cons length t ts,
      sum_by-cons (takes_of a k) c cs,
      length-drop (takes_of a k c) t,
      rest,
      enough,
    )

-- what a write puts into all channels
pub held-joined : (a k : ℕ) (cs : List Channel) (ts : List (List ℤ)) (v : List ℤ) → length ts ≡ length cs → length v ≡ gift a k cs
    → sum_by length (joined ts (shares a k cs v)) ≡ sum_by length ts + gift a k cs
held-joined a k [] [] v e all = refl
held-joined a k [] (t ∷ ts) v e all = absurd (omega arith)
held-joined a k (c ∷ cs) [] v e all = absurd (omega arith)
held-joined a k (c ∷ cs) (t ∷ ts) v e all =
    let n = gives_of a k c in
    let total = sum_by-cons (gives_of a k) c cs in
    let rest = held-joined a k cs ts (drop n v) (omega arith) (omega (arith, length-drop n v, total, all)) in
    let here : length (take n v) ≡ n = length-take-le n v (omega (arith, total, all)) in
    omega (
      arith,
      sum_by-cons length (t ++ take n v) (joined ts (shares a k cs (drop n v))),
      sum_by-cons length t ts,
      length-append t (take n v),
      rest,
      here,
      total,
    )

pub room_begun : (plan : Plan) (p : Present) (a : ℕ) → a < length plan.sources → a < length p.stages → stage p a ≡ Idle → lacks_cells plan p a ≡ false
    → held p + reserved plan p ≤ plan.cells → held (begun p a) + reserved plan (begun p a) ≤ plan.cells
room_begun plan p a lt lt' idle enough room =
    let change = reserved_change plan p (begun p a) a lt (stage_only plan p (begun p a) a Begun refl refl) in
    let was = was_at plan p a Idle idle in
    let now = now_at plan p (begun p a) a Begun lt' refl refl in
    cases (cases_Bool (nat_lt (need a (count p a) plan.channels) (gift a (count p a) plan.channels))) change was now
  where
    cases : (nat_lt (need a (count p a) plan.channels) (gift a (count p a) plan.channels) ≡ true) ⊎
        (nat_lt (need a (count p a) plan.channels) (gift a (count p a) plan.channels) ≡ false)
        → reserved plan (begun p a) + reserved_by plan p a ≡ reserved plan p + reserved_by plan (begun p a) a → reserved_by plan p a ≡ 0
        → reserved_by plan (begun p a) a ≡ gift a (count p a) plan.channels - need a (count p a) plan.channels
        → held p + reserved plan (begun p a) ≤ plan.cells
    cases (inl more) change was now =
        let fits : held p + reserved plan p + (gift a (count p a) plan.channels - need a (count p a) plan.channels) ≤ plan.cells =
        ltb-false _ _ (second_false _ _ more enough) in
        omega arith
    cases (inr less) change was now =
        let le : gift a (count p a) plan.channels ≤ need a (count p a) plan.channels = ltb-false _ _ less in
        omega arith

pub room_fetched : (plan : Plan) (p : Present) (a : ℕ) → a < length plan.sources → a < length p.stages → length p.tokens ≡ length plan.channels
    → AreThere a (count p a) plan.channels p.tokens → stage p a ≡ Begun → held p + reserved plan p ≤ plan.cells
    → held (fetched plan p a) + reserved plan (fetched plan p a) ≤ plan.cells
room_fetched plan p a lt lt' len there at room =
    let change = reserved_change plan p (fetched plan p a) a lt (stage_only plan p (fetched plan p a) a Fetched refl refl) in
    let was = was_at plan p a Begun at in
    let now = now_at plan p (fetched plan p a) a Fetched lt' refl refl in
    let out = held-left a (count p a) plan.channels p.tokens len there in
    omega (arith, change, was, now, out, room)

pub room_written : (plan : Plan) (p : Present) (a : ℕ) (v : List ℤ) → a < length plan.sources → a < length p.stages → length p.tokens ≡ length plan.channels
    → length v ≡ gift a (count p a) plan.channels → stage p a ≡ Fetched → held p + reserved plan p ≤ plan.cells
    → held (written plan p a v) + reserved plan (written plan p a v) ≤ plan.cells
room_written plan p a v lt lt' len all at room =
    let change = reserved_change plan p (written plan p a v) a lt (stage_only plan p (written plan p a v) a Written refl refl) in
    let was = was_at plan p a Fetched at in
    let now = now_at plan p (written plan p a v) a Written lt' refl refl in
    let into = held-joined a (count p a) plan.channels p.tokens v len all in
    omega (arith, change, was, now, into, room)

-- a firing that has read finds its cells
pub room_to_write : (plan : Plan) (p : Present) (a : ℕ) → a < length plan.sources → a < length p.stages → stage p a ≡ Fetched
    → held p + reserved plan p ≤ plan.cells → held p + gift a (count p a) plan.channels ≤ plan.cells
room_to_write plan p a lt lt' at room =
    let q : Present = record { counts = p.counts; stages = set p.stages a Written; opens = p.opens; tokens = p.tokens } in
    let change = reserved_change plan p q a lt (stage_only plan p q a Written refl refl) in
    let was = was_at plan p a Fetched at in
    let now = now_at plan p q a Written lt' refl refl in
    omega (arith, change, was, now, room)

pub room_finished : (plan : Plan) (p : Present) (a : ℕ) → a < length plan.sources → a < length p.stages → stage p a ≡ Written
    → held p + reserved plan p ≤ plan.cells → held (finished p a) + reserved plan (finished p a) ≤ plan.cells
room_finished plan p a lt lt' at room =
    let same : (b : ℕ) → b ≢ a → reserved_by plan (finished p a) b ≡ reserved_by plan p b = λ b ne.
    ap (λ s. reserved_at s (need b (count (finished p a) b) plan.channels) (gift b (count (finished p a) b) plan.channels))
    (get_or-set_other p.stages a b Idle Idle ne)
    ∙ ap (λ n. reserved_at (stage p b) (need b n plan.channels) (gift b n plan.channels)) (get_or-set_other p.counts a b (suc (count p a)) 0 ne) in
    let change = reserved_change plan p (finished p a) a lt same in
    let was = was_at plan p a Written at in
    let now : reserved_by plan (finished p a) a ≡ 0 = was_at plan (finished p a) a Idle (get_or-set_same p.stages a Idle Idle lt') in
    omega (arith, change, was, now, room)

-- what is reserved after each move
pub reserved_begun : (plan : Plan) (p : Present) (a : ℕ) → a < length plan.sources → a < length p.stages → stage p a ≡ Idle
    → reserved plan (begun p a) ≡ reserved plan p + (gift a (count p a) plan.channels - need a (count p a) plan.channels)
reserved_begun plan p a lt lt' idle =
    let change = reserved_change plan p (begun p a) a lt (stage_only plan p (begun p a) a Begun refl refl) in
    let was = was_at plan p a Idle idle in
    let now = now_at plan p (begun p a) a Begun lt' refl refl in
    omega (arith, change, was, now)

pub reserved_fetched : (plan : Plan) (p : Present) (a : ℕ) → a < length plan.sources → a < length p.stages → stage p a ≡ Begun
    → reserved plan (fetched plan p a) + (gift a (count p a) plan.channels - need a (count p a) plan.channels) ≡ reserved plan p + gift a (count p a)
    plan.channels
reserved_fetched plan p a lt lt' at =
    let change = reserved_change plan p (fetched plan p a) a lt (stage_only plan p (fetched plan p a) a Fetched refl refl) in
    let was = was_at plan p a Begun at in
    let now = now_at plan p (fetched plan p a) a Fetched lt' refl refl in
    omega (arith, change, was, now)

pub reserved_written : (plan : Plan) (p : Present) (a : ℕ) (v : List ℤ) → a < length plan.sources → a < length p.stages → stage p a ≡ Fetched
    → reserved plan (written plan p a v) + gift a (count p a) plan.channels ≡ reserved plan p
reserved_written plan p a v lt lt' at =
    let change = reserved_change plan p (written plan p a v) a lt (stage_only plan p (written plan p a v) a Written refl refl) in
    let was = was_at plan p a Fetched at in
    let now = now_at plan p (written plan p a v) a Written lt' refl refl in
    omega (arith, change, was, now)

pub reserved_finished : (plan : Plan) (p : Present) (a : ℕ) → a < length plan.sources → a < length p.stages → stage p a ≡ Written
    → reserved plan (finished p a) ≡ reserved plan p
reserved_finished plan p a lt lt' at =
    let same : (b : ℕ) → b ≢ a → reserved_by plan (finished p a) b ≡ reserved_by plan p b = λ b ne.
    ap (λ s. reserved_at s (need b (count (finished p a) b) plan.channels) (gift b (count (finished p a) b) plan.channels))
    (get_or-set_other p.stages a b Idle Idle ne)
    ∙ ap (λ n. reserved_at (stage p b) (need b n plan.channels) (gift b n plan.channels)) (get_or-set_other p.counts a b (suc (count p a)) 0 ne) in
    let change = reserved_change plan p (finished p a) a lt same in
    let was = was_at plan p a Written at in
    let now : reserved_by plan (finished p a) a ≡ 0 = was_at plan (finished p a) a Idle (get_or-set_same p.stages a Idle Idle lt') in
    omega (arith, change, was, now)

-- what an actor that has begun keeps is reserved
pub begun_within : (plan : Plan) (p : Present) (a : ℕ) → a < length plan.sources → a < length p.stages → stage p a ≡ Begun
    → gift a (count p a) plan.channels - need a (count p a) plan.channels ≤ reserved plan p
begun_within plan p a lt lt' at =
    let q : Present = record { counts = p.counts; stages = set p.stages a Written; opens = p.opens; tokens = p.tokens } in
    let change = reserved_change plan p q a lt (stage_only plan p q a Written refl refl) in
    let was = was_at plan p a Begun at in
    let now = now_at plan p q a Written lt' refl refl in
    omega (arith, change, was, now)
