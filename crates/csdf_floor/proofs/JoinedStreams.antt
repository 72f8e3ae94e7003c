-- Two stretches of firings put end to end, channel by channel: the second begins with the tokens that wait at the end of the first.
use Rattle.std.proofs.Common.{◌≡◌, ℕ, zero, suc, ◌+◌, ◌-◌, ◌<◌, ◌≤◌, ◌==◌, inl, inr, Bool, true, false, cond, List, [], ◌∷◌, ◌++◌, length, take, drop, map, filter}
use Rattle.std.proofs.Common.{refl, ap, sym, ◌∙◌, arith, append_assoc, append-nil}
use Rattle.std.specs.Prelude.{ℤ, sum_by}
use Rattle.std.specs.List.{zip, AllByRecursion, AllZip}
use Rattle.std.proofs.Math.Seq.{drop-append-add}
use Rattle.std.proofs.lemmas.List.{length-drop, length-append, length-take-le, drop-append-le, take-append-le, take-append-drop, take_all}
use Rattle.std.proofs.lemmas.List.Sums.{sum_by-cons}
use Rattle.std.proofs.lemmas.Bool.Decides.{eqb_tells}
use Rattle.csdf_model.specs.Rates.{rate, total}
use Rattle.csdf_analysis.proofs.CountLemmas.{total_mono}
use Rattle.csdf_core.specs.Plan.{Channel, takes_of, gives_of}
use Rattle.csdf_core.specs.Rows.{shares}
use Rattle.csdf_core.specs.State.{Stream, waiting}
use Rattle.csdf_core.proofs.Able.{IsAbleAt, later}
use Rattle.csdf_core.proofs.Tallies.{IsTallied, AreTallied, takes_own, takes_none, gives_own, gives_none}
use Rattle.csdf_floor.proofs.Agreement.{IsAgreed, AreAgreed}
use Rattle.csdf_floor.proofs.Places.{inputs_at, outputs_at}
use Rattle.csdf_floor.proofs.Takings.{inputs_to}

-- a channel that begins with other tokens
abbrev pub begun_with : Channel × Stream → Channel
begun_with row = record {
  from = row.0.from;
  to = row.0.to;
  produce = row.0.produce;
  consume = row.0.consume;
  initial = waiting row.1;
  capacity = row.0.capacity;
}

-- the channels, each beginning with the tokens that wait in its stream
abbrev pub going_on : List Channel → List Stream → List Channel
going_on cs xs = map begun_with (zip cs xs)

-- what was taken of the first, and then the whole second
abbrev pub joined_stream : Stream × Stream → Stream
joined_stream pair = record { written = take pair.0.taken pair.0.written ++ pair.1.written; taken = pair.0.taken + pair.1.taken }

abbrev pub joined_streams : List Stream → List Stream → List Stream
joined_streams xs ys = map joined_stream (zip xs ys)

-- these counts of firings are whole periods of a channel's rates
pub record IsWholeAt (n : ℕ → ℕ) (c : Channel) : Type 0 where
  pub put : (k : ℕ) → total c.produce (n c.from + k) ≡ total c.produce (n c.from) + total c.produce k
  pub taken : (k : ℕ) → total c.consume (n c.to + k) ≡ total c.consume (n c.to) + total c.consume k

-- after so many firings the channel has this stream
pub record IsFirst (n : ℕ → ℕ) (c : Channel) (x : Stream) : Type 0 where
  pub tallied : IsTallied n n n c x
  pub whole : IsWholeAt n c

-- and after those of the second stretch this one
pub record Meets (n put got begun : ℕ → ℕ) (c : Channel) (x y : Stream) : Type 0 where
  pub first : IsFirst n c x
  pub second : IsTallied put got begun (begun_with (c, x)) y
  pub agreed : IsAgreed y.written (waiting x)

abbrev pub AllMeet : (ℕ → ℕ) → (ℕ → ℕ) → (ℕ → ℕ) → (ℕ → ℕ) → List Channel → List Stream → List Stream → Type 0
AllMeet n put got begun [] [] [] = Unit {0}
AllMeet n put got begun [] [] (y ∷ ys) = ⊥
AllMeet n put got begun [] (x ∷ xs) ys = ⊥
AllMeet n put got begun (c ∷ cs) [] ys = ⊥
AllMeet n put got begun (c ∷ cs) (x ∷ xs) [] = ⊥
AllMeet n put got begun (c ∷ cs) (x ∷ xs) (y ∷ ys) = Meets n put got begun c x y × AllMeet n put got begun cs xs ys

-- ---- rates

rate_again : (rates : List ℕ) (m k : ℕ) → ((j : ℕ) → total rates (m + j) ≡ total rates m + total rates j) → rate rates (m + k) ≡ rate rates k
rate_again rates m k whole =
    let here = whole k in
    let next = whole (suc k) in
    let last : total rates (suc k) ≡ total rates k + rate rates k = refl in
    let step : total rates (m + suc k) ≡ total rates (m + k) + rate rates (m + k) =
    ap (total rates) (let e : m + suc k ≡ suc (m + k) = omega arith in e) in
    omega arith

-- ---- one channel

front_stays : (p n : ℕ) (xs ys : List ℤ) → p + n ≤ length xs → take n (drop p (xs ++ ys)) ≡ take n (drop p xs)
front_stays p n xs ys le =
    ap (take n) (drop-append-le p xs ys (omega arith))
    ∙ take-append-le n (drop p xs) ys (let e = length-drop p xs in omega arith)

none_of : (n m p q : ℕ) (xs ys : List ℤ) → n ≡ 0 → m ≡ 0 → take n (drop p xs) ≡ take m (drop q ys)
none_of n m p q xs ys e f = ap (λ i. take i (drop p xs)) e ∙ ap (λ i. take i (drop q ys)) (sym f)

module _ (n : ℕ → ℕ) (c : Channel) (x : Stream) (is : IsFirst n c x) where
  lawful : x.taken ≤ length x.written
  lawful = let taken = is.tallied.taken in let covered = is.tallied.covered in omega arith

  length_front : length (take x.taken x.written) ≡ x.taken
  length_front = length-take-le x.taken x.written lawful

  pub length_waiting : x.taken + length (waiting x) ≡ length c.initial + total c.produce (n c.from)
  length_waiting =
      let len : length (waiting x) ≡ length x.written - x.taken = length-drop x.taken x.written in
      let le = lawful in
      let all = is.tallied.written in
      omega arith

module _ (n put got begun : ℕ → ℕ) (c : Channel) (x y : Stream) (m : Meets n put got begun c x y) where
  abbrev joint : Stream
  joint = joined_stream (x, y)

  -- the second stretch goes on where the first ended
  goes_on : joint.written ≡ x.written ++ drop (length (waiting x)) y.written
  goes_on =
      let l : ℕ = length (waiting x) in
      let enough : l ≤ length y.written = (let all = m.second.written in omega arith) in
      let front : take l y.written ≡ waiting x = m.agreed l enough (omega arith) ∙ take_all l (waiting x) (omega arith) in
      let parts : y.written ≡ waiting x ++ drop l y.written = sym (take-append-drop l y.written) ∙ ap (λ (z : List ℤ). z ++ drop l y.written) front in
      ap (λ (z : List ℤ). take x.taken x.written ++ z) parts
      ∙ sym (append_assoc (take x.taken x.written) (waiting x) (drop l y.written))
      ∙ ap (λ (z : List ℤ). z ++ drop l y.written) (take-append-drop x.taken x.written)

  input_first : (a k : ℕ) → k < n a → take (takes_of a k c) (drop (total c.consume k) joint.written) ≡ take (takes_of a k c) (drop (total c.consume k) x.written)
  input_first a k lt = elim (eqb_tells c.to a) [
    | inl own ↦
        let takes = takes_own a k c own.1 in
        let last : total c.consume (suc k) ≡ total c.consume k + rate c.consume k = refl in
        let some : total c.consume (suc k) ≤ total c.consume (n c.to) = total_mono c.consume (suc k) (n c.to) (let e = ap n own.1 in omega arith) in
        let covered = m.first.tallied.covered in
        ap (λ (z : List ℤ). take (takes_of a k c) (drop (total c.consume k) z)) goes_on
        ∙ front_stays (total c.consume k) (takes_of a k c) x.written (drop (length (waiting x)) y.written) (omega arith)
    | inr other ↦ none_of (takes_of a k c) (takes_of a k c) (total c.consume k) (total c.consume k) joint.written x.written (takes_none a k c other.1)
        (takes_none a k c other.1)
  ]

  output_first : (a k : ℕ) → k < n a → take (gives_of a k c) (drop (length c.initial + total c.produce k) joint.written)
      ≡ take (gives_of a k c) (drop (length c.initial + total c.produce k) x.written)
  output_first a k lt = elim (eqb_tells c.from a) [
    | inl own ↦
        let gives = gives_own a k c own.1 in
        let last : total c.produce (suc k) ≡ total c.produce k + rate c.produce k = refl in
        let some : total c.produce (suc k) ≤ total c.produce (n c.from) = total_mono c.produce (suc k) (n c.from) (let e = ap n own.1 in omega arith) in
        let all = m.first.tallied.written in
        ap (λ (z : List ℤ). take (gives_of a k c) (drop (length c.initial + total c.produce k) z)) goes_on
        ∙ front_stays (length c.initial + total c.produce k) (gives_of a k c) x.written (drop (length (waiting x)) y.written) (omega arith)
    | inr other ↦ none_of (gives_of a k c) (gives_of a k c) (length c.initial + total c.produce k) (length c.initial + total c.produce k) joint.written x.written
        (gives_none a k c other.1) (gives_none a k c other.1)
  ]

  takes_again : (a j : ℕ) → takes_of a (n a + j) c ≡ takes_of a j c
  takes_again a j = elim (eqb_tells c.to a) [
    | inl own ↦ takes_own a (n a + j) c own.1
        ∙ ap (λ (b : ℕ). rate c.consume (n b + j)) (sym own.1)
        ∙ rate_again c.consume (n c.to) j m.first.whole.taken
        ∙ sym (takes_own a j c own.1)
    | inr other ↦ takes_none a (n a + j) c other.1 ∙ sym (takes_none a j c other.1)
  ]

  input_second : (a j : ℕ) → take (takes_of a (n a + j) c) (drop (total c.consume (n a + j)) joint.written)
      ≡ take (takes_of a j c) (drop (total c.consume j) y.written)
  input_second a j = elim (eqb_tells c.to a) [
    | inl own ↦
        let front = length_front n c x m.first in
        let place : total c.consume (n a + j) ≡ length (take x.taken x.written) + total c.consume j =
        ap (λ (b : ℕ). total c.consume (n b + j)) (sym own.1) ∙ m.first.whole.taken j
        ∙ ap (λ (i : ℕ). i + total c.consume j) (sym m.first.tallied.taken ∙ sym front) in
        ap (λ (i : ℕ). take i (drop (total c.consume (n a + j)) (take x.taken x.written ++ y.written))) (takes_again a j)
        ∙ ap (λ (i : ℕ). take (takes_of a j c) (drop i (take x.taken x.written ++ y.written))) place
        ∙ ap (take (takes_of a j c)) (drop-append-add (take x.taken x.written) y.written (total c.consume j))
    | inr other ↦ none_of (takes_of a (n a + j) c) (takes_of a j c) (total c.consume (n a + j)) (total c.consume j) (take x.taken x.written ++ y.written)
        y.written (takes_none a (n a + j) c other.1) (takes_none a j c other.1)
  ]

  output_second : (a j : ℕ) → gives_of a (n a + j) c ≡ gives_of a j c → take (gives_of a (n a + j) c)
      (drop (length c.initial + total c.produce (n a + j)) joint.written)
      ≡ take (gives_of a j c) (drop (length (waiting x) + total c.produce j) y.written)
  output_second a j again = elim (eqb_tells c.from a) [
    | inl own ↦
        let front = length_front n c x m.first in
        let both = length_waiting n c x m.first in
        let more : total c.produce (n a + j) ≡ total c.produce (n c.from) + total c.produce j =
        ap (λ (b : ℕ). total c.produce (n b + j)) (sym own.1) ∙ m.first.whole.put j in
        let place : length c.initial + total c.produce (n a + j) ≡ length (take x.taken x.written) + (length (waiting x) + total c.produce j) = omega arith in
        ap (λ (i : ℕ). take i (drop (length c.initial + total c.produce (n a + j)) (take x.taken x.written ++ y.written))) again
        ∙ ap (λ (i : ℕ). take (gives_of a j c) (drop i (take x.taken x.written ++ y.written))) place
        ∙ ap (take (gives_of a j c)) (drop-append-add (take x.taken x.written) y.written (length (waiting x) + total c.produce j))
    | inr other ↦ none_of (gives_of a (n a + j) c) (gives_of a j c) (length c.initial + total c.produce (n a + j)) (length (waiting x) + total c.produce j)
        (take x.taken x.written ++ y.written) y.written (gives_none a (n a + j) c other.1) (gives_none a j c other.1)
  ]

  tallied_both : IsTallied (λ b. n b + put b) (λ b. n b + got b) (λ b. n b + begun b) c joint
  tallied_both =
      let front = length_front n c x m.first in
      let both = length_waiting n c x m.first in
      let len : length (take x.taken x.written ++ y.written) ≡ length (take x.taken x.written) + length y.written =
      length-append (take x.taken x.written) y.written in
      let second = m.second.written in
      let covered = m.second.covered in
      let put_more = m.first.whole.put (put c.from) in
      let got_more = m.first.whole.taken (got c.to) in
      let begun_more = m.first.whole.taken (begun c.to) in
      let was = m.first.tallied.taken in
      let now = m.second.taken in
      record { written = omega arith; taken = omega arith; covered = omega arith }

  agreed_both : IsAgreed x.written c.initial → IsAgreed joint.written c.initial
  agreed_both same i le1 le2 =
      let all = m.first.tallied.written in
      ap (take i) goes_on ∙ take-append-le i x.written (drop (length (waiting x)) y.written) (omega arith) ∙ same i (omega arith) le2

gives_again : (n : ℕ → ℕ) (a j : ℕ) (c : Channel) → IsWholeAt n c → gives_of a (n a + j) c ≡ gives_of a j c
gives_again n a j c whole = elim (eqb_tells c.from a) [
  | inl own ↦ gives_own a (n a + j) c own.1
      ∙ ap (λ (b : ℕ). rate c.produce (n b + j)) (sym own.1)
      ∙ rate_again c.produce (n c.from) j whole.put
      ∙ sym (gives_own a j c own.1)
  | inr other ↦ gives_none a (n a + j) c other.1 ∙ sym (gives_none a j c other.1)
]

-- ---- all channels, by what the first stretch has

pub shares_again : (n : ℕ → ℕ) (a j : ℕ) (cs : List Channel) (xs : List Stream) (v : List ℤ) → AllZip (IsFirst n) cs xs
    → shares a (n a + j) cs v ≡ shares a j (going_on cs xs) v
shares_again n a j [] xs v is = refl
shares_again n a j (c ∷ cs) [] v is = absurd is
shares_again n a j (c ∷ cs) (x ∷ xs) v is =
    ap (λ (i : ℕ). take i v ∷ shares a (n a + j) cs (drop i v)) (gives_again n a j c is.0.whole)
    ∙ ap (λ (z : List (List ℤ)). take (gives_of a j c) v ∷ z) (shares_again n a j cs xs (drop (gives_of a j c) v) is.1)

counts_if : (b : Bool) (a k j : ℕ) (c : Channel) (x : Stream) (ds es : List Channel) → gives_of a k c ≡ gives_of a j c → map (gives_of a k) ds ≡ map (gives_of a j) es
    → map (gives_of a k) (cond b (c ∷ ds) ds) ≡ map (gives_of a j) (cond b (begun_with (c, x) ∷ es) es)
counts_if true a k j c x ds es e rest = ap (λ (i : ℕ). i ∷ map (gives_of a k) ds) e ∙ ap (λ (z : List ℕ). gives_of a j c ∷ z) rest
counts_if false a k j c x ds es e rest = rest

pub counts_again : (n : ℕ → ℕ) (a j : ℕ) (cs : List Channel) (xs : List Stream) → AllZip (IsFirst n) cs xs
    → map (gives_of a (n a + j)) (filter (λ (d : Channel). d.from == a) cs) ≡ map (gives_of a j) (filter (λ (d : Channel). d.from == a) (going_on cs xs))
counts_again n a j [] xs is = refl
counts_again n a j (c ∷ cs) [] is = absurd is
counts_again n a j (c ∷ cs) (x ∷ xs) is =
    counts_if (c.from == a) a (n a + j) j c x (filter (λ (d : Channel). d.from == a) cs) (filter (λ (d : Channel). d.from == a) (going_on cs xs))
    (gives_again n a j c is.0.whole) (counts_again n a j cs xs is.1)

-- what the first k firings of the actor give
abbrev pub given_by : ℕ → ℕ → Channel → ℕ
given_by a k c = cond (c.from == a) (total c.produce k) 0

given_one : (n : ℕ → ℕ) (a k : ℕ) (c : Channel) → IsWholeAt n c → given_by a (n a + k) c ≡ given_by a (n a) c + given_by a k c
given_one n a k c whole = elim (eqb_tells c.from a) [
  | inl own ↦
      let more : total c.produce (n a + k) ≡ total c.produce (n a) + total c.produce k =
      ap (λ (b : ℕ). total c.produce (n b + k)) (sym own.1) ∙ whole.put k ∙ ap (λ (b : ℕ). total c.produce (n b) + total c.produce k) own.1 in
      ap (λ b. cond b (total c.produce (n a + k)) 0) own.0 ∙ more
      ∙ sym (ap (λ b. cond b (total c.produce (n a)) 0 + cond b (total c.produce k) 0) own.0)
  | inr other ↦
      ap (λ b. cond b (total c.produce (n a + k)) 0) other.0 ∙ (let none : 0 ≡ 0 + 0 = omega arith in none)
      ∙ sym (ap (λ b. cond b (total c.produce (n a)) 0 + cond b (total c.produce k) 0) other.0)
]

pub given_more : (n : ℕ → ℕ) (a k : ℕ) (cs : List Channel) (xs : List Stream) → AllZip (IsFirst n) cs xs
    → sum_by (given_by a (n a + k)) cs ≡ sum_by (given_by a (n a)) cs + sum_by (given_by a k) (going_on cs xs)
given_more n a k [] xs is = omega arith
given_more n a k (c ∷ cs) [] is = absurd is
given_more n a k (c ∷ cs) (x ∷ xs) is =
    let here = given_one n a k c is.0.whole in
    let rest = given_more n a k cs xs is.1 in
    let one = sum_by-cons (given_by a (n a + k)) c cs in
    let two = sum_by-cons (given_by a (n a)) c cs in
    let three = sum_by-cons (given_by a k) (begun_with (c, x)) (going_on cs xs) in
    omega arith

-- a firing that is able to go in the second stretch is so beside both, and the other way round
later_more : (n got : ℕ → ℕ) (a k : ℕ) (b : ℕ) → later (λ d. n d + got d) a (n a + k) b ≡ n b + later got a k b
later_more n got a k b = elim (eqb_tells b a) [
  | inl e ↦ ap (λ t. cond t (suc (n a + k)) (n b + got b)) e.0 ∙ (let s : suc (n a + k) ≡ n a + suc k = omega arith in s)
      ∙ ap (λ (d : ℕ). n d + suc k) (sym e.1)
      ∙ sym (ap (λ t. n b + cond t (suc k) (got b)) e.0)
  | inr e ↦ ap (λ t. cond t (suc (n a + k)) (n b + got b)) e.0 ∙ sym (ap (λ t. n b + cond t (suc k) (got b)) e.0)
]

module _ (n put got : ℕ → ℕ) (a k : ℕ) (c : Channel) (x : Stream) (is : IsFirst n c x) where
  put_on : total c.produce (n c.from + put c.from) ≡ total c.produce (n c.from) + total c.produce (put c.from)
  put_on = is.whole.put (put c.from)

  taken_on : c.to ≡ a → total c.consume (suc (n a + k)) ≡ total c.consume (n c.to) + total c.consume (suc k)
  taken_on to = ap (total c.consume) (let s : suc (n a + k) ≡ n a + suc k = omega arith in s ∙ ap (λ (d : ℕ). n d + suc k) (sym to)) ∙ is.whole.taken (suc k)

  made_on : c.from ≡ a → total c.produce (suc (n a + k)) ≡ total c.produce (n c.from) + total c.produce (suc k)
  made_on from = ap (total c.produce) (let s : suc (n a + k) ≡ n a + suc k = omega arith in s ∙ ap (λ (d : ℕ). n d + suc k) (sym from)) ∙ is.whole.put (suc k)

  later_on : total c.consume (later (λ d. n d + got d) a (n a + k) c.to) ≡ total c.consume (n c.to) + total c.consume (later got a k c.to)
  later_on = ap (total c.consume) (later_more n got a k c.to) ∙ is.whole.taken (later got a k c.to)

  able_one : IsAbleAt put got a k (begun_with (c, x)) → IsAbleAt (λ b. n b + put b) (λ b. n b + got b) a (n a + k) c
  able_one able =
      let len = length_waiting n c x is in
      let was = is.tallied.taken in (
        (λ to. let h = able.0 to in let p = put_on in let t = taken_on to in omega arith),
        (λ from. let h = able.1 from in let p = made_on from in let t = later_on in omega arith),
      )

  able_one_back : IsAbleAt (λ b. n b + put b) (λ b. n b + got b) a (n a + k) c → IsAbleAt put got a k (begun_with (c, x))
  able_one_back able =
      let len = length_waiting n c x is in
      let was = is.tallied.taken in (
        (λ to. let h = able.0 to in let p = put_on in let t = taken_on to in omega arith),
        (λ from. let h = able.1 from in let p = made_on from in let t = later_on in omega arith),
      )

pub able_rows : (n put got : ℕ → ℕ) (a k : ℕ) (cs : List Channel) (xs : List Stream) → AllZip (IsFirst n) cs xs
    → AllByRecursion (IsAbleAt put got a k) (going_on cs xs) → AllByRecursion (IsAbleAt (λ b. n b + put b) (λ b. n b + got b) a (n a + k)) cs
able_rows n put got a k [] xs is able = tt
able_rows n put got a k (c ∷ cs) [] is able = absurd is
able_rows n put got a k (c ∷ cs) (x ∷ xs) is able = (able_one n put got a k c x is.0 able.0, able_rows n put got a k cs xs is.1 able.1)

pub able_rows_back : (n put got : ℕ → ℕ) (a k : ℕ) (cs : List Channel) (xs : List Stream) → AllZip (IsFirst n) cs xs
    → AllByRecursion (IsAbleAt (λ b. n b + put b) (λ b. n b + got b) a (n a + k)) cs → AllByRecursion (IsAbleAt put got a k) (going_on cs xs)
able_rows_back n put got a k [] xs is able = tt
able_rows_back n put got a k (c ∷ cs) [] is able = absurd is
able_rows_back n put got a k (c ∷ cs) (x ∷ xs) is able = (able_one_back n put got a k c x is.0 able.0, able_rows_back n put got a k cs xs is.1 able.1)

-- ---- all channels, by what both have

module _ (n put got begun : ℕ → ℕ) where
  pub all_first : (cs : List Channel) (xs ys : List Stream) → AllMeet n put got begun cs xs ys → AllZip (IsFirst n) cs xs
  all_first [] [] [] m = tt
  all_first [] [] (y ∷ ys) m = absurd m
  all_first [] (x ∷ xs) ys m = absurd m
  all_first (c ∷ cs) [] ys m = absurd m
  all_first (c ∷ cs) (x ∷ xs) [] m = absurd m
  all_first (c ∷ cs) (x ∷ xs) (y ∷ ys) m = (m.0.first, all_first cs xs ys m.1)

  pub all_meet : (cs : List Channel) (xs ys : List Stream) → AllZip (IsFirst n) cs xs → length ys ≡ length cs → AreTallied put got begun (going_on cs xs) ys
      → AreAgreed ys (map (λ (c : Channel). record { written = c.initial; taken = 0 }) (going_on cs xs)) → AllMeet n put got begun cs xs ys
  all_meet [] [] [] is len t same = tt
  all_meet [] [] (y ∷ ys) is len t same = absurd (omega arith)
  all_meet [] (x ∷ xs) ys is len t same = absurd is
  all_meet (c ∷ cs) [] ys is len t same = absurd is
  all_meet (c ∷ cs) (x ∷ xs) [] is len t same = absurd (omega arith)
  all_meet (c ∷ cs) (x ∷ xs) (y ∷ ys) is len t same =
      (record { first = is.0; second = t.0; agreed = same.0 }, all_meet cs xs ys is.1 (omega arith) t.1 same.1)

  pub length_joined : (cs : List Channel) (xs ys : List Stream) → AllMeet n put got begun cs xs ys → length (joined_streams xs ys) ≡ length cs
  length_joined [] [] [] m = refl
  length_joined [] [] (y ∷ ys) m = absurd m
  length_joined [] (x ∷ xs) ys m = absurd m
  length_joined (c ∷ cs) [] ys m = absurd m
  length_joined (c ∷ cs) (x ∷ xs) [] m = absurd m
  length_joined (c ∷ cs) (x ∷ xs) (y ∷ ys) m = ap suc (length_joined cs xs ys m.1)

  pub tallied_joined : (cs : List Channel) (xs ys : List Stream) → AllMeet n put got begun cs xs ys
      → AreTallied (λ b. n b + put b) (λ b. n b + got b) (λ b. n b + begun b) cs (joined_streams xs ys)
  tallied_joined [] [] [] m = tt
  tallied_joined [] [] (y ∷ ys) m = absurd m
  tallied_joined [] (x ∷ xs) ys m = absurd m
  tallied_joined (c ∷ cs) [] ys m = absurd m
  tallied_joined (c ∷ cs) (x ∷ xs) [] m = absurd m
  tallied_joined (c ∷ cs) (x ∷ xs) (y ∷ ys) m = (tallied_both n put got begun c x y m.0, tallied_joined cs xs ys m.1)

  pub agreed_joined : (cs : List Channel) (xs ys : List Stream) → AllMeet n put got begun cs xs ys
      → AreAgreed xs (map (λ (c : Channel). record { written = c.initial; taken = 0 }) cs)
      → AreAgreed (joined_streams xs ys) (map (λ (c : Channel). record { written = c.initial; taken = 0 }) cs)
  agreed_joined [] [] [] m same = tt
  agreed_joined [] [] (y ∷ ys) m same = absurd m
  agreed_joined [] (x ∷ xs) ys m same = absurd m
  agreed_joined (c ∷ cs) [] ys m same = absurd m
  agreed_joined (c ∷ cs) (x ∷ xs) [] m same = absurd m
  agreed_joined (c ∷ cs) (x ∷ xs) (y ∷ ys) m same = (agreed_both n put got begun c x y m.0 same.0, agreed_joined cs xs ys m.1 same.1)

  pub inputs_first : (a k : ℕ) (cs : List Channel) (xs ys : List Stream) → AllMeet n put got begun cs xs ys → k < n a
      → inputs_at a k cs (joined_streams xs ys) ≡ inputs_at a k cs xs
  inputs_first a k [] [] [] m lt = refl
  inputs_first a k [] [] (y ∷ ys) m lt = absurd m
  inputs_first a k [] (x ∷ xs) ys m lt = absurd m
  inputs_first a k (c ∷ cs) [] ys m lt = absurd m
  inputs_first a k (c ∷ cs) (x ∷ xs) [] m lt = absurd m
  inputs_first a k (c ∷ cs) (x ∷ xs) (y ∷ ys) m lt =
      ap (λ (z : List ℤ). z ++ inputs_at a k cs (joined_streams xs ys)) (input_first n put got begun c x y m.0 a k lt)
      ∙ ap (λ (z : List ℤ). take (takes_of a k c) (drop (total c.consume k) x.written) ++ z) (inputs_first a k cs xs ys m.1 lt)

  pub outputs_first : (a k : ℕ) (cs : List Channel) (xs ys : List Stream) → AllMeet n put got begun cs xs ys → k < n a
      → outputs_at a k cs (joined_streams xs ys) ≡ outputs_at a k cs xs
  outputs_first a k [] [] [] m lt = refl
  outputs_first a k [] [] (y ∷ ys) m lt = absurd m
  outputs_first a k [] (x ∷ xs) ys m lt = absurd m
  outputs_first a k (c ∷ cs) [] ys m lt = absurd m
  outputs_first a k (c ∷ cs) (x ∷ xs) [] m lt = absurd m
  outputs_first a k (c ∷ cs) (x ∷ xs) (y ∷ ys) m lt =
      ap (λ (z : List ℤ). z ∷ outputs_at a k cs (joined_streams xs ys)) (output_first n put got begun c x y m.0 a k lt)
      ∙ ap (λ (z : List (List ℤ)). take (gives_of a k c) (drop (length c.initial + total c.produce k) x.written) ∷ z) (outputs_first a k cs xs ys m.1 lt)

  pub inputs_second : (a j : ℕ) (cs : List Channel) (xs ys : List Stream) → AllMeet n put got begun cs xs ys
      → inputs_at a (n a + j) cs (joined_streams xs ys) ≡ inputs_at a j (going_on cs xs) ys
  inputs_second a j [] [] [] m = refl
  inputs_second a j [] [] (y ∷ ys) m = absurd m
  inputs_second a j [] (x ∷ xs) ys m = absurd m
  inputs_second a j (c ∷ cs) [] ys m = absurd m
  inputs_second a j (c ∷ cs) (x ∷ xs) [] m = absurd m
  inputs_second a j (c ∷ cs) (x ∷ xs) (y ∷ ys) m =
      ap (λ (z : List ℤ). z ++ inputs_at a (n a + j) cs (joined_streams xs ys)) (input_second n put got begun c x y m.0 a j)
      ∙ ap (λ (z : List ℤ). take (takes_of a j c) (drop (total c.consume j) y.written) ++ z) (inputs_second a j cs xs ys m.1)

  pub outputs_second : (a j : ℕ) (cs : List Channel) (xs ys : List Stream) → AllMeet n put got begun cs xs ys
      → outputs_at a (n a + j) cs (joined_streams xs ys) ≡ outputs_at a j (going_on cs xs) ys
  outputs_second a j [] [] [] m = refl
  outputs_second a j [] [] (y ∷ ys) m = absurd m
  outputs_second a j [] (x ∷ xs) ys m = absurd m
  outputs_second a j (c ∷ cs) [] ys m = absurd m
  outputs_second a j (c ∷ cs) (x ∷ xs) [] m = absurd m
  outputs_second a j (c ∷ cs) (x ∷ xs) (y ∷ ys) m =
      ap (λ (z : List ℤ). z ∷ outputs_at a (n a + j) cs (joined_streams xs ys))
      (output_second n put got begun c x y m.0 a j (gives_again n a j c m.0.first.whole))
      ∙ ap (λ (z : List (List ℤ)). take (gives_of a j c) (drop (length (waiting x) + total c.produce j) y.written) ∷ z) (outputs_second a j cs xs ys m.1)

  -- the inputs of the firings of both
  pub inputs_to_first : (a k : ℕ) (cs : List Channel) (xs ys : List Stream) → AllMeet n put got begun cs xs ys → k ≤ n a
      → inputs_to a k cs (joined_streams xs ys) ≡ inputs_to a k cs xs
  inputs_to_first a zero cs xs ys m le = refl
  inputs_to_first a (suc k) cs xs ys m le =
      ap (λ (z : List ℤ). z ++ inputs_at a k cs (joined_streams xs ys)) (inputs_to_first a k cs xs ys m (omega arith))
      ∙ ap (λ (z : List ℤ). inputs_to a k cs xs ++ z) (inputs_first a k cs xs ys m (omega arith))

  pub inputs_to_both : (a j : ℕ) (cs : List Channel) (xs ys : List Stream) → AllMeet n put got begun cs xs ys
      → inputs_to a (n a + j) cs (joined_streams xs ys) ≡ inputs_to a (n a) cs xs ++ inputs_to a j (going_on cs xs) ys
  inputs_to_both a zero cs xs ys m =
      ap (λ (i : ℕ). inputs_to a i cs (joined_streams xs ys)) (let e : n a + 0 ≡ n a = omega arith in e)
      ∙ inputs_to_first a (n a) cs xs ys m (omega arith)
      ∙ sym (append-nil (inputs_to a (n a) cs xs))
  inputs_to_both a (suc j) cs xs ys m =
      ap (λ (i : ℕ). inputs_to a i cs (joined_streams xs ys)) (let e : n a + suc j ≡ suc (n a + j) = omega arith in e)
      ∙ ap (λ (z : List ℤ). z ++ inputs_at a (n a + j) cs (joined_streams xs ys)) (inputs_to_both a j cs xs ys m)
      ∙ ap (λ (z : List ℤ). (inputs_to a (n a) cs xs ++ inputs_to a j (going_on cs xs) ys) ++ z) (inputs_second a j cs xs ys m)
      ∙ append_assoc (inputs_to a (n a) cs xs) (inputs_to a j (going_on cs xs) ys) (inputs_at a j (going_on cs xs) ys)

  -- what waits is what waits in the second
  waiting_one : (c : Channel) (x y : Stream) → Meets n put got begun c x y → waiting (joined_stream (x, y)) ≡ waiting y
  waiting_one c x y m =
      let front = length_front n c x m.first in
      ap (λ (i : ℕ). drop (i + y.taken) (take x.taken x.written ++ y.written)) (sym front) ∙ drop-append-add (take x.taken x.written) y.written y.taken

  pub waiting_joined : (cs : List Channel) (xs ys : List Stream) → AllMeet n put got begun cs xs ys
      → map waiting (joined_streams xs ys) ≡ map waiting ys
  waiting_joined [] [] [] m = refl
  waiting_joined [] [] (y ∷ ys) m = absurd m
  waiting_joined [] (x ∷ xs) ys m = absurd m
  waiting_joined (c ∷ cs) [] ys m = absurd m
  waiting_joined (c ∷ cs) (x ∷ xs) [] m = absurd m
  waiting_joined (c ∷ cs) (x ∷ xs) (y ∷ ys) m =
      ap (λ (z : List ℤ). z ∷ map waiting (joined_streams xs ys)) (waiting_one c x y m.0)
      ∙ ap (λ (z : List (List ℤ)). waiting y ∷ z) (waiting_joined cs xs ys m.1)
