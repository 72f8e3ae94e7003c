-- The values of a block of firings, told place by place, with weights that end in zeros.
use native.Mathlib.Decide.{dec_lt}
use mathlib.Core.Logic.{dite}
use Rattle.std.proofs.Common.{◌≡◌, ◌⊎◌, inl, inr, ℕ, zero, suc, ◌+◌, ◌-◌, ◌*◌, ◌/◌, ◌^◌, ◌<◌, ◌≤◌, List, [], ◌∷◌, ◌++◌, length, take, drop, refl, sym, ap, ◌∙◌, arith, append-nil}
use Rattle.std.proofs.Common.{ℤ, pos, ◌+ℤ◌, ◌*ℤ◌}
use Rattle.std.specs.Prelude.{slice_range, slice_set}
use Rattle.std.proofs.lemmas.Int.{ints}
use Rattle.std.proofs.lemmas.List.{get_or-drop, get_or-take, get_or-set_same, get_or-set_other, length-take, length-take-le, drop-drop, length-drop, take-append-drop}
use Rattle.std.proofs.lemmas.Nat.{mul-le}
use Rattle.std.proofs.Math.IntN.{zero-*ℤ}
use Rattle.std.proofs.Math.Nat.{suc-mul, lt-div-mul-add, add-mul}
use Rattle.csdf_model.specs.declared.parts.Kernel.TheVariants.{Fir}
use Rattle.csdf_kernel.specs.Filter.{AreTapsAt, IsPadded}
use Rattle.csdf_kernel.specs.Light.{HoldsPlace, KeepsOthers}
use Rattle.csdf_kernel.specs.Value.{places, token_at, total, clamp, floor, convolution, filter_token, value_of, values_of}
use Rattle.csdf_kernel.proofs.PlaceLemmas.{places_alike}
use Rattle.csdf_kernel.proofs.NumberLemmas.{convolution_more, convolution_stops}
use Rattle.csdf_kernel.proofs.ValueLemmas.{places_are}

-- ---- one token

-- sums of the same products
convolution_same : (v w xs ys : List ℤ) (i k n : ℕ)
    → ((j : ℕ) → j < n → (token_at v j *ℤ token_at xs (i + j)) ≡ (token_at w j *ℤ token_at ys (k + j)))
    → convolution v n xs i ≡ convolution w n ys k
unfolding convolution
convolution_same v w xs ys i k n h = ap total (places_alike (λ j. token_at v j *ℤ token_at xs (i + j)) (λ j. token_at w j *ℤ token_at ys (k + j)) n h)

-- the zeros add nothing
convolution_padded : (weights padded xs : List ℤ) (have at more : ℕ) → IsPadded weights have padded
    → convolution padded (have + more) xs at ≡ convolution padded have xs at
convolution_padded weights padded xs have at zero is =
    let e : have + 0 ≡ have = omega arith in
    ap (λ (n : ℕ). convolution padded n xs at) e
convolution_padded weights padded xs have at (suc more) is =
    let n : ℕ = have + more in
    let e : have + suc more ≡ n + 1 = omega arith in
    let none : (token_at padded n *ℤ token_at xs (at + n)) ≡ pos 0 =
    ap (λ (z : ℤ). z *ℤ token_at xs (at + n)) (is.zeros n (omega arith)) ∙ zero-*ℤ (token_at xs (at + n)) in
    let same : (convolution padded n xs at +ℤ pos 0) ≡ convolution padded n xs at = omega (arith, ints) in
    ap (λ (k : ℕ). convolution padded k xs at) e ∙ convolution_more padded xs at n
    ∙ ap (λ (z : ℤ). convolution padded n xs at +ℤ z) none ∙ same ∙ convolution_padded weights padded xs have at more is

-- a firing's own tokens
part_token : (xs : List ℤ) (from need p : ℕ) → p < need → token_at (slice_range xs from (from + need)) p ≡ token_at xs (from + p)
part_token xs from need p lt = get_or-take (from + need - from) (drop from xs) p (pos 0) (omega (arith, lt)) ∙ get_or-drop from xs p (pos 0)

-- the sum at a place of a firing is that of the padded weights among all inputs
padded_sum_is : (weights padded xs : List ℤ) (have taps n need from place : ℕ) → IsPadded weights have padded → AreTapsAt weights taps need place have
    → have ≤ n → convolution padded n xs (from + place) ≡ convolution weights taps (slice_range xs from (from + need)) place
padded_sum_is weights padded xs have taps n need from place is at le =
    let part : List ℤ = slice_range xs from (from + need) in
    let e : n ≡ have + (n - have) = omega (arith, le) in
    let few : length part ≤ need = let long = length-take (from + need - from) (drop from xs) in omega (arith, long) in
    let there : (j : ℕ) → j < have → place + j < need = λ j lt. elim at.there [
      | inl within ↦ omega (arith, within, lt)
      | inr none ↦ absurd (omega (arith, none, lt))
    ] in
    let same : (j : ℕ) → j < have → (token_at padded j *ℤ token_at xs (from + place + j)) ≡ (token_at weights j *ℤ token_at part (place + j)) =
    λ j lt. let where_is : from + place + j ≡ from + (place + j) = omega arith in
    ap (λ (z : ℤ). z *ℤ token_at xs (from + place + j)) (is.alike j lt)
    ∙ ap (λ (z : ℤ). token_at weights j *ℤ z) (ap (λ (p : ℕ). token_at xs p) where_is ∙ sym (part_token xs from need (place + j) (there j lt))) in
    let all : have ≡ taps ⊎ length weights ≤ have ⊎ length part ≤ place + have = elim at.all [
      | inl whole ↦ inl whole
      | inr (inl weighted) ↦ inr (inl weighted)
      | inr (inr past) ↦ inr (inr (omega (arith, past, few)))
    ] in
    ap (λ (k : ℕ). convolution padded k xs (from + place)) e ∙ convolution_padded weights padded xs have (from + place) (n - have) is
    ∙ convolution_same padded weights xs part (from + place) place have same ∙ convolution_stops weights part place taps have at.few all

pub padded_token_is : (weights padded xs : List ℤ) (have taps n need from place shift : ℕ) → IsPadded weights have padded → AreTapsAt weights taps need place have
    → have ≤ n → filter_token padded n shift xs (from + place) ≡ filter_token weights taps shift (slice_range xs from (from + need)) place
unfolding filter_token
padded_token_is weights padded xs have taps n need from place shift is at le =
    ap (λ (z : ℤ). clamp (floor z (2 ^ shift))) (padded_sum_is weights padded xs have taps n need from place is at le)

-- ---- all tokens

-- one token is at one place of one firing
pub same_token : (each f g p q : ℕ) → p < each → q < each → f * each + p ≡ g * each + q → (f ≡ g) × (p ≡ q)
same_token each zero zero p q hp hq e = (refl, omega (arith, e))
same_token each zero (suc g) p q hp hq e = let m = suc-mul g each in absurd (omega (arith, m, e, hp))
same_token each (suc f) zero p q hp hq e = let m = suc-mul f each in absurd (omega (arith, m, e, hq))
same_token each (suc f) (suc g) p q hp hq e =
    let m = suc-mul f each in
    let n = suc-mul g each in
    let same = same_token each f g p q hp hq (omega (arith, m, n, e)) in
    (ap suc same.0, same.1)

-- a firing's tokens end where those of all do, or before it
pub suc_le_mul : (f n each : ℕ) → f < n → f * each + each ≤ n * each
suc_le_mul f n each lt =
    let m = suc-mul f each in
    let le = mul-le (suc f) each n each (omega (arith, lt)) (omega arith) in
    omega (arith, m, le)

-- firings so far from the last that what is as long as `reach` is there
pub reach_is : (f n need reach : ℕ) → 0 < need → f < n - reach / need → f * need + reach ≤ n * need
reach_is f n need reach some lt =
    let k : ℕ = reach / need in
    let past = lt-div-mul-add {a = reach} {b = need} some in
    let e = add-mul f k need in
    let m = suc_le_mul (f + k) n need (omega (arith, lt)) in
    omega (arith, past, e, m)

-- one firing more at a place
pub told_more : (token : ℕ → ℤ) (each : ℕ) (old : List ℤ) (place first n : ℕ) (z : ℤ) → n * each + place < length old → place < each → z ≡ token n
    → HoldsPlace token each old place first n → HoldsPlace token each (slice_set old (n * each + place) z) place first (n + 1)
told_more token each old place first n z within low is told f ge lt = dite (dec_lt f n)
    (λ less.
    get_or-set_other old (n * each + place) (f * each + place) z (pos 0)
    (λ same. let one = same_token each f n place place low low same in omega (arith, one.0, less))
    ∙ told f ge less)
    (λ not_less.
    let e : f ≡ n = omega (arith, lt, not_less) in
    ap (λ (k : ℕ). token_at (slice_set old (n * each + place) z) (k * each + place)) e ∙ get_or-set_same old (n * each + place) z (pos 0) within ∙ is
    ∙ ap token (sym e))

-- and the others as they were
pub others_more : (each : ℕ) (old now : List ℤ) (place first n : ℕ) (z : ℤ) → first ≤ n → place < each → KeepsOthers each old now place first n
    → KeepsOthers each old (slice_set now (n * each + place) z) place first (n + 1)
others_more each old now place first n z le low keeps f p lt other =
    get_or-set_other now (n * each + place) (f * each + p) z (pos 0)
    (λ same.
    let one = same_token each f n p place lt low same in other one.1 (omega (arith, one.0, le)) (omega (arith, one.0)))
    ∙ keeps f p lt (λ e ge less. other e ge (omega (arith, less)))

-- the late firings first, then those before them
pub told_all : (token : ℕ → ℤ) (each place front last : ℕ) (mid new : List ℤ) → place < each → HoldsPlace token each mid place front last
    → KeepsOthers each mid new place 0 front → HoldsPlace token each new place 0 front → HoldsPlace token each new place 0 last
told_all token each place front last mid new low late keeps early f ge lt = dite (dec_lt f front)
    (λ less. early f ge less)
    (λ not_less. keeps f place low (λ _ _ less. omega (arith, less, not_less)) ∙ late f (omega (arith, not_less)) lt)

part_is : (xs : List ℤ) (from need : ℕ) → slice_range xs from (from + need) ≡ take need (drop from xs)
part_is xs from need =
    let e : from + need - from ≡ need = omega arith in
    ap (λ (k : ℕ). take k (drop from xs)) e

-- the token at a place of firing f
abbrev token_of : List ℤ → ℕ → ℕ → ℕ → List ℤ → ℕ → ℕ → ℤ
token_of weights taps shift need xs place f = filter_token weights taps shift (slice_range xs (f * need) (f * need + need)) place

-- a list that holds all places of all firings is their values
pub filled_is : (weights : List ℤ) (taps shift need each n : ℕ) (xs values : List ℤ) → length values ≡ n * each
    → ((p : ℕ) → p < each → HoldsPlace (token_of weights taps shift need xs p) each values p 0 n)
    → values ≡ values_of (Fir weights taps shift) (each ∷ []) need n xs
unfolding value_of
filled_is weights taps shift need each zero xs [] long told = refl
filled_is weights taps shift need each zero xs (v ∷ vs) long told = absurd (omega (arith, long))
filled_is weights taps shift need each (suc n) xs values long told =
    let m = suc-mul n each in
    let token : ℕ → ℤ = filter_token weights taps shift (take need xs) in
    let enough : each ≤ length values = omega (arith, long, m) in
    let zeroth : slice_range xs (0 * need) (0 * need + need) ≡ take need xs =
    let e : 0 * need ≡ 0 = omega arith in part_is xs (0 * need) need ∙ ap (λ (k : ℕ). take need (drop k xs)) e in
    let first : places token each ≡ take each values =
    places_are token each (take each values) (length-take-le each values enough) (λ p lt.
    let e : 0 * each + p ≡ p = omega arith in
    ap (λ (ys : List ℤ). filter_token weights taps shift ys p) (sym zeroth) ∙ sym (told p lt 0 (omega arith) (omega arith))
    ∙ ap (λ (k : ℕ). token_at values k) e ∙ sym (get_or-take each values p (pos 0) lt)) in
    let later : (p : ℕ) → p < each → HoldsPlace (token_of weights taps shift need (drop need xs) p) each (drop each values) p 0 n =
    λ p lt f _ below.
    let k = suc-mul f each in
    let h = suc-mul f need in
    let at : each + (f * each + p) ≡ suc f * each + p = omega (arith, k) in
    let from : need + f * need ≡ suc f * need = omega (arith, h) in
    let part : slice_range xs (suc f * need) (suc f * need + need) ≡ slice_range (drop need xs) (f * need) (f * need + need) =
    part_is xs (suc f * need) need ∙ ap (λ (i : ℕ). take need (drop i xs)) (sym from) ∙ ap (take need) (sym (drop-drop (f * need) need xs))
    ∙ sym (part_is (drop need xs) (f * need) need) in
    get_or-drop each values (f * each + p) (pos 0) ∙ ap (λ (i : ℕ). token_at values i) at ∙ told p lt (suc f) (omega arith) (omega (arith, below))
    ∙ ap (λ (ys : List ℤ). filter_token weights taps shift ys p) part in
    let short : length (drop each values) ≡ n * each = let d = length-drop each values in omega (arith, d, long, m) in
    let others = filled_is weights taps shift need each n (drop need xs) (drop each values) short later in
    sym (take-append-drop each values) ∙ ap (λ (ys : List ℤ). ys ++ drop each values) (sym first ∙ sym (append-nil (places token each)))
    ∙ ap (λ (ys : List ℤ). (places token each ++ []) ++ ys) others
