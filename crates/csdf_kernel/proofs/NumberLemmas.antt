-- The arithmetic of kernels, as the code does it.
use mathlib.Core.Logic.{dite}
use Rattle.std.proofs.Common.{◌≡◌, ◌⊎◌, inl, inr, ℕ, zero, suc, ◌+◌, ◌-◌, ◌*◌, ◌/◌, ◌^◌, ◌<◌, ◌≤◌, List, length, refl, sym, subst, ap, ◌∙◌, arith, ℤ, drop}
use Rattle.std.proofs.Common.{pos, negsuc, ◌+ℤ◌, ◌*ℤ◌, ◌≤ℤ◌, ◌<ℤ◌}
use Rattle.std.proofs.lemmas.List.Sums.{fold_push}
use Rattle.std.proofs.lemmas.Int.{ints}
use Rattle.std.proofs.lemmas.List.{get_or-drop, get_or-take, get_or_past, length-take}
use Rattle.std.proofs.Math.IntN.{*ℤ-zero, zero-*ℤ}
use Rattle.std.proofs.Math.Nat.{div-mul-le_self, div-le_self}
use Rattle.std.proofs.lemmas.Nat.{pow_pos}
use Rattle.std.specs.Prelude.{FitsSigned, slice_range, unsigned_abs}
use Rattle.std.specs.Int.{int_max, int_min, w32}
use Rattle.std.specs.Int.Signed.{shr_z}
use native.Mathlib.Decide.{dec_lt}
use Rattle.csdf_kernel.specs.Filter.{AreNarrow, IsWindow}
use Rattle.csdf_kernel.specs.Value.{places, token_at, total, clamp, floor, convolution, filter_token}
use Rattle.csdf_kernel.proofs.PlaceLemmas.{places_none, places_more, places_alike}

pub clamp_is : (v : ℤ) → int_max (negsuc 2147483647) (int_min v (pos 2147483647)) ≡ clamp v
unfolding clamp
clamp_is (pos n) = grind (arith, ints)
clamp_is (negsuc n) = grind (arith, ints)

-- a number of 32 bits is the nearest one to itself
clamp_same : (v : ℤ) → FitsSigned w32 v → v ≡ clamp v
unfolding clamp
clamp_same (pos n) h = grind (arith, ints, h)
clamp_same (negsuc n) h = grind (arith, ints, h)

floor_fits : (z : ℤ) (n : ℕ) → FitsSigned w32 z → FitsSigned w32 (floor z n)
unfolding floor
floor_fits (pos a) n h = omega (arith, ints, h, div-le_self a n)
floor_fits (negsuc a) n h = omega (arith, ints, h, div-le_self a n)

-- a shift to the right rounds down
pub shr_is : (z : ℤ) (n : ℕ) → shr_z z n ≡ floor z n
unfolding floor
shr_is (pos a) n = refl
shr_is (negsuc a) n = refl

-- a shift of a number of 32 bits stays within them
pub shr_clamped : (z : ℤ) (n : ℕ) → FitsSigned w32 z → shr_z z n ≡ clamp (floor z n)
shr_clamped z n h = shr_is z n ∙ clamp_same (floor z n) (floor_fits z n h)

pub convolution_none : (weights xs : List ℤ) (place : ℕ) → convolution weights 0 xs place ≡ pos 0
unfolding convolution
convolution_none weights xs place = ap total (places_none (λ j. token_at weights j *ℤ token_at xs (place + j)))

-- one more tap
pub convolution_more : (weights xs : List ℤ) (place taps : ℕ)
    → convolution weights (taps + 1) xs place ≡ convolution weights taps xs place +ℤ (token_at weights taps *ℤ token_at xs (place + taps))
unfolding convolution
convolution_more weights xs place taps =
    let f : ℕ → ℤ = λ j. token_at weights j *ℤ token_at xs (place + j) in
    ap total (places_more f taps) ∙ fold_push ◌+ℤ◌ (pos 0) (places f taps) (f taps)

-- no more taps count where the weights or the tokens have ended
convolution_past : (weights xs : List ℤ) (place taps more : ℕ) → length weights ≤ taps ⊎ length xs ≤ place + taps
    → convolution weights (taps + more) xs place ≡ convolution weights taps xs place
convolution_past weights xs place taps zero h =
    let e : taps + 0 ≡ taps = omega arith in
    ap (λ (n : ℕ). convolution weights n xs place) e
convolution_past weights xs place taps (suc more) h =
    let n : ℕ = taps + more in
    let e : taps + suc more ≡ n + 1 = omega arith in
    let none : (token_at weights n *ℤ token_at xs (place + n)) ≡ pos 0 =
    elim h [
      | inl past ↦ ap (λ (z : ℤ). z *ℤ token_at xs (place + n)) (get_or_past weights n (pos 0) (omega (arith, past))) ∙ zero-*ℤ (token_at xs (place + n))
      | inr past ↦ ap (λ (z : ℤ). token_at weights n *ℤ z) (get_or_past xs (place + n) (pos 0) (omega (arith, past))) ∙ *ℤ-zero (token_at weights n)
    ] in
    let same : (convolution weights n xs place +ℤ pos 0) ≡ convolution weights n xs place = omega (arith, ints) in
    ap (λ (k : ℕ). convolution weights k xs place) e ∙ convolution_more weights xs place n
    ∙ ap (λ (z : ℤ). convolution weights n xs place +ℤ z) none ∙ same ∙ convolution_past weights xs place taps more h

pub convolution_stops : (weights xs : List ℤ) (place taps few : ℕ) → few ≤ taps → few ≡ taps ⊎ length weights ≤ few ⊎ length xs ≤ place + few
    → convolution weights few xs place ≡ convolution weights taps xs place
convolution_stops weights xs place taps few le h = elim h [
  | inl e ↦ ap (λ (n : ℕ). convolution weights n xs place) e
  | inr past ↦
      let e : few + (taps - few) ≡ taps = omega (arith, le) in
      sym (ap (λ (n : ℕ). convolution weights n xs place) (sym e) ∙ convolution_past weights xs place few (taps - few) past)
]

-- windows with the same tokens under each tap have the same sum
pub convolution_alike : (weights xs ys : List ℤ) (i k n : ℕ) → ((j : ℕ) → j < n → token_at xs (i + j) ≡ token_at ys (k + j))
    → convolution weights n xs i ≡ convolution weights n ys k
convolution_alike weights xs ys i k zero h = convolution_none weights xs i ∙ sym (convolution_none weights ys k)
convolution_alike weights xs ys i k (suc n) h =
    let e : suc n ≡ n + 1 = omega arith in
    let before = convolution_alike weights xs ys i k n (λ j lt. h j (omega (arith, lt))) in
    ap (λ (m : ℕ). convolution weights m xs i) e ∙ convolution_more weights xs i n
    ∙ ap (λ (z : ℤ). z +ℤ (token_at weights n *ℤ token_at xs (i + n))) before
    ∙ ap (λ (z : ℤ). convolution weights n ys k +ℤ (token_at weights n *ℤ z)) (h n (omega arith))
    ∙ sym (convolution_more weights ys k n) ∙ ap (λ (m : ℕ). convolution weights m ys k) (sym e)

-- the products with the tokens of a window are narrow where those with the inputs are
pub narrow_window : (weights xs window : List ℤ) (base : ℕ) → IsWindow xs base window → AreNarrow weights xs → AreNarrow weights window
narrow_window weights xs window base w narrow j p = dite (dec_lt p 32)
    (λ lt. subst (λ (z : ℤ). unsigned_abs (token_at weights j *ℤ z) ≤ 2 ^ 26) (sym (w.alike p lt)) (narrow j (base + p)))
    (λ ge.
    let none : token_at window p ≡ pos 0 = get_or_past window p (pos 0) (omega (arith, ge, w.long)) in
    subst (λ (z : ℤ). unsigned_abs z ≤ 2 ^ 26) (sym (ap (λ (z : ℤ). token_at weights j *ℤ z) none ∙ *ℤ-zero (token_at weights j))) (omega arith))

-- and so are those with a part of the inputs
pub narrow_part : (weights xs : List ℤ) (from to : ℕ) → AreNarrow weights xs → AreNarrow weights (slice_range xs from to)
narrow_part weights xs from to narrow j p = dite (dec_lt p (to - from))
    (λ lt. subst (λ (z : ℤ). unsigned_abs (token_at weights j *ℤ z) ≤ 2 ^ 26)
    (sym (get_or-take (to - from) (drop from xs) p (pos 0) lt ∙ get_or-drop from xs p (pos 0))) (narrow j (from + p)))
    (λ ge.
    let none : token_at (slice_range xs from to) p ≡ pos 0 =
    get_or_past (slice_range xs from to) p (pos 0) (let few = length-take (to - from) (drop from xs) in omega (arith, ge, few)) in
    subst (λ (z : ℤ). unsigned_abs z ≤ 2 ^ 26) (sym (ap (λ (z : ℤ). token_at weights j *ℤ z) none ∙ *ℤ-zero (token_at weights j))) (omega arith))

-- a filter tells the same of a window, from the place where it begins
pub window_token_is : (weights xs window : List ℤ) (base place taps shift : ℕ) → IsWindow xs base window → base ≤ place → place ≤ base + 16 → taps ≡ 16
    → clamp (floor (convolution weights 16 window (place - base)) (2 ^ shift)) ≡ filter_token weights taps shift xs place
unfolding filter_token
window_token_is weights xs window base place taps shift w late near e =
    let at : ℕ = place - base in
    let there : (j : ℕ) → j < 16 → token_at window (at + j) ≡ token_at xs (place + j) =
    λ j lt. let same : base + (at + j) ≡ place + j = omega (arith, late) in
    w.alike (at + j) (omega (arith, late, near, lt)) ∙ ap (λ (p : ℕ). token_at xs p) same in
    ap (λ (z : ℤ). clamp (floor z (2 ^ shift))) (convolution_alike weights window xs at place 16 there ∙ ap (λ (n : ℕ). convolution weights n xs place) (sym e))

pub window_tokens_are : (weights xs window : List ℤ) (base place taps shift : ℕ) → IsWindow xs base window → base ≤ place → place ≤ base + 8 → taps ≡ 16
    → places (λ i. filter_token weights 16 shift window (place - base + i)) 8 ≡ places (λ i. filter_token weights taps shift xs (place + i)) 8
unfolding filter_token
window_tokens_are weights xs window base place taps shift w late near e =
    places_alike (λ i. filter_token weights 16 shift window (place - base + i)) (λ i. filter_token weights taps shift xs (place + i)) 8
    (λ i lt.
    let at : place - base + i ≡ place + i - base = omega (arith, late) in
    ap (λ p. filter_token weights 16 shift window p) at
    ∙ window_token_is weights xs window base (place + i) taps shift w (omega (arith, late)) (omega (arith, near, lt)) e)

-- a number lies from its floor times n up to, but not including, the next multiple of n
below : (z : ℤ) (n : ℕ) → 0 < n → (floor z n *ℤ pos n) ≤ℤ z
unfolding floor
below (pos a) n h = omega (arith, ints)
below (negsuc a) n h = omega (arith, ints)

above_negative : (a n q : ℕ) → q * n ≤ a → negsuc a <ℤ ((negsuc q +ℤ pos 1) *ℤ pos n)
above_negative a n zero h = omega (arith, ints)
above_negative a n (suc k) h =
    let e : (negsuc (suc k) +ℤ pos 1) ≡ negsuc k = omega (arith, ints) in
    subst (λ (z : ℤ). negsuc a <ℤ (z *ℤ pos n)) (sym e) (omega (arith, ints))

above : (z : ℤ) (n : ℕ) → 0 < n → z <ℤ ((floor z n +ℤ pos 1) *ℤ pos n)
unfolding floor
above (pos a) n h = omega (arith, ints)
above (negsuc a) n h = above_negative a n (a / n) (div-mul-le_self a n)

pub floor_below : (z q : ℤ) (k : ℕ) → q ≡ floor z (2 ^ k) → (q *ℤ pos (2 ^ k)) ≤ℤ z
floor_below z q k e = subst (λ (f : ℤ). (f *ℤ pos (2 ^ k)) ≤ℤ z) (sym e) (below z (2 ^ k) (pow_pos k))

pub floor_above : (z q : ℤ) (k : ℕ) → q ≡ floor z (2 ^ k) → z <ℤ ((q +ℤ pos 1) *ℤ pos (2 ^ k))
floor_above z q k e = subst (λ (f : ℤ). z <ℤ ((f +ℤ pos 1) *ℤ pos (2 ^ k))) (sym e) (above z (2 ^ k) (pow_pos k))
