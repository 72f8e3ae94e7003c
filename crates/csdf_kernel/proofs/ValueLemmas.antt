-- How long the value of a kernel is, what it is with no input, and those of several firings.
use Rattle.std.proofs.Common.{rules, true, ◌==◌, ◌-◌, ◌*◌, ◌<◌, ◌≤◌, take, drop, append_assoc, length-drop, slice_index}
use Rattle.std.proofs.Common.{◌≡◌, ℕ, zero, suc, ◌+◌, ◌^◌, List, [], ◌∷◌, ◌++◌, length, sum, flat_map, replicate, refl, sym, ◌∙◌, ap, subst, add-one, arith}
use Rattle.std.proofs.Common.{ℤ, pos, ◌*ℤ◌}
use Rattle.std.proofs.lemmas.List.{append-nil, drop-drop, ext_get_or, length-take-le, length-replicate, replicate_more, replicate-append-replicate}
use Rattle.std.proofs.lemmas.List.Sums.{sum_by-cons}
use Rattle.std.proofs.lemmas.Int.{ints}
use Rattle.std.proofs.Math.Nat.{mod-eq_of_lt, zero-div, suc-mul}
use Rattle.std.proofs.Math.Seq.{take-add}
use Rattle.csdf_model.specs.declared.parts.Kernel.{Kernel}
use Rattle.csdf_model.specs.declared.parts.Kernel.TheVariants.{Source, Sink, Copy, Sum, Fir}
use Rattle.csdf_kernel.specs.Value.{places, token_at, total, clamp, floor, copy_token, convolution, filter_token, value_of, values_of, GivesAsRead}
use Rattle.std.proofs.lemmas.List.FromFn.{get_or-map-range_with_len}
use Rattle.csdf_kernel.proofs.PlaceLemmas.{length_places, places_none, places_more, length_channels}

pub length_of_value : (kernel : Kernel) (counts : List ℕ) (xs : List ℤ) → length (value_of kernel counts xs) ≡ sum counts
unfolding value_of
length_of_value Source counts xs = length_places (token_at xs) (sum counts)
length_of_value Sink counts xs = length-replicate (sum counts) (pos 0)
length_of_value Copy counts xs = length_channels (copy_token xs) counts
length_of_value Sum counts xs = length-replicate (sum counts) (clamp (total xs))
length_of_value (Fir weights taps shift) counts xs = length_channels (filter_token weights taps shift xs) counts

-- ---- with no input

places_same : (token : ℕ → ℤ) (z : ℤ) → ((i : ℕ) → token i ≡ z) → (count : ℕ) → places token count ≡ replicate count z
places_same token z same zero = places_none token
places_same token z same (suc n) =
    let step : places token (n + 1) ≡ replicate (n + 1) z =
    places_more token n ∙ ap (λ xs. xs ++ token n ∷ []) (places_same token z same n) ∙ ap (λ t. replicate n z ++ t ∷ []) (same n) ∙ replicate_more n z in
    subst (λ m. places token m ≡ replicate m z) (add-one n) step

channels_same : (token : ℕ → ℤ) (z : ℤ) → ((i : ℕ) → token i ≡ z) → (counts : List ℕ) → flat_map (places token) counts ≡ replicate (sum counts) z
channels_same token z same [] = refl
channels_same token z same (c ∷ cs) =
    ap (λ xs. xs ++ flat_map (places token) cs) (places_same token z same c) ∙ ap (λ xs. replicate c z ++ xs) (channels_same token z same cs)
    ∙ replicate-append-replicate c (sum cs) z ∙ ap (λ n. replicate n z) (sym (sum_by-cons (λ x. x) c cs))

total_zeros : (n : ℕ) → total (replicate n (pos 0)) ≡ pos 0
total_zeros zero = refl
total_zeros (suc n) = total_zeros n

convolution_of_none : (weights : List ℤ) (taps i : ℕ) → convolution weights taps [] i ≡ pos 0
unfolding convolution
convolution_of_none weights taps i =
    ap total (places_same (λ j. token_at weights j *ℤ token_at [] (i + j)) (pos 0) (λ j. omega (arith, ints)) taps) ∙ total_zeros taps

filter_of_none : (weights : List ℤ) (taps shift i : ℕ) → filter_token weights taps shift [] i ≡ pos 0
unfolding filter_token clamp floor
filter_of_none weights taps shift i = ap (λ z. clamp (floor z (2 ^ shift))) (convolution_of_none weights taps i)
    ∙ ap (λ q. clamp (pos q)) (zero-div (2 ^ shift))

pub value_of_none : (kernel : Kernel) (counts : List ℕ) → value_of kernel counts [] ≡ replicate (sum counts) (pos 0)
unfolding value_of clamp copy_token
value_of_none Source counts = places_same (token_at []) (pos 0) (λ i. refl) (sum counts)
value_of_none Sink counts = refl
value_of_none Copy counts = channels_same (copy_token []) (pos 0) (λ i. refl) counts
value_of_none Sum counts = refl
value_of_none (Fir weights taps shift) counts = channels_same (filter_token weights taps shift []) (pos 0) (λ i. filter_of_none weights taps shift i) counts

-- ---- several firings

-- the first, and the others
values_step : (kernel : Kernel) (counts : List ℕ) (need m : ℕ) (xs : List ℤ) → 0 < m
    → values_of kernel counts need m xs ≡ value_of kernel counts (take need xs) ++ values_of kernel counts need (m - 1) (drop need xs)
values_step kernel counts need zero xs lt = absurd (omega arith)
values_step kernel counts need (suc m) xs lt =
    let e : suc m - 1 ≡ m = omega arith in
    ap (λ (i : ℕ). value_of kernel counts (take need xs) ++ values_of kernel counts need i (drop need xs)) (sym e)

-- one more of them: what is there and what is left make the whole
pub one_firing_more : (kernel : Kernel) (counts : List ℕ) (need n i at : ℕ) (xs old new whole : List ℤ) → i < n
    → new ≡ old ++ value_of kernel counts (take (at + need - at) (drop at xs))
    → old ++ values_of kernel counts need (n - i) (drop at xs) ≡ whole
    → new ++ values_of kernel counts need (n - (i + 1)) (drop (at + need) xs) ≡ whole
one_firing_more kernel counts need n i at xs old new whole lt is all =
    let e1 : at + need - at ≡ need = omega arith in
    let e2 : n - i - 1 ≡ n - (i + 1) = omega arith in
    let step = values_step kernel counts need (n - i) (drop at xs) (omega arith) in
    let part : List ℤ = value_of kernel counts (take need (drop at xs)) in
    ap (λ (u : List ℤ). u ++ values_of kernel counts need (n - (i + 1)) (drop (at + need) xs)) (is
    ∙ ap (λ (j : ℕ). old ++ value_of kernel counts (take j (drop at xs))) e1)
    ∙ append_assoc old part (values_of kernel counts need (n - (i + 1)) (drop (at + need) xs))
    ∙ ap (λ (u : List ℤ). old ++ (part ++ u)) (ap (values_of kernel counts need (n - (i + 1))) (sym (drop-drop need at xs))
    ∙ ap (λ (j : ℕ). values_of kernel counts need j (drop need (drop at xs))) (sym e2))
    ∙ ap (λ (u : List ℤ). old ++ u) (sym step)
    ∙ all

-- what the firings that are left move is within what there is
pub room_less : (need n i at most : ℕ) → i < n → at + (n - i) * need ≤ most → at + need + (n - (i + 1)) * need ≤ most
room_less need n i at most lt le =
    let e : n - i ≡ suc (n - (i + 1)) = omega arith in
    let t : (n - i) * need ≡ suc (n - (i + 1)) * need = ap (λ (j : ℕ). j * need) e in
    let s = suc-mul (n - (i + 1)) need in
    omega (arith, le, t, s)

-- the next of them has room
pub room_one : (n i at each most : ℕ) → i < n → at + (n - i) * each ≤ most → at + each ≤ most
room_one n i at each most lt le = omega (arith, room_less each n i at most lt le)

-- ---- firings that write what they read

pub places_are : (f : ℕ → ℤ) (n : ℕ) (xs : List ℤ) → length xs ≡ n → ((i : ℕ) → i < n → f i ≡ token_at xs i) → places f n ≡ xs
unfolding places
places_are f n xs long each = ext_get_or (pos 0) (places f n) xs (length_places f n ∙ sym long)
    (λ i lt. let within : i < n = omega (arith, lt, length_places f n) in get_or-map-range_with_len f 0 n i i (pos 0) within (omega arith) ∙ each i within)

pub one_alone : (counts : List ℕ) (count : ℕ) → length counts ≡ 1 → slice_index counts 0 ≡ count → counts ≡ count ∷ []
one_alone [] count one is = absurd (omega arith)
one_alone (c ∷ []) count one is = ap (λ (k : ℕ). k ∷ []) is
one_alone (c ∷ d ∷ cs) count one is = absurd (omega arith)

pub one_sum : (counts : List ℕ) (need : ℕ) → counts ≡ need ∷ [] → sum counts ≡ need
one_sum counts need just = ap sum just ∙ omega (arith, sum_by-cons (λ x. x) need [])

source_of : (c need : ℕ) → c ≡ need → GivesAsRead Source (c ∷ []) need
unfolding value_of
source_of c need same xs long = places_are (token_at xs) (sum (c ∷ [])) xs (omega (arith, sum_by-cons (λ x. x) c [], same, long)) (λ i lt. refl)

pub source_as_read : (counts : List ℕ) (need : ℕ) → counts ≡ need ∷ [] → GivesAsRead Source counts need
source_as_read counts need just = subst (λ (cs : List ℕ). GivesAsRead Source cs need) (sym just) (source_of need need refl)

copied_at_place : (xs : List ℤ) (i : ℕ) → i < length xs → copy_token xs i ≡ token_at xs i
unfolding copy_token
copied_at_place xs i lt = ap (token_at xs) (mod-eq_of_lt lt)

copy_of : (c need : ℕ) → c ≡ need → GivesAsRead Copy (c ∷ []) need
unfolding value_of
copy_of c need same xs long =
    append-nil (places (copy_token xs) c) ∙ places_are (copy_token xs) c xs (long ∙ sym same) (λ i lt. copied_at_place xs i (omega (arith, lt, same, long)))

pub copy_as_read : (counts : List ℕ) (need : ℕ) → counts ≡ need ∷ [] → GivesAsRead Copy counts need
copy_as_read counts need just = subst (λ (cs : List ℕ). GivesAsRead Copy cs need) (sym just) (copy_of need need refl)

-- no channel, no token
nothing_written : (kernel : Kernel) (xs : List ℤ) → value_of kernel [] xs ≡ []
unfolding value_of
nothing_written Source xs = places_none (token_at xs)
nothing_written Sink xs = refl
nothing_written Copy xs = refl
nothing_written Sum xs = refl
nothing_written (Fir weights taps shift) xs = refl

values_none : (kernel : Kernel) (need n : ℕ) (xs : List ℤ) → values_of kernel [] need n xs ≡ []
values_none kernel need zero xs = refl
values_none kernel need (suc n) xs =
    let none : value_of kernel [] (take need xs) ≡ [] = nothing_written kernel (take need xs) in
    ap (λ (u : List ℤ). u ++ values_of kernel [] need n (drop need xs)) none ∙ values_none kernel need n (drop need xs)

pub no_counts : (counts : List ℕ) → true ≡ (length counts == 0) → counts ≡ []
no_counts [] none = refl
no_counts (c ∷ cs) none = search (rules)

pub values_unwritten : (kernel : Kernel) (counts : List ℕ) (need n : ℕ) (xs : List ℤ) → counts ≡ [] → values_of kernel counts need n xs ≡ []
values_unwritten kernel counts need n xs none = subst (λ (cs : List ℕ). values_of kernel cs need n xs ≡ []) (sym none) (values_none kernel need n xs)

pub values_as_read : (kernel : Kernel) (counts : List ℕ) (need n : ℕ) (xs : List ℤ) → GivesAsRead kernel counts need → n * need ≤ length xs
    → values_of kernel counts need n xs ≡ take (n * need) xs
values_as_read kernel counts need zero xs same le =
    let e : 0 ≡ 0 * need = omega arith in
    ap (λ (k : ℕ). take k xs) e
values_as_read kernel counts need (suc n) xs same le =
    let m = suc-mul n need in
    let e : suc n * need ≡ need + n * need = omega (arith, m) in
    let one : value_of kernel counts (take need xs) ≡ take need xs = same (take need xs) (length-take-le need xs (omega (arith, le, m))) in
    let left : length (drop need xs) ≡ length xs - need = length-drop need xs in
    let others = values_as_read kernel counts need n (drop need xs) same (omega (arith, le, m, left)) in
    ap (λ (u : List ℤ). u ++ values_of kernel counts need n (drop need xs)) one ∙ ap (λ (u : List ℤ). take need xs ++ u) others
    ∙ sym (take-add need (n * need) xs) ∙ ap (λ (k : ℕ). take k xs) (sym e)
