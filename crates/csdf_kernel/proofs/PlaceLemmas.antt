-- Lists that are told by the place, and what one more token or one more channel adds.
use Rattle.std.proofs.Common.{◌≡◌, ℕ, suc, ◌+◌, ◌%◌, ◌<◌, ◌≤◌, List, [], ◌∷◌, ◌++◌, length, take, get_or, sum, flat_map, refl, ap, sym, ◌∙◌, arith}
use Rattle.std.proofs.Common.{length-append, append_assoc, append-nil, zero, ◌*◌, ◌-◌, replicate, pos, ℤ}
use Rattle.std.proofs.lemmas.List.{take_at}
use Rattle.std.proofs.Math.Nat.{mod-lt, suc-mod}
use Rattle.std.proofs.lemmas.List.Folds.{length-flat_map-take}
use Rattle.std.proofs.lemmas.List.Sums.{sum_by-cons}
use Rattle.std.proofs.lemmas.List.FromFn.{length-map-range_with_len, map-range_with_len_more}
use Rattle.std.proofs.lemmas.Grind.{common_steps}
use Rattle.csdf_kernel.specs.Value.{places, token_at, copy_token}

pub length_places : (token : ℕ → ℤ) (count : ℕ) → length (places token count) ≡ count
unfolding places
length_places token count = length-map-range_with_len token 0 count

pub places_none : (token : ℕ → ℤ) → places token 0 ≡ []
unfolding places
places_none token = refl

pub places_more : (token : ℕ → ℤ) (count : ℕ) → places token (count + 1) ≡ places token count ++ token count ∷ []
unfolding places
places_more token count = map-range_with_len_more token 0 count count (omega arith)

-- the places so far, and those after them
pub places_on : (token : ℕ → ℤ) (p n : ℕ) → places token (p + n) ≡ places token p ++ places (λ i. token (p + i)) n
places_on token p zero =
    let e : p + 0 ≡ p = omega arith in
    ap (places token) e ∙ sym (append-nil (places token p)) ∙ ap (λ xs. places token p ++ xs) (sym (places_none (λ i. token (p + i))))
places_on token p (suc n) =
    let on : ℕ → ℤ = λ i. token (p + i) in
    let one : p + suc n ≡ p + n + 1 = omega arith in
    let two : n + 1 ≡ suc n = omega arith in
    ap (places token) one ∙ places_more token (p + n) ∙ ap (λ xs. xs ++ token (p + n) ∷ []) (places_on token p n)
    ∙ append_assoc (places token p) (places on n) (token (p + n) ∷ []) ∙ ap (λ xs. places token p ++ xs) (sym (places_more on n))
    ∙ ap (λ k. places token p ++ places on k) two

-- eight more of them, where they are told eight by eight
pub eight_more : (token : ℕ → ℤ) (k : ℕ) → places token ((k + 1) * 8) ≡ places token (k * 8) ++ places (λ i. token (k * 8 + i)) 8
eight_more token k =
    let e : (k + 1) * 8 ≡ k * 8 + 8 = omega arith in
    ap (places token) e ∙ places_on token (k * 8) 8

pub eight_places : (token : ℕ → ℤ) → places token 8 ≡ token 0 ∷ token 1 ∷ token 2 ∷ token 3 ∷ token 4 ∷ token 5 ∷ token 6 ∷ token 7 ∷ []
unfolding places
eight_places token = refl

-- a list with the places so far, and then those after them
pub places_after : (token : ℕ → ℤ) (p n : ℕ) (old xs ys : List ℤ) → xs ≡ old ++ places token p → ys ≡ xs ++ places (λ i. token (p + i)) n
    → ys ≡ old ++ places token (p + n)
places_after token p n old xs ys so_far then =
    let more : List ℤ = places (λ i. token (p + i)) n in
    then ∙ ap (λ zs. zs ++ more) so_far ∙ append_assoc old (places token p) more ∙ ap (λ zs. old ++ zs) (sym (places_on token p n))

-- the first of some places
pub places_first : (token : ℕ → ℤ) (n m : ℕ) → n ≤ m → take n (places token m) ≡ places token n
places_first token n m h =
    let e : m ≡ n + (m - n) = omega (arith, h) in
    let first : List ℤ = places token n in
    let later : List ℤ = places (λ i. token (n + i)) (m - n) in
    ap (λ k. take n (places token k)) e ∙ ap (take n) (places_on token n (m - n)) ∙ take_at first later n (length_places token n)

-- the same tokens at the same places
pub places_alike : (f g : ℕ → ℤ) (n : ℕ) → ((i : ℕ) → i < n → f i ≡ g i) → places f n ≡ places g n
places_alike f g zero h = places_none f ∙ sym (places_none g)
places_alike f g (suc n) h =
    let e : suc n ≡ n + 1 = omega arith in
    ap (places f) e ∙ places_more f n ∙ ap (λ xs. xs ++ f n ∷ []) (places_alike f g n (λ i lt. h i (omega (arith, lt))))
    ∙ ap (λ z. places g n ++ z ∷ []) (h n (omega arith)) ∙ sym (places_more g n) ∙ ap (places g) (sym e)

-- a list of zeros has a zero at each place, and past its end
pub token_of_zeros : (n i : ℕ) → token_at (replicate n (pos 0)) i ≡ pos 0
token_of_zeros zero i = refl
token_of_zeros (suc n) zero = refl
token_of_zeros (suc n) (suc i) = token_of_zeros n i

-- the token where a copy stands, and where it stands after it
pub copied_at : (xs : List ℤ) (at place : ℕ) → (0 < length xs → at ≡ place % length xs) → token_at xs at ≡ copy_token xs place
unfolding copy_token
copied_at [] at place is = refl
copied_at (x ∷ xs) at place is = ap (λ n. token_at (x ∷ xs) n) (is (omega arith))

pub copied_on : (n at place next : ℕ) → 0 < n → at ≡ place % n → (at < n → next ≡ (at + 1) % n) → next ≡ (place + 1) % n
copied_on n at place next some is goes_on =
    let below : at < n = let e = mod-lt place {m = n} some in omega arith in
    let one : at + 1 ≡ suc (place % n) = omega arith in
    let two : suc place ≡ place + 1 = omega arith in
    goes_on below ∙ ap (λ k. k % n) one ∙ sym (suc-mod place n) ∙ ap (λ k. k % n) two

-- all channels together have as many tokens as their counts add up to
pub length_channels : (token : ℕ → ℤ) (counts : List ℕ) → length (flat_map (places token) counts) ≡ sum counts
length_channels token [] = refl
length_channels token (c ∷ cs) =
    omega (arith, length-append (places token c) (flat_map (places token) cs), length_places token c, length_channels token cs, sum_by-cons (λ x. x) c cs)

-- one more channel
pub channels_more : (token : ℕ → ℤ) (counts : List ℕ) (i : ℕ) → i < length counts
    → flat_map (places token) (take (i + 1) counts) ≡ flat_map (places token) (take i counts) ++ places token (get_or counts i 0)
channels_more token counts i h = grind (arith, common_steps)

-- the channels so far leave room for the next
pub channels_fit : (token : ℕ → ℤ) (counts : List ℕ) (i : ℕ) → i < length counts
    → length (flat_map (places token) (take i counts)) + get_or counts i 0 ≤ sum counts
channels_fit token counts i h =
    omega (arith, length-flat_map-take (places token) counts i 0 h, length_places token (get_or counts i 0), length_channels token counts)

pub ruleset one_place = (common_steps, length_places, places_none, places_more)

pub ruleset one_channel = (common_steps, channels_more, channels_fit)
