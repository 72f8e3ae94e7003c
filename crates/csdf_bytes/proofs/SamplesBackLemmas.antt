-- What is written for samples is read as these samples.
use Rattle.std.proofs.Common.{◌≡◌, ℕ, suc, ◌+◌, ◌-◌, ◌*◌, ◌/◌, ◌<◌, true, List, [], ◌∷◌, ◌++◌, length, map, drop, refl, ◌∙◌, ap, arith, length-append}
use Rattle.std.specs.Prelude.{ℤ, pos, negsuc, ◌&&◌, int_le}
use Rattle.std.specs.Int.{int_max, int_min}
use Rattle.std.specs.List.{list_all}
use Rattle.std.proofs.lemmas.Int.{clamps, ints}
use Rattle.std.proofs.lemmas.Bool.Decides.{nat_tests}
use Rattle.std.proofs.lemmas.List.{drop_at, take_at}
use Rattle.csdf_bytes.specs.declared.sample_format.SampleFormat.{SampleFormat}
use Rattle.csdf_bytes.specs.declared.sample_format.SampleFormat.TheVariants.{U8, S8, S16Le, S16Be, S32Le, S32Be}
use Rattle.csdf_bytes.specs.Samples.{bytes_of, clamped, first_samples, fits, greatest, least}
use Rattle.csdf_bytes.specs.Samples.{low_bytes, low_first, pieces, sample_bytes, samples_in, signed_from}
use Rattle.csdf_bytes.specs.Samples.{size_of, value_of, wrapped_to, written_bytes}
use Rattle.csdf_bytes.proofs.SampleBytesLemmas.{length-bytes_of}

-- ---- bytes are read as their number

back-1 : (n : ℕ) → n < 256 → low_first (low_bytes 1 n) ≡ n
back-1 n small = omega arith

back-2 : (n : ℕ) → n < 65536 → low_first (low_bytes 2 n) ≡ n
back-2 n small = omega arith

back-4 : (n : ℕ) → n < 4294967296 → low_first (low_bytes 4 n) ≡ n
back-4 n small = omega arith

-- ---- two's complement goes both ways

within-pos : (n half : ℕ) → int_le (negsuc (half - 1)) (pos n) && int_le (pos n) (pos (half - 1)) ≡ true → 0 < half → n < half
within-pos n half h some = grind (arith, nat_tests)

within-negsuc : (n half : ℕ) → int_le (negsuc (half - 1)) (negsuc n) && int_le (negsuc n) (pos (half - 1)) ≡ true → 0 < half → n < half
within-negsuc n half h some = grind (arith, nat_tests)

signed-pos : (n half : ℕ) → n < half → signed_from half n ≡ pos n
signed-pos n half small = grind (arith, nat_tests)

signed-negsuc : (n half : ℕ) → n < half → signed_from half (2 * half - suc n) ≡ negsuc n
signed-negsuc n half small = grind (arith, ints, nat_tests)

-- ---- a number of the format is not changed

clamp-within : (l u z : ℤ) → int_le l z && int_le z u ≡ true → int_max l (int_min z u) ≡ z
clamp-within l u z h = grind (arith, ints, clamps)

pub clamped-fits : (f : SampleFormat) (z : ℤ) → fits f z ≡ true → clamped f z ≡ z
clamped-fits f z h = clamp-within (least f) (greatest f) z h

-- ---- a sample is read as its number

value-u8 : (z : ℤ) → fits U8 z ≡ true → value_of U8 (bytes_of U8 z) ≡ z
unfolding value_of bytes_of
value-u8 (pos n) h = let small : n < 256 = grind (arith, nat_tests) in ap pos (back-1 n small)
value-u8 (negsuc n) h = cc

value-s8 : (z : ℤ) → fits S8 z ≡ true → value_of S8 (bytes_of S8 z) ≡ z
unfolding value_of bytes_of
value-s8 (pos n) h =
    let small : n < 128 = within-pos n 128 h (omega arith) in
    ap (signed_from 128) (back-1 n (omega (arith, small))) ∙ signed-pos n 128 small
value-s8 (negsuc n) h =
    let small : n < 128 = within-negsuc n 128 h (omega arith) in
    ap (signed_from 128) (back-1 (256 - suc n) (omega arith)) ∙ signed-negsuc n 128 small

signed-16-back : (z : ℤ) → fits S16Le z ≡ true → signed_from 32768 (low_first (low_bytes 2 (wrapped_to 65536 z))) ≡ z
signed-16-back (pos n) h =
    let small : n < 32768 = within-pos n 32768 h (omega arith) in
    ap (signed_from 32768) (back-2 n (omega (arith, small))) ∙ signed-pos n 32768 small
signed-16-back (negsuc n) h =
    let small : n < 32768 = within-negsuc n 32768 h (omega arith) in
    ap (signed_from 32768) (back-2 (65536 - suc n) (omega arith)) ∙ signed-negsuc n 32768 small

signed-32-back : (z : ℤ) → fits S32Le z ≡ true → signed_from 2147483648 (low_first (low_bytes 4 (wrapped_to 4294967296 z))) ≡ z
signed-32-back (pos n) h =
    let small : n < 2147483648 = within-pos n 2147483648 h (omega arith) in
    ap (signed_from 2147483648) (back-4 n (omega (arith, small))) ∙ signed-pos n 2147483648 small
signed-32-back (negsuc n) h =
    let small : n < 2147483648 = within-negsuc n 2147483648 h (omega arith) in
    ap (signed_from 2147483648) (back-4 (4294967296 - suc n) (omega arith)) ∙ signed-negsuc n 2147483648 small

value-back : (f : SampleFormat) (z : ℤ) → fits f z ≡ true → value_of f (bytes_of f z) ≡ z
unfolding value_of bytes_of
value-back U8 z h = value-u8 z h
value-back S8 z h = value-s8 z h
value-back S16Le z h = signed-16-back z h
value-back S16Be z h = signed-16-back z h
value-back S32Le z h = signed-32-back z h
value-back S32Be z h = signed-32-back z h

-- ---- and so are samples, one after another

first-back : (f : SampleFormat) (zs : List ℤ) → list_all (fits f) zs ≡ true → first_samples f (length zs) (sample_bytes f zs) ≡ zs
unfolding pieces
first-back f [] h = refl
first-back f (z ∷ zs) h =
    let first : fits f z ≡ true = grind (arith, nat_tests) in
    let others : list_all (fits f) zs ≡ true = grind (arith, nat_tests) in
    let size = length-bytes_of f (clamped f z) in
    ap (λ bs. value_of f bs ∷ map (value_of f) (pieces (size_of f) (length zs) (drop (size_of f) (written_bytes f z ++ sample_bytes f zs))))
    (take_at (written_bytes f z) (sample_bytes f zs) (size_of f) size)
    ∙ ap (λ bs. value_of f (written_bytes f z) ∷ map (value_of f) (pieces (size_of f) (length zs) bs))
    (drop_at (written_bytes f z) (sample_bytes f zs) (size_of f) size)
    ∙ ap (λ y. value_of f (bytes_of f y) ∷ first_samples f (length zs) (sample_bytes f zs)) (clamped-fits f z first)
    ∙ ap (λ y. y ∷ first_samples f (length zs) (sample_bytes f zs)) (value-back f z first)
    ∙ ap (λ ys. z ∷ ys) (first-back f zs others)

length-sample_bytes : (f : SampleFormat) (zs : List ℤ) → length (sample_bytes f zs) ≡ size_of f * length zs
length-sample_bytes f [] = omega arith
length-sample_bytes f (z ∷ zs) =
    length-append (written_bytes f z) (sample_bytes f zs)
    ∙ ap (λ n. n + length (sample_bytes f zs)) (length-bytes_of f (clamped f z))
    ∙ ap (λ n. size_of f + n) (length-sample_bytes f zs)
    ∙ omega arith

count-back : (f : SampleFormat) (n : ℕ) → size_of f * n / size_of f ≡ n
count-back U8 n = omega arith
count-back S8 n = omega arith
count-back S16Le n = omega arith
count-back S16Be n = omega arith
count-back S32Le n = omega arith
count-back S32Be n = omega arith

pub samples-back : (f : SampleFormat) (zs : List ℤ) → list_all (fits f) zs ≡ true → samples_in f (sample_bytes f zs) ≡ zs
samples-back f zs h =
    ap (λ n. first_samples f (n / size_of f) (sample_bytes f zs)) (length-sample_bytes f zs)
    ∙ ap (λ n. first_samples f n (sample_bytes f zs)) (count-back f (length zs))
    ∙ first-back f zs h
