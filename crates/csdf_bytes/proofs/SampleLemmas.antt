-- The numbers of samples.
use Rattle.std.proofs.Common.{◌≡◌, ℕ, ◌+◌, ◌*◌, ◌<◌, List, [], ◌∷◌, length, get_or, ◌∙◌, ap, arith}
use Rattle.std.specs.Prelude.{pos, reverse}
use Rattle.std.proofs.lemmas.Int.{ints}
use Rattle.std.proofs.lemmas.Bool.Decides.{nat_tests}
use Rattle.std.specs.Int.{cast_signed}
use mir.Syntax.{w8, w16, w32}
use Rattle.csdf_bytes.specs.declared.sample_format.SampleFormat.{SampleFormat}
use Rattle.csdf_bytes.specs.declared.sample_format.SampleFormat.TheVariants.{U8, S8, S16Le, S16Be, S32Le, S32Be}
use Rattle.csdf_bytes.specs.Samples.{low_first, signed_from, size_of, value_of}

-- ---- two's complement is that of std

signed-8 : (n : ℕ) → n < 256 → signed_from 128 n ≡ cast_signed w8 n
signed-8 n small = grind (arith, ints, nat_tests)

signed-16 : (n : ℕ) → n < 65536 → signed_from 32768 n ≡ cast_signed w16 n
signed-16 n small = grind (arith, ints, nat_tests)

signed-32 : (n : ℕ) → n < 4294967296 → signed_from 2147483648 n ≡ cast_signed w32 n
signed-32 n small = grind (arith, ints, nat_tests)

-- ---- the number of each sample, from its bytes

abbrev pub AreBytes : List ℕ → Type 0
AreBytes bytes = (i : ℕ) → get_or bytes i 0 < 256

low-1 : (bs : List ℕ) → length bs ≡ 1 → low_first bs ≡ get_or bs 0 0
low-1 [] size = absurd (omega (arith, size))
low-1 (a ∷ []) size = omega arith
low-1 (a ∷ b ∷ bs) size = absurd (omega (arith, size))

low-2 : (bs : List ℕ) → length bs ≡ 2 → low_first bs ≡ get_or bs 0 0 + get_or bs 1 0 * 256
low-2 [] size = absurd (omega (arith, size))
low-2 (a ∷ []) size = absurd (omega (arith, size))
low-2 (a ∷ b ∷ []) size = omega arith
low-2 (a ∷ b ∷ c ∷ bs) size = absurd (omega (arith, size))

high-2 : (bs : List ℕ) → length bs ≡ 2 → low_first (reverse bs) ≡ get_or bs 0 0 * 256 + get_or bs 1 0
high-2 [] size = absurd (omega (arith, size))
high-2 (a ∷ []) size = absurd (omega (arith, size))
high-2 (a ∷ b ∷ []) size = omega arith
high-2 (a ∷ b ∷ c ∷ bs) size = absurd (omega (arith, size))

low-4 : (bs : List ℕ) → length bs ≡ 4
    → low_first bs ≡ get_or bs 0 0 + get_or bs 1 0 * 256 + get_or bs 2 0 * 65536 + get_or bs 3 0 * 16777216
low-4 [] size = absurd (omega (arith, size))
low-4 (a ∷ []) size = absurd (omega (arith, size))
low-4 (a ∷ b ∷ []) size = absurd (omega (arith, size))
low-4 (a ∷ b ∷ c ∷ []) size = absurd (omega (arith, size))
low-4 (a ∷ b ∷ c ∷ d ∷ []) size = omega arith
low-4 (a ∷ b ∷ c ∷ d ∷ e ∷ bs) size = absurd (omega (arith, size))

high-4 : (bs : List ℕ) → length bs ≡ 4
    → low_first (reverse bs) ≡ get_or bs 0 0 * 16777216 + get_or bs 1 0 * 65536 + get_or bs 2 0 * 256 + get_or bs 3 0
high-4 [] size = absurd (omega (arith, size))
high-4 (a ∷ []) size = absurd (omega (arith, size))
high-4 (a ∷ b ∷ []) size = absurd (omega (arith, size))
high-4 (a ∷ b ∷ c ∷ []) size = absurd (omega (arith, size))
high-4 (a ∷ b ∷ c ∷ d ∷ []) size = omega arith
high-4 (a ∷ b ∷ c ∷ d ∷ e ∷ bs) size = absurd (omega (arith, size))

pub value-u8 : (f : SampleFormat) (bs : List ℕ) → f ≡ U8 → length bs ≡ size_of f → value_of f bs ≡ pos (get_or bs 0 0)
unfolding value_of
value-u8 f bs is size = ap (λ g. value_of g bs) is ∙ ap pos (low-1 bs (size ∙ ap size_of is))

pub value-s8 : (f : SampleFormat) (bs : List ℕ) → f ≡ S8 → length bs ≡ size_of f → AreBytes bs → value_of f bs ≡ cast_signed w8 (get_or bs 0 0)
unfolding value_of
value-s8 f bs is size bytes =
    ap (λ g. value_of g bs) is ∙ ap (signed_from 128) (low-1 bs (size ∙ ap size_of is)) ∙ signed-8 (get_or bs 0 0) (bytes 0)

pub value-s16le : (f : SampleFormat) (bs : List ℕ) → f ≡ S16Le → length bs ≡ size_of f → AreBytes bs
    → value_of f bs ≡ cast_signed w16 (get_or bs 0 0 + get_or bs 1 0 * 256)
unfolding value_of
value-s16le f bs is size bytes =
    ap (λ g. value_of g bs) is ∙ ap (signed_from 32768) (low-2 bs (size ∙ ap size_of is)) ∙ signed-16 _ (omega (arith, bytes 0, bytes 1))

pub value-s16be : (f : SampleFormat) (bs : List ℕ) → f ≡ S16Be → length bs ≡ size_of f → AreBytes bs
    → value_of f bs ≡ cast_signed w16 (get_or bs 0 0 * 256 + get_or bs 1 0)
unfolding value_of
value-s16be f bs is size bytes =
    ap (λ g. value_of g bs) is ∙ ap (signed_from 32768) (high-2 bs (size ∙ ap size_of is)) ∙ signed-16 _ (omega (arith, bytes 0, bytes 1))

pub value-s32le : (f : SampleFormat) (bs : List ℕ) → f ≡ S32Le → length bs ≡ size_of f → AreBytes bs
    → value_of f bs ≡ cast_signed w32 (get_or bs 0 0 + get_or bs 1 0 * 256 + get_or bs 2 0 * 65536 + get_or bs 3 0 * 16777216)
unfolding value_of
value-s32le f bs is size bytes =
    ap (λ g. value_of g bs) is ∙ ap (signed_from 2147483648) (low-4 bs (size ∙ ap size_of is))
    ∙ signed-32 _ (omega (arith, bytes 0, bytes 1, bytes 2, bytes 3))

pub value-s32be : (f : SampleFormat) (bs : List ℕ) → f ≡ S32Be → length bs ≡ size_of f → AreBytes bs
    → value_of f bs ≡ cast_signed w32 (get_or bs 0 0 * 16777216 + get_or bs 1 0 * 65536 + get_or bs 2 0 * 256 + get_or bs 3 0)
unfolding value_of
value-s32be f bs is size bytes =
    ap (λ g. value_of g bs) is ∙ ap (signed_from 2147483648) (high-4 bs (size ∙ ap size_of is))
    ∙ signed-32 _ (omega (arith, bytes 0, bytes 1, bytes 2, bytes 3))
