-- The bytes of samples.
use Rattle.std.proofs.Common.{◌≡◌, ℕ, ◌+◌, ◌*◌, ◌/◌, ◌%◌, ◌<◌, ◌≤◌, true, false, List, [], ◌∷◌, ◌++◌, length, take, get_or, refl, sym, ◌∙◌, ap, arith, not}
use Rattle.std.proofs.Common.{append-nil, cond, drop, of_z, to_z}
use Rattle.std.proofs.Math.Seq.{take-add}
use Rattle.std.specs.Prelude.{ℤ, pos, negsuc, reverse, nat_abs}
use Rattle.std.proofs.lemmas.Int.{to_z-of_z}
use Rattle.std.proofs.lemmas.Bool.Decides.{nat_tests}
use Rattle.std.proofs.lemmas.Grind.{flat_map-append}
use Rattle.std.proofs.lemmas.List.{take_more}
use Rattle.std.proofs.lemmas.List.Sums.{count_by_more_no, count_by_more_yes, sum_by-append}
use Rattle.std.proofs.lemmas.Slice.{take-put_mid}
use borrow.Rule.Slice.PartMut.{put_mid}
use mir.Syntax.{w8, w16, w32}
use mir.Val.{SFits}
use Rattle.csdf_bytes.specs.declared.sample_format.SampleFormat.{SampleFormat}
use Rattle.csdf_bytes.specs.declared.sample_format.SampleFormat.TheVariants.{U8, S8, S16Le, S16Be, S32Le, S32Be}
use Rattle.csdf_bytes.specs.Samples.{bytes_of, clamped, clipped_count, fits, low_bytes, sample_bytes, size_of, wrapped_to, written_bytes}

-- ---- a number of the format fits as many bits

fits-u8 : (n : ℕ) → fits U8 (pos n) ≡ true → n < 256
fits-u8 n h = grind (arith, nat_tests)

fits-u8-negative : (n : ℕ) → fits U8 (negsuc n) ≡ true → ⊥
fits-u8-negative n h = cc

fits-s8 : (z : ℤ) → fits S8 z ≡ true → SFits w8 z
fits-s8 (pos n) h = record { sfits = let small : n < 128 = grind (arith, nat_tests) in omega (arith, small) }
fits-s8 (negsuc n) h = record { sfits = let small : n < 128 = grind (arith, nat_tests) in omega (arith, small) }

fits-s16 : (z : ℤ) → fits S16Le z ≡ true → SFits w16 z
fits-s16 (pos n) h = record { sfits = let small : n < 32768 = grind (arith, nat_tests) in omega (arith, small) }
fits-s16 (negsuc n) h = record { sfits = let small : n < 32768 = grind (arith, nat_tests) in omega (arith, small) }

-- ---- two's complement is that of std

bits-8 : (z : ℤ) → of_z w8 z ≡ wrapped_to 256 z
bits-8 (pos n) = refl
bits-8 (negsuc n) = refl

bits-16 : (z : ℤ) → of_z w16 z ≡ wrapped_to 65536 z
bits-16 (pos n) = refl
bits-16 (negsuc n) = refl

bits-32 : (z : ℤ) → of_z w32 z ≡ wrapped_to 4294967296 z
bits-32 (pos n) = refl
bits-32 (negsuc n) = refl

cast-8 : (z : ℤ) → SFits w32 z → SFits w8 z → of_z w8 (to_z w8 (of_z w8 (to_z w32 (of_z w32 z)))) ≡ wrapped_to 256 z
cast-8 z wide small =
    ap (λ x. of_z w8 (to_z w8 (of_z w8 x))) (to_z-of_z w32 z wide) ∙ ap (of_z w8) (to_z-of_z w8 z small) ∙ bits-8 z

cast-16 : (z : ℤ) → SFits w32 z → SFits w16 z → of_z w16 (to_z w16 (of_z w16 (to_z w32 (of_z w32 z)))) ≡ wrapped_to 65536 z
cast-16 z wide small =
    ap (λ x. of_z w16 (to_z w16 (of_z w16 x))) (to_z-of_z w32 z wide) ∙ ap (of_z w16) (to_z-of_z w16 z small) ∙ bits-16 z

cast-32 : (z : ℤ) → SFits w32 z → of_z w32 (to_z w32 (of_z w32 z)) ≡ wrapped_to 4294967296 z
cast-32 z wide = ap (of_z w32) (to_z-of_z w32 z wide) ∙ bits-32 z

-- ---- the bytes of each format

unsigned-byte : (z : ℤ) → fits U8 z ≡ true → nat_abs z ≡ wrapped_to 256 z % 256
unsigned-byte (pos n) h = let small : n < 256 = fits-u8 n h in omega (arith, small)
unsigned-byte (negsuc n) h = absurd (fits-u8-negative n h)

pub bytes-u8 : (f : SampleFormat) (z : ℤ) → f ≡ U8 → fits f z ≡ true → SFits w32 z → nat_abs (to_z w32 (of_z w32 z)) ∷ [] ≡ bytes_of f z
unfolding bytes_of
bytes-u8 f z is fit wide =
    ap (λ x. nat_abs x ∷ []) (to_z-of_z w32 z wide)
    ∙ ap (λ n. n ∷ []) (unsigned-byte z (ap (λ g. fits g z) (sym is) ∙ fit))
    ∙ ap (λ g. bytes_of g z) (sym is)

wrapped-small : (z : ℤ) → SFits w8 z → wrapped_to 256 z < 256
wrapped-small (pos n) h = omega (arith, h.sfits)
wrapped-small (negsuc n) h = omega (arith, h.sfits)

pub bytes-s8 : (f : SampleFormat) (z : ℤ) → f ≡ S8 → fits f z ≡ true → SFits w32 z
    → of_z w8 (to_z w8 (of_z w8 (to_z w32 (of_z w32 z)))) ∷ [] ≡ bytes_of f z
unfolding bytes_of
bytes-s8 f z is fit wide =
    let small : SFits w8 z = fits-s8 z (ap (λ g. fits g z) (sym is) ∙ fit) in
    let below : wrapped_to 256 z < 256 = wrapped-small z small in
    ap (λ n. n ∷ []) (cast-8 z wide small)
    ∙ ap (λ n. n ∷ []) (let whole : wrapped_to 256 z ≡ wrapped_to 256 z % 256 = omega (arith, below) in whole)
    ∙ ap (λ g. bytes_of g z) (sym is)

pub bytes-s16le : (f : SampleFormat) (z : ℤ) → f ≡ S16Le → fits f z ≡ true → SFits w32 z → (m : ℕ)
    → m ≡ of_z w16 (to_z w16 (of_z w16 (to_z w32 (of_z w32 z)))) → m % 256 ∷ m / 256 % 256 ∷ [] ≡ bytes_of f z
unfolding bytes_of
bytes-s16le f z is fit wide m bits =
    ap (λ n. n % 256 ∷ n / 256 % 256 ∷ []) (bits ∙ cast-16 z wide (fits-s16 z (ap (λ g. fits g z) (sym is) ∙ fit)))
    ∙ ap (λ g. bytes_of g z) (sym is)

pub bytes-s16be : (f : SampleFormat) (z : ℤ) → f ≡ S16Be → fits f z ≡ true → SFits w32 z → (m : ℕ)
    → m ≡ of_z w16 (to_z w16 (of_z w16 (to_z w32 (of_z w32 z)))) → m / 256 % 256 ∷ m % 256 ∷ [] ≡ bytes_of f z
unfolding bytes_of
bytes-s16be f z is fit wide m bits =
    ap (λ n. n / 256 % 256 ∷ n % 256 ∷ []) (bits ∙ cast-16 z wide (fits-s16 z (ap (λ g. fits g z) (sym is) ∙ fit)))
    ∙ ap (λ g. bytes_of g z) (sym is)

third : (n : ℕ) → n / 65536 ≡ n / 256 / 256
third n = omega arith

fourth : (n : ℕ) → n / 16777216 ≡ n / 256 / 256 / 256
fourth n = omega arith

pub bytes-s32le : (f : SampleFormat) (z : ℤ) → f ≡ S32Le → SFits w32 z → (m : ℕ) → m ≡ of_z w32 (to_z w32 (of_z w32 z))
    → m % 256 ∷ m / 256 % 256 ∷ m / 65536 % 256 ∷ m / 16777216 % 256 ∷ [] ≡ bytes_of f z
unfolding bytes_of
bytes-s32le f z is wide m bits =
    ap (λ n. m % 256 ∷ m / 256 % 256 ∷ n % 256 ∷ m / 16777216 % 256 ∷ []) (third m)
    ∙ ap (λ n. m % 256 ∷ m / 256 % 256 ∷ m / 256 / 256 % 256 ∷ n % 256 ∷ []) (fourth m)
    ∙ ap (λ n. low_bytes 4 n) (bits ∙ cast-32 z wide)
    ∙ ap (λ g. bytes_of g z) (sym is)

pub bytes-s32be : (f : SampleFormat) (z : ℤ) → f ≡ S32Be → SFits w32 z → (m : ℕ) → m ≡ of_z w32 (to_z w32 (of_z w32 z))
    → m / 16777216 % 256 ∷ m / 65536 % 256 ∷ m / 256 % 256 ∷ m % 256 ∷ [] ≡ bytes_of f z
unfolding bytes_of
bytes-s32be f z is wide m bits =
    ap (λ n. m / 16777216 % 256 ∷ n % 256 ∷ m / 256 % 256 ∷ m % 256 ∷ []) (third m)
    ∙ ap (λ n. n % 256 ∷ m / 256 / 256 % 256 ∷ m / 256 % 256 ∷ m % 256 ∷ []) (fourth m)
    ∙ ap (λ n. reverse (low_bytes 4 n)) (bits ∙ cast-32 z wide)
    ∙ ap (λ g. bytes_of g z) (sym is)

-- ---- samples, one after another

pub length-bytes_of : (f : SampleFormat) (z : ℤ) → length (bytes_of f z) ≡ size_of f
unfolding bytes_of
length-bytes_of U8 z = refl
length-bytes_of S8 z = refl
length-bytes_of S16Le z = refl
length-bytes_of S16Be z = refl
length-bytes_of S32Le z = refl
length-bytes_of S32Be z = refl

-- a sample has four bytes at most
pub room-for : (f : SampleFormat) (used i count room : ℕ) → used ≡ size_of f * i → i < count → 4 * count ≤ room → used + size_of f ≤ room
room-for U8 used i count room at below within = omega (arith, at, below, within)
room-for S8 used i count room at below within = omega (arith, at, below, within)
room-for S16Le used i count room at below within = omega (arith, at, below, within)
room-for S16Be used i count room at below within = omega (arith, at, below, within)
room-for S32Le used i count room at below within = omega (arith, at, below, within)
room-for S32Be used i count room at below within = omega (arith, at, below, within)

-- the bytes of one number more
sample_bytes-more : (f : SampleFormat) (zs : List ℤ) (i : ℕ) → i < length zs
    → sample_bytes f (take (i + 1) zs) ≡ sample_bytes f (take i zs) ++ bytes_of f (clamped f (get_or zs i (pos 0)))
sample_bytes-more f zs i below =
    ap (sample_bytes f) (take_more zs i (pos 0) below)
    ∙ flat_map-append (written_bytes f) (take i zs) (get_or zs i (pos 0) ∷ [])
    ∙ ap (λ bs. sample_bytes f (take i zs) ++ bs) (append-nil (bytes_of f (clamped f (get_or zs i (pos 0)))))

-- one sample more was put
pub put-more : (f : SampleFormat) (zs : List ℤ) (i used size k : ℕ) (bytes sample : List ℕ) → i < length zs → size ≡ size_of f → used + size ≤ length bytes
    → take used bytes ≡ sample_bytes f (take i zs) → sample ≡ bytes_of f (clamped f (get_or zs i (pos 0)))
    → take (used + size) (put_mid used k bytes sample) ≡ sample_bytes f (take (i + 1) zs)
put-more f zs i used size k bytes sample below is room so_far put =
    let long : used + size ≡ used + length sample = ap (λ n. used + n) (is ∙ sym (ap length put ∙ length-bytes_of f (clamped f (get_or zs i (pos 0))))) in
    take-put_mid used k bytes sample (used + size) long (omega (arith, room))
    ∙ ap (λ bs. take used bytes ++ bs) put
    ∙ ap (λ bs. bs ++ bytes_of f (clamped f (get_or zs i (pos 0)))) so_far
    ∙ sym (sample_bytes-more f zs i below)

-- what is read of a token
pub read-token : (z : ℤ) → SFits w32 z → to_z w32 (of_z w32 z) ≡ z
read-token z fit = to_z-of_z w32 z fit

-- one number more is counted, where it is none of the format
pub clipped-more : (f : SampleFormat) (zs : List ℤ) (i clipped : ℕ) → i < length zs → clipped ≡ clipped_count f (take i zs)
    → fits f (get_or zs i (pos 0)) ≡ false → clipped + 1 ≡ clipped_count f (take (i + 1) zs)
clipped-more f zs i clipped below so_far none =
    ap (λ n. n + 1) so_far ∙ sym (count_by_more_yes (λ z. not (fits f z)) zs i (pos 0) below (ap not none))

pub clipped-same : (f : SampleFormat) (zs : List ℤ) (i clipped : ℕ) → i < length zs → clipped ≡ clipped_count f (take i zs)
    → fits f (get_or zs i (pos 0)) ≡ true → clipped ≡ clipped_count f (take (i + 1) zs)
clipped-same f zs i clipped below so_far one =
    so_far ∙ sym (count_by_more_no (λ z. not (fits f z)) zs i (pos 0) below (ap not one))

-- those of a part are counted too
pub clipped-part : (f : SampleFormat) (zs : List ℤ) (i n : ℕ)
    → clipped_count f (take i zs) + clipped_count f (take n (drop i zs)) ≡ clipped_count f (take (i + n) zs)
clipped-part f zs i n =
    sym (ap (clipped_count f) (take-add i n zs) ∙ sum_by-append (λ z. cond (not (fits f z)) 1 0) (take i zs) (take n (drop i zs)))
