-- Raw samples: the number of each from its bytes, and the bytes of a number.
use Rattle.std.specs.Prelude.{ℕ, zero, suc, ◌+◌, ◌-◌, ◌*◌, ◌/◌, ◌%◌, Bool, ◌&&◌, not, nat_lt, if◌then◌else◌, List, [], ◌∷◌, length, map, reverse, take, drop}
use Rattle.std.specs.Prelude.{ℤ, pos, negsuc, ◌-ℤ◌, int_le, codes, count_by, flat_map}
use Rattle.std.specs.Int.{int_max, int_min}
use Rattle.csdf_bytes.specs.declared.sample_format.SampleFormat.{SampleFormat}
use Rattle.csdf_bytes.specs.declared.sample_format.SampleFormat.TheVariants.{U8, S8, S16Le, S16Be, S32Le, S32Be}

-- ---- a format

abbrev pub name_of : SampleFormat → List ℕ
name_of U8 = codes "u8"
name_of S8 = codes "s8"
name_of S16Le = codes "s16le"
name_of S16Be = codes "s16be"
name_of S32Le = codes "s32le"
name_of S32Be = codes "s32be"

-- how many bytes a sample has
abbrev pub size_of : SampleFormat → ℕ
size_of U8 = 1
size_of S8 = 1
size_of S16Le = 2
size_of S16Be = 2
size_of S32Le = 4
size_of S32Be = 4

-- the least number of a format
abbrev pub least : SampleFormat → ℤ
least U8 = pos 0
least S8 = negsuc 127
least S16Le = negsuc 32767
least S16Be = negsuc 32767
least S32Le = negsuc 2147483647
least S32Be = negsuc 2147483647

-- the greatest number of a format
abbrev pub greatest : SampleFormat → ℤ
greatest U8 = pos 255
greatest S8 = pos 127
greatest S16Le = pos 32767
greatest S16Be = pos 32767
greatest S32Le = pos 2147483647
greatest S32Be = pos 2147483647

-- ---- a sample

-- the number that bytes write, the lowest first
abbrev pub low_first : List ℕ → ℕ
low_first [] = 0
low_first (byte ∷ bytes) = byte + 256 * low_first bytes

-- two's complement: from this number on, the numbers stand for the negative ones
abbrev pub signed_from : ℕ → ℕ → ℤ
signed_from half n = if nat_lt n half then pos n else pos n -ℤ pos (2 * half)

-- the number of a sample
unfoldable pub value_of : SampleFormat → List ℕ → ℤ
value_of U8 bytes = pos (low_first bytes)
value_of S8 bytes = signed_from 128 (low_first bytes)
value_of S16Le bytes = signed_from 32768 (low_first bytes)
value_of S16Be bytes = signed_from 32768 (low_first (reverse bytes))
value_of S32Le bytes = signed_from 2147483648 (low_first bytes)
value_of S32Be bytes = signed_from 2147483648 (low_first (reverse bytes))

-- ---- samples

-- the first k pieces of n bytes
unfoldable pub pieces : ℕ → ℕ → List ℕ → List (List ℕ)
pieces n zero bytes = []
pieces n (suc k) bytes = take n bytes ∷ pieces n k (drop n bytes)

-- the first samples of some bytes, so many
abbrev pub first_samples : SampleFormat → ℕ → List ℕ → List ℤ
first_samples format count bytes = map (value_of format) (pieces (size_of format) count bytes)

-- all the whole samples of some bytes
abbrev pub samples_in : SampleFormat → List ℕ → List ℤ
samples_in format bytes = first_samples format (length bytes / size_of format) bytes

-- ---- what is written

-- a number is one of the format
abbrev pub fits : SampleFormat → ℤ → Bool
fits format number = int_le (least format) number && int_le number (greatest format)

-- the number, or the end of the format that is nearest
abbrev pub clamped : SampleFormat → ℤ → ℤ
clamped format number = int_max (least format) (int_min number (greatest format))

-- the bytes of a number, so many, the lowest first
abbrev pub low_bytes : ℕ → ℕ → List ℕ
low_bytes zero n = []
low_bytes (suc count) n = n % 256 ∷ low_bytes count (n / 256)

-- two's complement: a negative number less all of the numbers
abbrev pub wrapped_to : ℕ → ℤ → ℕ
wrapped_to all (pos n) = n
wrapped_to all (negsuc n) = all - suc n

-- the bytes of a number of the format
unfoldable pub bytes_of : SampleFormat → ℤ → List ℕ
bytes_of U8 number = low_bytes 1 (wrapped_to 256 number)
bytes_of S8 number = low_bytes 1 (wrapped_to 256 number)
bytes_of S16Le number = low_bytes 2 (wrapped_to 65536 number)
bytes_of S16Be number = reverse (low_bytes 2 (wrapped_to 65536 number))
bytes_of S32Le number = low_bytes 4 (wrapped_to 4294967296 number)
bytes_of S32Be number = reverse (low_bytes 4 (wrapped_to 4294967296 number))

-- what is written for a number
abbrev pub written_bytes : SampleFormat → ℤ → List ℕ
written_bytes format number = bytes_of format (clamped format number)

-- what is written for numbers
abbrev pub sample_bytes : SampleFormat → List ℤ → List ℕ
sample_bytes format numbers = flat_map (written_bytes format) numbers

-- how many of the numbers are none of the format
abbrev pub clipped_count : SampleFormat → List ℤ → ℕ
clipped_count format numbers = count_by (λ number. not (fits format number)) numbers
