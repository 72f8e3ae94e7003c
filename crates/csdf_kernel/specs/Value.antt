-- The value of a kernel: the tokens that one firing writes, from its counts and the tokens that it read alone.
-- The kernels are nodes of synchronous dataflow graphs (Lee and Messerschmitt 1987), the filter is a finite impulse response by
-- direct convolution (Oppenheim and Schafer, Discrete-Time Signal Processing).
use Rattle.std.specs.Prelude.{ℕ, zero, suc, ◌≡◌, ◌+◌, ◌%◌, ◌^◌, ◌≤◌, List, [], ◌++◌, length, map, fold, sum, flat_map, replicate, take, drop, slice_index_or}
use Rattle.std.specs.Prelude.{ℤ, pos, ◌+ℤ◌, ◌*ℤ◌}
use Rattle.std.specs.List.{range_with_len}
use Rattle.std.specs.Int.{w32, saturate_signed, int_div_euclid}
use Rattle.csdf_model.specs.declared.limits.TheConstants.{MAX_SHIFT, MAX_WEIGHTS}
use Rattle.csdf_model.specs.declared.parts.Kernel.{Kernel}
use Rattle.csdf_model.specs.declared.parts.Kernel.TheVariants.{Source, Sink, Copy, Sum, Fir}

-- the number at a place, and 0 past the end
abbrev pub token_at : List ℤ → ℕ → ℤ
token_at xs p = slice_index_or xs p (pos 0)

-- a list of so many tokens, each told by its place
unfoldable pub places : (ℕ → ℤ) → ℕ → List ℤ
places token count = map token (range_with_len 0 count)

-- the sum of a list
abbrev pub total : List ℤ → ℤ
total xs = fold ◌+ℤ◌ (pos 0) xs

-- the nearest number in the range of `i32`, from -2^31 to 2^31 - 1
unfoldable pub clamp : ℤ → ℤ
clamp z = saturate_signed w32 z

-- z / n rounded down, for an n above 0: the quotient whose remainder is not negative
unfoldable pub floor : ℤ → ℕ → ℤ
floor z n = int_div_euclid z (pos n)

-- token i of a copy: the inputs over and over, and 0 where there are none
unfoldable pub copy_token : List ℤ → ℕ → ℤ
copy_token xs i = token_at xs (i % length xs)

-- the convolution at place i: the sum over each j below `taps` of weights[j] * xs[i + j]
unfoldable pub convolution : List ℤ → ℕ → List ℤ → ℕ → ℤ
convolution weights taps xs i = total (places (λ j. token_at weights j *ℤ token_at xs (i + j)) taps)

-- token i of a filter: the convolution there, divided by 2^shift
unfoldable pub filter_token : List ℤ → ℕ → ℕ → List ℤ → ℕ → ℤ
filter_token weights taps shift xs i = clamp (floor (convolution weights taps xs i) (2 ^ shift))

-- the tokens that a firing writes, output channels in order, to each as many as its count: a copy and a filter begin anew at each channel, and a source goes on
unfoldable pub value_of : Kernel → List ℕ → List ℤ → List ℤ
value_of Source counts xs = places (token_at xs) (sum counts)
value_of Sink counts xs = replicate (sum counts) (pos 0)
value_of Copy counts xs = flat_map (places (copy_token xs)) counts
value_of Sum counts xs = replicate (sum counts) (clamp (total xs))
value_of (Fir weights taps shift) counts xs = flat_map (places (filter_token weights taps shift xs)) counts

-- what n firings of the same counts write, end to end, where each has the next `need` of the tokens
abbrev pub values_of : Kernel → List ℕ → ℕ → ℕ → List ℤ → List ℤ
values_of kernel counts need zero xs = []
values_of kernel counts need (suc n) xs = value_of kernel counts (take need xs) ++ values_of kernel counts need n (drop need xs)

-- a firing that reads so many tokens writes just these
abbrev pub GivesAsRead : Kernel → List ℕ → ℕ → Type 0
GivesAsRead kernel counts need = (xs : List ℤ) → length xs ≡ need → value_of kernel counts xs ≡ xs

-- a filter has its taps and its shift within their limits
abbrev pub HasFilterInRange : Kernel → Type 0
HasFilterInRange Source = Unit {0}
HasFilterInRange Sink = Unit {0}
HasFilterInRange Copy = Unit {0}
HasFilterInRange Sum = Unit {0}
HasFilterInRange (Fir weights taps shift) = (taps ≤ MAX_WEIGHTS) × (shift ≤ MAX_SHIFT)
