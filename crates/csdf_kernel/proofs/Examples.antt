-- The definitions at worked examples.
use Rattle.std.proofs.Common.{◌≡◌, true, false, [], ◌∷◌, pos, negsuc, refl}
use Rattle.csdf_model.specs.declared.parts.Kernel.TheVariants.{Copy, Sum, Fir}
use Rattle.csdf_kernel.specs.Loop.{loop_values}
use Rattle.csdf_kernel.specs.Value.{places, clamp, floor, copy_token, convolution, filter_token, value_of}

sum_at_the_top : value_of Sum (2 ∷ []) (pos 2147483647 ∷ pos 1 ∷ []) ≡ pos 2147483647 ∷ pos 2147483647 ∷ []
unfolding value_of clamp
sum_at_the_top = refl

-- -2147483648, -1
sum_at_the_bottom : value_of Sum (2 ∷ []) (negsuc 2147483647 ∷ negsuc 0 ∷ []) ≡ negsuc 2147483647 ∷ negsuc 2147483647 ∷ []
unfolding value_of clamp
sum_at_the_bottom = refl

-- 4, 8, 12, -7 give 8, 6, -1
filtered : value_of (Fir (pos 1 ∷ pos 2 ∷ pos 1 ∷ []) 3 2) (3 ∷ []) (pos 4 ∷ pos 8 ∷ pos 12 ∷ negsuc 6 ∷ []) ≡ pos 8 ∷ pos 6 ∷ negsuc 0 ∷ []
unfolding value_of filter_token convolution places clamp floor
filtered = refl

copied : value_of Copy (2 ∷ 4 ∷ []) (pos 1 ∷ pos 2 ∷ pos 3 ∷ []) ≡ pos 1 ∷ pos 2 ∷ pos 1 ∷ pos 2 ∷ pos 3 ∷ pos 1 ∷ []
unfolding value_of copy_token places
copied = refl

-- a weight below zero is told as any other
filtered_below : value_of (Fir (negsuc 0 ∷ pos 2 ∷ []) 2 1) (2 ∷ []) (pos 5 ∷ pos 1 ∷ []) ≡ negsuc 1 ∷ negsuc 0 ∷ []
unfolding value_of filter_token convolution places clamp floor
filtered_below = refl

-- sixteen taps: 1 * 1 + 2 * 2 .. + 16 * 16 is 1496, and 1 * 2 + 2 * 3 .. + 16 * 17 is 1632, both divided by 8
filtered_by_sixteen : value_of
    (Fir (pos 1 ∷ pos 2 ∷ pos 3 ∷ pos 4 ∷ pos 5 ∷ pos 6 ∷ pos 7 ∷ pos 8 ∷ pos 9 ∷ pos 10 ∷ pos 11 ∷ pos 12 ∷ pos 13 ∷ pos 14 ∷ pos 15 ∷ pos 16 ∷ []) 16 3)
    (2 ∷ [])
    (pos 1 ∷ pos 2 ∷ pos 3 ∷ pos 4 ∷ pos 5 ∷ pos 6 ∷ pos 7 ∷ pos 8 ∷ pos 9 ∷ pos 10 ∷ pos 11 ∷ pos 12 ∷ pos 13 ∷ pos 14 ∷ pos 15 ∷ pos 16 ∷ pos 17 ∷ [])
    ≡ pos 187 ∷ pos 204 ∷ []
unfolding value_of filter_token convolution places clamp floor
filtered_by_sixteen = refl

-- a running sum of 1, 2, 3, whose state begins with 0 and is read last: each firing writes it to itself and to another channel
summed_on : loop_values Sum (1 ∷ 1 ∷ []) false 1 0 3 (pos 0 ∷ []) (pos 1 ∷ pos 2 ∷ pos 3 ∷ [])
    ≡ pos 1 ∷ pos 1 ∷ pos 3 ∷ pos 3 ∷ pos 6 ∷ pos 6 ∷ []
unfolding value_of clamp
summed_on = refl

-- one token out, and behind it two that are read first by the next firing: 1, 2 and 10 give 13, 13, 13
kept_behind : loop_values Sum (1 ∷ 2 ∷ []) true 1 1 2 (pos 1 ∷ pos 2 ∷ []) (pos 10 ∷ pos 20 ∷ [])
    ≡ pos 13 ∷ pos 13 ∷ pos 13 ∷ pos 46 ∷ pos 46 ∷ pos 46 ∷ []
unfolding value_of clamp
kept_behind = refl
