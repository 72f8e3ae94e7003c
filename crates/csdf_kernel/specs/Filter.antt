-- What the code keeps of a filter while it fires.
use Rattle.std.specs.Prelude.{ℕ, ◌≡◌, ◌+◌, ◌<◌, ◌≤◌, ◌^◌, IsTrue, List, ℤ, length, unsigned_abs, ◌*ℤ◌, pos, ◌⊎◌}
use Rattle.csdf_model.specs.declared.parts.Kernel.{Kernel}
use Rattle.csdf_model.specs.declared.parts.Kernel.TheVariants.{Source, Sink, Copy, Sum, Fir}
use Rattle.csdf_model.specs.declared.limits.TheConstants.{MAX_SHIFT, MAX_WEIGHTS}
use Rattle.csdf_kernel.specs.declared.filter.Filter.{Filter}
use Rattle.csdf_kernel.specs.Value.{filter_token, token_at}

-- the token that a filter tells at a place of a firing that reads these
abbrev pub filtered : Filter → List ℤ → ℕ → ℤ
filtered f xs place = filter_token f.weights.now f.taps f.shift xs place

-- each of the first n weights is at most 2^27 in size, so that its product with a token is at most 2^58, and sixteen add up to 2^62 at most
abbrev pub AreSmall : List ℤ → ℕ → Type 0
AreSmall weights n = (j : ℕ) → j < n → unsigned_abs (token_at weights j) ≤ 2 ^ 27

-- the product of any weight with any token is at most 2^26 in size, so that sixteen add up to 2^30 at most
abbrev pub AreNarrow : List ℤ → List ℤ → Type 0
AreNarrow weights xs = (j p : ℕ) → unsigned_abs (token_at weights j *ℤ token_at xs p) ≤ 2 ^ 26

-- a list of 32 tokens: those of the inputs from this place on, and 0 past their end
pub record IsWindow (xs : List ℤ) (base : ℕ) (window : List ℤ) : Type 0 where
  pub long : length window ≡ 32
  pub alike : (i : ℕ) → i < 32 → token_at window i ≡ token_at xs (base + i)

-- so many of the taps have a weight, and find a token at this place of a firing that reads so many
pub record AreTapsAt (weights : List ℤ) (taps need place have : ℕ) : Type 0 where
  pub few : have ≤ taps
  pub there : place + have ≤ need ⊎ have ≡ 0
  pub all : have ≡ taps ⊎ length weights ≤ have ⊎ need ≤ place + have

-- the first so many of the weights, and zeros after them
pub record IsPadded (weights : List ℤ) (have : ℕ) (padded : List ℤ) : Type 0 where
  pub long : length padded ≡ MAX_WEIGHTS
  pub alike : (j : ℕ) → j < have → token_at padded j ≡ token_at weights j
  pub zeros : (j : ℕ) → have ≤ j → token_at padded j ≡ pos 0

-- taps and a shift within their limits, and weights that are small where they are marked so
pub record IsInRange (f : Filter) : Type 0 where
  pub few_taps : f.taps ≤ MAX_WEIGHTS
  pub low_shift : f.shift ≤ MAX_SHIFT
  pub are_small : IsTrue f.small → AreSmall f.weights.now f.taps

-- no weight is greater in size than it is marked
abbrev pub HasGreatest : Filter → Type 0
HasGreatest f = (j : ℕ) → unsigned_abs (token_at f.weights.now j) ≤ f.greatest

-- sixteen taps with small weights, each of which has a token from this place on
pub record IsWhole (f : Filter) (xs : List ℤ) (place : ℕ) : Type 0 where
  pub marked : IsTrue f.small
  pub sixteen : f.taps ≡ 16
  pub weighted : 16 ≤ length f.weights.now
  pub there : place + 16 ≤ length xs

-- sixteen taps with small weights, whose products with these tokens are narrow
pub record IsNarrow (f : Filter) (xs : List ℤ) : Type 0 where
  pub marked : IsTrue f.small
  pub sixteen : f.taps ≡ 16
  pub weighted : 16 ≤ length f.weights.now
  pub narrow : AreNarrow f.weights.now xs

-- these are the weights, the taps and the shift of the kernel, where it is a filter
abbrev pub IsFilterOf : Kernel → Filter → Type 0
IsFilterOf (Fir ws n by) f = (f.weights.now ≡ ws) × (f.taps ≡ n) × (f.shift ≡ by)
IsFilterOf Source f = Unit {0}
IsFilterOf Sink f = Unit {0}
IsFilterOf Copy f = Unit {0}
IsFilterOf Sum f = Unit {0}
