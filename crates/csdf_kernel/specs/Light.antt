-- The tokens of a block of firings, where each firing gives as many, end to end.
use Rattle.std.specs.Prelude.{ℕ, ◌≡◌, ◌+◌, ◌*◌, ◌<◌, ◌≤◌, IsTrue, List, ℤ, length, slice_range}
use Rattle.csdf_model.specs.declared.limits.TheConstants.{MAX_TOTAL_PER_FIRING}
use Rattle.csdf_kernel.specs.declared.light.LightBlock.{LightBlock}
use Rattle.csdf_kernel.specs.declared.light.TheConstants.{MOST_GIVEN}
use Rattle.csdf_kernel.specs.Filter.{AreNarrow, IsInRange, filtered}
use Rattle.csdf_kernel.specs.Value.{token_at}

-- a block of firings of a filter with small weights, of few tokens each, whose inputs are all there
pub record IsLight (b : LightBlock) : Type 0 where
  pub in_range : IsInRange b.filter
  pub small : IsTrue b.filter.small
  pub narrow : IsTrue b.narrow → AreNarrow b.filter.weights.now b.inputs.now
  pub low : b.each ≤ MOST_GIVEN
  pub few_needed : b.need ≤ MAX_TOTAL_PER_FIRING
  pub whole : b.firings * b.need ≤ length b.inputs.now

-- the token at a place of firing f
abbrev pub firing_token : LightBlock → ℕ → ℕ → ℤ
firing_token b place f = filtered b.filter (slice_range b.inputs.now (f * b.need) (f * b.need + b.need)) place

-- at a place of firings of `each` tokens stands what is told of it, from the first of some firings to before the last
abbrev pub HoldsPlace : (ℕ → ℤ) → ℕ → List ℤ → ℕ → ℕ → ℕ → Type 0
HoldsPlace token each values place first last = (f : ℕ) → first ≤ f → f < last → token_at values (f * each + place) ≡ token f

-- all tokens but those are as they were
abbrev pub KeepsOthers : ℕ → List ℤ → List ℤ → ℕ → ℕ → ℕ → Type 0
KeepsOthers each old new place first last = (f p : ℕ) → p < each → (p ≡ place → first ≤ f → f < last → ⊥) → token_at new (f * each + p) ≡ token_at old (f * each + p)
