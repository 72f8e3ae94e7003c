-- How many periods a segment has.
use Rattle.std.specs.Prelude.{◌≡◌, ◌↔◌, ◌*◌, ◌-◌, ◌≤◌, ℕ, List, All, Option, Some, None, max, min, slice_index}
use Rattle.csdf_model.specs.declared.limits.TheConstants.{MAX_FIRINGS_PER_ACTOR}
use Rattle.csdf_analysis.specs.Acceptance.{Accepted}
use Rattle.csdf_floor.specs.Continuing.{given_in}
use Rattle.csdf_floor.specs.Work.{HasFewFirings}
use Rattle.csdf_run.specs.Totals.{capped}

-- in n periods a source gives no more than so many tokens, by what it gives in one
abbrev pub FitsBelow : Accepted → ℕ → ℕ → ℕ → Type 0
FitsBelow a limit n i = n * capped (given_in a.graph.channels i (slice_index a.q i)) ≤ limit

-- the most periods in which no actor makes more than 16,384,000 firings and each source gives no more than so many tokens
abbrev pub IsMostBelow : Accepted → List ℕ → ℕ → ℕ → Type 0
IsMostBelow a sources limit most =
    (n : ℕ) → (n ≤ most) ↔ ((n ≤ MAX_FIRINGS_PER_ACTOR) × HasFewFirings a n × All (FitsBelow a limit n) sources)

-- how many periods a segment has: so many as are asked for, where each source's tokens are at most 1,000,000; else the most with at most 65,536; one at least
abbrev pub IsUsualLength : Accepted → List ℕ → Option ℕ → ℕ → Type 0
IsUsualLength a sources (Some asked) n = (most : ℕ) × IsMostBelow a sources 1000000 most × (n ≡ max 1 (min asked most))
IsUsualLength a sources None n = (most : ℕ) × IsMostBelow a sources 65536 most × (n ≡ max 1 most)

-- how many the last one has, where a source has run dry
abbrev pub IsLastLength : Accepted → List ℕ → ℕ → ℕ → Type 0
IsLastLength a sources usual n = (free : ℕ) × IsUsualLength a sources None free × (n ≡ max usual free)

-- so many periods, or those that are left where these are fewer
abbrev pub shortest : ℕ → Option ℕ → ℕ
shortest n (Some left) = min n left
shortest n None = n

-- those that are left after so many
abbrev pub left_after : Option ℕ → ℕ → Option ℕ
left_after (Some left) n = Some (left - n)
left_after None n = None
