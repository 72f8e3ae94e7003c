-- How many periods a segment has.
use Rattle.std.proofs.Common.{◌≡◌, ◌↔◌, ℕ, ◌+◌, ◌*◌, ◌/◌, ◌<◌, ◌≤◌, List, length, get_or, ap, sym, subst, ◌∙◌, inl, inr, arith}
use Rattle.std.proofs.Math.Nat.{le-div_iff_mul-le, le_refl, le_trans, mul-le-mul_right}
use Rattle.std.specs.Prelude.{Option, Some, None, IfSome, max, min}
use Rattle.std.proofs.lemmas.Bool.Decides.{eqb_tells, leb_tells}
use Rattle.std.proofs.lemmas.List.Elements.{All-from_get_or, All-get_or, All-weaker}
use Rattle.csdf_model.specs.declared.limits.TheConstants.{MAX_FIRINGS_PER_ACTOR}
use Rattle.csdf_analysis.specs.Acceptance.{Accepted, IsAccepted}
use Rattle.csdf_floor.specs.Continuing.{given_in}
use Rattle.csdf_floor.specs.Work.{HasFewFirings, IsMostPeriods}
use Rattle.csdf_floor.proofs.Works.{few_in_thousand}
use Rattle.csdf_run.specs.Totals.{capped}
use Rattle.csdf_stream.specs.Lengths.{FitsBelow, IsMostBelow, IsUsualLength, shortest}

pub capped_more : (sum more rest all : ℕ) → capped (sum + (more + rest)) ≡ all → capped (capped (sum + more) + rest) ≡ all
capped_more sum more rest all is = omega (arith, is)

-- ---- of one source

pub within_free : (limit most tokens : ℕ) → tokens ≡ 0 → (n : ℕ) → (n ≤ most) ↔ ((n ≤ most) × (n * tokens ≤ limit))
within_free limit most tokens none n =
    let nothing : n * tokens ≡ 0 = ap (λ (t : ℕ). n * t) none ∙ omega arith in
    (λ le. (le, omega (arith, nothing)), λ both. both.0)

pub within_all : (limit most tokens : ℕ) → 0 < tokens → most ≤ limit / tokens → (n : ℕ) → (n ≤ most) ↔ ((n ≤ most) × (n * tokens ≤ limit))
within_all limit most tokens some all n =
    (λ le. (le, (le-div_iff_mul-le {k = tokens} {x = n} {y = limit} some).0 (le_trans le all)), λ both. both.0)

pub within_some : (limit most tokens : ℕ) → 0 < tokens → limit / tokens < most → (n : ℕ) → (n ≤ limit / tokens) ↔ ((n ≤ most) × (n * tokens ≤ limit))
within_some limit most tokens some less n = (
  λ le. (omega (arith, le, less), (le-div_iff_mul-le {k = tokens} {x = n} {y = limit} some).0 le),
  λ both. (le-div_iff_mul-le {k = tokens} {x = n} {y = limit} some).1 both.1,
)

-- ---- of several

-- the most for the sources before place k
abbrev pub IsMostTo : Accepted → List ℕ → ℕ → ℕ → ℕ → Type 0
IsMostTo a sources limit k most =
    (n : ℕ) → (n ≤ most) ↔ ((n ≤ MAX_FIRINGS_PER_ACTOR) × HasFewFirings a n × ((j : ℕ) → j < k → FitsBelow a limit n (get_or sources j 0)))

pub below_none : (a : Accepted) (limit most : ℕ) (sources : List ℕ) → IsMostPeriods a most → IsMostTo a sources limit 0 most
below_none a limit most sources is n =
    (λ le. (let all = (is n).0 le in (all.0, all.1, λ j lt. absurd (omega (arith, lt)))), λ all. (is n).1 (all.0, all.1))

pub below_next : (a : Accepted) (limit most next k : ℕ) (sources : List ℕ) → IsMostTo a sources limit k most
    → ((n : ℕ) → (n ≤ next) ↔ ((n ≤ most) × FitsBelow a limit n (get_or sources k 0)))
    → IsMostTo a sources limit (k + 1) next
below_next a limit most next k sources before here n = (
  λ le.
      (let both = (here n).0 le in
      let all = (before n).0 both.0 in (
        all.0,
        all.1,
        λ j lt. elim (eqb_tells j k) [
          | inl same ↦ subst (λ i. FitsBelow a limit n (get_or sources i 0)) (sym same.1) both.1
          | inr other ↦ all.2 j (let ne = other.1 in omega arith)
        ],
      )),
  λ all.
      (here n).1 (
        (before n).1 (all.0, all.1, λ j lt. all.2 j (omega (arith, lt))),
        all.2 k (omega arith),
      ),
)

-- a bound on what a source gives, as the code tells it
pub here_as : (a : Accepted) (limit most next i k tokens : ℕ) (sources : List ℕ) → i ≡ get_or sources k 0
    → tokens ≡ capped (given_in a.graph.channels i (get_or a.q i 0))
    → ((n : ℕ) → (n ≤ next) ↔ ((n ≤ most) × (n * tokens ≤ limit)))
    → (n : ℕ) → (n ≤ next) ↔ ((n ≤ most) × FitsBelow a limit n (get_or sources k 0))
here_as a limit most next i k tokens sources at is here n =
    subst (λ (j : ℕ). (n ≤ next) ↔ ((n ≤ most) × FitsBelow a limit n j)) at
    (subst (λ (t : ℕ). (n ≤ next) ↔ ((n ≤ most) × (n * t ≤ limit))) is (here n))

pub below_all : (a : Accepted) (limit most k : ℕ) (sources : List ℕ) → k ≡ length sources → IsMostTo a sources limit k most → IsMostBelow a sources limit most
below_all a limit most k sources end is n = (
  λ le.
      (let all = (is n).0 le in
      (all.0, all.1, All-from_get_or (FitsBelow a limit n) sources 0 (λ j lt. all.2 j (omega (arith, lt, end))))),
  λ all. (is n).1 (all.0, all.1, λ j lt. All-get_or (FitsBelow a limit n) sources j 0 (omega (arith, lt, end)) all.2),
)

-- ---- a segment

few_less : (a : Accepted) (n m : ℕ) → m ≤ n → HasFewFirings a n → HasFewFirings a m
few_less a n m le few = All-weaker (λ q. n * q ≤ 16384000) (λ q. m * q ≤ 16384000) (λ q all. mul_le m n q 16384000 le all) a.q few
  where
    mul_le : (m n q most : ℕ) → m ≤ n → n * q ≤ most → m * q ≤ most
    mul_le m n q most le all = le_trans (mul-le-mul_right {m = m} {n = n} q le) all

-- a length between 1 and the most has few firings
pub few_of : (a : Accepted) (sources : List ℕ) (limit most n : ℕ) → IsAccepted a → IsMostBelow a sources limit most → n ≤ max 1 most → HasFewFirings a n
few_of a sources limit most n ok is le = elim (leb_tells 1 most) [
  | inl some ↦ few_less a most n (let one = some.1 in omega (arith, le)) ((is most).0 (le_refl most)).1
  | inr none ↦ few_in_thousand a n ok (let no = none.1 in omega (arith, le))
]

pub few_usual : (a : Accepted) (sources : List ℕ) (segment : Option ℕ) (n : ℕ) → IsAccepted a → IsUsualLength a sources segment n → HasFewFirings a n
few_usual a sources (Some asked) n ok is = few_of a sources 1000000 is.0 n ok is.1 (let e = is.2 in omega (arith, e))
few_usual a sources None n ok is = few_of a sources 65536 is.0 n ok is.1 (let e = is.2 in omega (arith, e))

pub few_greater : (a : Accepted) (n m : ℕ) → HasFewFirings a n → HasFewFirings a m → HasFewFirings a (max n m)
few_greater a n m one two = elim (leb_tells n m) [
  | inl le ↦ subst (HasFewFirings a) (let e = le.1 in let x : m ≡ max n m = omega arith in x) two
  | inr gt ↦ subst (HasFewFirings a) (let e = gt.1 in let x : n ≡ max n m = omega arith in x) one
]

pub some_shortest : (n : ℕ) (left : Option ℕ) → 1 ≤ n → IfSome left (λ m. 1 ≤ m) → 1 ≤ shortest n left
some_shortest n (Some left) some rest = omega (arith, some, rest)
some_shortest n None some rest = some

pub few_shortest : (a : Accepted) (n : ℕ) (left : Option ℕ) → HasFewFirings a n → HasFewFirings a (shortest n left)
few_shortest a n (Some left) few = few_less a n (min n left) (omega arith) few
few_shortest a n None few = few
