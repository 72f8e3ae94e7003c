-- The state in which nothing has fired.
use Rattle.std.proofs.Common.{◌≡◌, ℕ, ◌+◌, ◌≤◌, zero, suc, List, [], ◌∷◌, length, get_or, map, replicate, refl, ap, subst, ◌∙◌, sym, arith, Bool, true, false}
use Rattle.std.specs.Prelude.{ℤ, sum_by}
use Rattle.std.specs.List.{zip, range_with_len, AllByRecursion}
use Rattle.std.proofs.lemmas.List.{length-map, length-replicate}
use Rattle.std.proofs.lemmas.List.Sums.{sum_by-cons}
use Rattle.csdf_core.specs.declared.stage.Stage.TheVariants.{Idle, Begun, Fetched}
use Rattle.csdf_core.specs.Plan.{Channel, Plan}
use Rattle.csdf_core.specs.Rows.{Row, need, gift}
use Rattle.csdf_core.specs.State.{Stream, Present, opening, waiting, present}
use Rattle.csdf_core.specs.Step.{count, stage, held, reserved, reserved_by, reserved_at}
use Rattle.csdf_core.specs.Ready.{IsReady, IsFit}
use Rattle.csdf_core.specs.Playable.{IsPlayable}
use Rattle.csdf_core.proofs.FitLemmas.{IsReached}

-- an actor's stage or count where all are alike
pub alike : {A : Type 0} → (n a : ℕ) (x : A) → get_or (replicate n x) a x ≡ x
alike zero a x = refl
alike (suc n) zero x = refl
alike (suc n) (suc a) x = alike n a x

pub waiting-opening : (cs : List Channel)
    → map waiting (map (λ (c : Channel). record { written = c.initial; taken = 0 }) cs) ≡ map (λ (c : Channel). c.initial) cs
waiting-opening [] = refl
waiting-opening (c ∷ cs) = ap (λ r. c.initial ∷ r) (waiting-opening cs)

lawful-opening : (cs : List Channel)
    → AllByRecursion (λ (stream : Stream). stream.taken ≤ length stream.written) (map (λ (c : Channel). record { written = c.initial; taken = 0 }) cs)
lawful-opening [] = tt
lawful-opening (c ∷ cs) = (omega arith, lawful-opening cs)

-- with every actor idle, a channel within its capacity is ready
all-ready : (p : Present) → ((a : ℕ) → stage p a ≡ Idle) → (cs : List Channel) → AllByRecursion (λ (c : Channel). length c.initial ≤ c.capacity) cs
    → AllByRecursion (λ (row : Row). IsReady p.counts p.stages row.0 row.1) (zip cs (map (λ (c : Channel). c.initial) cs))
all-ready p idle [] fits = tt
all-ready p idle (c ∷ cs) fits = (
  record {
    fits = fits.0;
    input = λ h. let e = idle c.to in absurd (cc);
    begun = λ h. let e = idle c.from in absurd (cc);
    fetched = λ h. let e = idle c.from in absurd (cc);
  },
  all-ready p idle cs fits.1,
)

all-still : (p : Present) → ((a : ℕ) → stage p a ≡ Idle) → (cs : List Channel) (n : ℕ)
    → AllByRecursion (λ (row : Channel × Bool). row.1 ≡ false → (stage p row.0.from ≡ Begun → ⊥) × (stage p row.0.from ≡ Fetched → ⊥))
    (zip cs (replicate n true))
all-still p idle [] n = tt
all-still p idle (c ∷ cs) zero = tt
all-still p idle (c ∷ cs) (suc n) = ((λ shut. absurd (cc)), all-still p idle cs n)

pub none_reserved : (plan : Plan) (p : Present) → ((a : ℕ) → stage p a ≡ Idle) → (k n : ℕ) → sum_by (reserved_by plan p) (range_with_len k n) ≡ 0
none_reserved plan p idle k zero = refl
none_reserved plan p idle k (suc n) =
    let here : reserved_by plan p k ≡ 0 = ap (λ s. reserved_at s (need k (count p k) plan.channels) (gift k (count p k) plan.channels)) (idle k) in
    omega (arith, sum_by-cons (reserved_by plan p) k (range_with_len (k + 1) n), here, none_reserved plan p idle (k + 1) n)

pub held-initial : (cs : List Channel) → sum_by length (map (λ (c : Channel). c.initial) cs) ≡ sum_by (λ (c : Channel). length c.initial) cs
held-initial [] = refl
held-initial (c ∷ cs) = omega (
  arith,
  sum_by-cons length c.initial (map (λ (d : Channel). d.initial) cs),
  sum_by-cons (λ (d : Channel). length d.initial) c cs,
  held-initial cs,
)

pub fit_opening : (plan : Plan) → IsPlayable plan → IsFit plan (present (opening plan))
fit_opening plan h =
    let p : Present = present (opening plan) in
    let idle : (a : ℕ) → stage p a ≡ Idle = λ a. alike (length plan.sources) a Idle in
    let tokens : p.tokens ≡ map (λ (c : Channel). c.initial) plan.channels = waiting-opening plan.channels in
    let empty : reserved plan p ≡ 0 = none_reserved plan p idle 0 (length plan.sources) in
    let full : held p ≡ sum_by (λ (c : Channel). length c.initial) plan.channels = ap (sum_by length) tokens ∙ held-initial plan.channels in
    record {
      counted = length-replicate (length plan.sources) 0;
      staged = length-replicate (length plan.sources) Idle;
      opened = length-replicate (length plan.channels) true;
      queued = ap length tokens ∙ length-map plan.channels (λ (c : Channel). c.initial);
      below = λ a busy. absurd (busy (idle a));
      ready = subst (λ (ts : List (List ℤ)). AllByRecursion (λ (row : Row). IsReady p.counts p.stages row.0 row.1) (zip plan.channels ts)) (sym tokens)
          (all-ready p idle plan.channels h.fits);
      closed = all-still p idle plan.channels (length plan.channels);
      room = omega (arith, empty, full, h.cells);
    }

pub reached_opening : (plan : Plan) → IsPlayable plan → IsReached plan (opening plan)
reached_opening plan h = record { fit = fit_opening plan h; lawful = lawful-opening plan.channels }
