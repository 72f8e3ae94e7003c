-- An accepted graph makes all firings of its periods, where the sources' files are long enough.
use Rattle.std.proofs.Common.{◌≡◌, ℕ, zero, suc, ◌+◌, ◌*◌, ◌<◌, ◌≤◌, inl, inr, List, [], ◌∷◌, length, get_or, map, refl, ap, sym, subst, ◌∙◌, arith, Option}
use Rattle.std.proofs.Common.{None, eq-or-lt_of_le, le-leb, mul-le-mul, suc-mul}
use Rattle.std.specs.Prelude.{ℤ, slice_index}
use Rattle.std.proofs.lemmas.Bool.{lt-leb}
use Rattle.std.proofs.lemmas.List.{length-map, length-replicate}
use Rattle.std.proofs.lemmas.Bool.Decides.{eqb_tells}
use Rattle.csdf_model.specs.Graph as graph
use Rattle.csdf_analysis.specs.Acceptance.{Accepted, IsAccepted}
use Rattle.csdf_analysis.specs.Period.{CanFire, IsSchedule, counts_after, fired as fired_counts, no_firings}
use Rattle.csdf_analysis.proofs.CountLemmas.{fired_length, fired_same, fired_other, none_at}
use Rattle.csdf_analysis.proofs.PeriodLemmas.{IsFed, able_of, fed_first, fed_fired, after_more}
use Rattle.csdf_core.specs.Plan.{Plan}
use Rattle.csdf_core.specs.Planned.{is_source_kernel}
use Rattle.csdf_core.specs.State.{State, present, opening}
use Rattle.csdf_core.specs.Step.{count, given, is_source}
use Rattle.csdf_floor.specs.Journal.{Program, program_for}
use Rattle.csdf_floor.specs.Sequential.{IsStuck, sequential_state}
use Rattle.csdf_floor.specs.Laws.{AreAmple, CompletesAll}
use Rattle.csdf_core.proofs.Accepting.{AllIdle, idle_count}
use Rattle.csdf_core.proofs.Periodic.{each_periodic, at_period, able_row, able_rows, given_mono, wet_at}
use Rattle.csdf_core.proofs.FiringCounts.{put_at, got_at, put, got}
use Rattle.csdf_core.proofs.Able.{IsAble, IsAbleAt, able_later}
use Rattle.csdf_core.proofs.Booked.{IsBooked, can_of}
use Rattle.csdf_floor.proofs.Sequential.{rest_opening, rest_all, stuck_all}

-- the limit on all firings doesn't matter
same_given : (a : Accepted) (feeds : List (List ℤ)) (periods : ℕ) (firings : Option ℕ) (x n : ℕ)
    → given (program_for a feeds periods firings).plan x n ≡ given (program_for a feeds periods None).plan x n
unfolding given
same_given a feeds periods firings x n = refl

pub get_mul : (periods : ℕ) (q : List ℕ) (i : ℕ) → get_or (map (λ k. periods * k) q) i 0 ≡ periods * get_or q i 0
get_mul periods [] i = (let z : 0 ≡ periods * 0 = omega arith in z)
get_mul periods (x ∷ q) zero = refl
get_mul periods (x ∷ q) (suc i) = get_mul periods q i

get_length : (feeds : List (List ℤ)) (i : ℕ) → get_or (map length feeds) i 0 ≡ length (get_or feeds i [])
get_length [] i = refl
get_length (x ∷ feeds) zero = refl
get_length (x ∷ feeds) (suc i) = get_length feeds i

-- ---- the walk

module _ (a : Accepted) (feeds : List (List ℤ)) (periods : ℕ) (firings : Option ℕ) (ok : IsAccepted a) (ample : AreAmple a feeds periods) (t : State)
    (booked : IsBooked (program_for a feeds periods firings).plan t) (idle : AllIdle t)
    (stuck : IsStuck (program_for a feeds periods firings).plan (present t)) where
  abbrev plan : Plan
  plan = (program_for a feeds periods firings).plan

  -- a firing of the schedule is left in t
  step : (j x : ℕ) (n : List ℕ) → j < periods → length n ≡ length a.graph.actors → IsFed a.graph.channels n → CanFire a.graph.channels a.capacities n x
      → suc (get_or n x 0) ≤ get_or a.q x 0
      → ((b : ℕ) → at_period a.q j n b ≤ count (present t) b) → at_period a.q j n x < count (present t) x
  step j x n few len fed can left below =
      let k : ℕ = at_period a.q j n x in
      let whole : suc j * get_or a.q x 0 ≤ periods * get_or a.q x 0 = mul-le-mul few (let same : get_or a.q x 0 ≤ get_or a.q x 0 = omega arith in same) in
      let next : suc j * get_or a.q x 0 ≡ j * get_or a.q x 0 + get_or a.q x 0 = omega (arith, suc-mul j (get_or a.q x 0)) in
      let limit : get_or plan.limits x 0 ≡ periods * get_or a.q x 0 = get_mul periods a.q x in
      let less : suc k ≤ periods * get_or a.q x 0 = omega arith in
      let able : IsAble plan (at_period a.q j n) (at_period a.q j n) x k = record {
        exists = subst (λ m. x < m) (len ∙ sym (length-map a.graph.actors (λ (actor : graph.Actor). is_source_kernel actor.kernel))) can.exists;
        below = lt-leb _ _ (let below2 : k < get_or plan.limits x 0 = omega arith in below2);
        wet = wet_at (is_source plan x) (slice_index plan.supplies x) (given plan x (suc k)) (λ source.
            (let enough = ample x source in
            let grows : given plan x (suc k) ≤ given plan x (periods * get_or a.q x 0) = given_mono plan x (suc k) (periods * get_or a.q x 0) less in
            let file : get_or plan.supplies x 0 ≡ length (get_or feeds x []) = get_length feeds x in
            let same : given plan x (periods * get_or a.q x 0) ≡ given (program_for a feeds periods None).plan x (periods * get_or a.q x 0) =
            same_given a feeds periods firings x (periods * get_or a.q x 0) in
            omega arith));
        rows = able_rows (IsAbleAt (at_period a.q j n) (at_period a.q j n) x k) a.graph.channels a.capacities ok.least.completes.each_channel
            (λ i c is. able_row a.graph.channels a.q a.capacities n j x i c (get_or a.capacities i 0) can.exists (each_periodic a ok i c is) refl is fed can);
      } in
      elim (eq-or-lt_of_le (below x)) [
        | inl same ↦
            let puts : (b : ℕ) → at_period a.q j n b ≤ put t.counts t.stages b =
            λ b. (let i = idle_count put_at t idle (λ m. refl) b in let h = below b in omega arith) in
            let gots : (b : ℕ) → at_period a.q j n b ≤ got t.counts t.stages b =
            λ b. (let i = idle_count got_at t idle (λ m. refl) b in let h = below b in omega arith) in
            let still = able_later plan (at_period a.q j n) (at_period a.q j n) (put t.counts t.stages) (got t.counts t.stages) x k puts gots able in
            absurd (stuck x (can_of plan t x booked (idle x) (subst (λ m. IsAble plan (put t.counts t.stages) (got t.counts t.stages) x m) same still)))
        | inr lower ↦ lower
      ]

  walk : (j : ℕ) (n actors : List ℕ) → j < periods → length n ≡ length a.graph.actors → IsFed a.graph.channels n
      → IsSchedule a.graph.channels a.capacities n actors → counts_after n actors ≡ a.q
      → ((b : ℕ) → at_period a.q j n b ≤ count (present t) b) → (b : ℕ) → suc j * get_or a.q b 0 ≤ count (present t) b
  walk j n [] few len fed able leads below b =
      let end : get_or n b 0 ≡ get_or a.q b 0 = ap (λ m. get_or m b 0) leads in
      let h = below b in
      omega (arith, suc-mul j (get_or a.q b 0))
  walk j n (x ∷ actors) few len fed able leads below b =
      let can = able.0 in
      let more = after_more a.graph.channels a.capacities (fired_counts n x) actors x able.1 in
      let one = fired_same n x can.exists in
      let end : get_or (counts_after (fired_counts n x) actors) x 0 ≡ get_or a.q x 0 = ap (λ m. get_or m x 0) leads in
      let less = step j x n few len fed can (omega arith) below in
      walk j (fired_counts n x) actors few (fired_length n x
      ∙ len) (fed_fired a.graph.channels a.capacities n x fed (able_of a.graph.channels a.capacities n x fed can)) able.1 leads
      (λ d. elim (eqb_tells d x) [
        | inl e ↦ subst (λ (y : ℕ). at_period a.q j (fired_counts n x) y ≤ get_or t.counts y 0) (sym e.1) (let h = less in omega arith)
        | inr e ↦ let same = fired_other n x d e.1 in let h = below d in omega arith
      ]) b

  from_none : (q : List ℕ) (j b : ℕ) → at_period q j (no_firings q) b ≡ j * get_or q b 0
  from_none q j b = let none = none_at (length q) b in omega arith

  pub all_periods : (j : ℕ) → j ≤ periods → (b : ℕ) → j * get_or a.q b 0 ≤ count (present t) b
  all_periods zero le b = (let z : 0 * get_or a.q b 0 ≡ 0 = omega arith in omega arith)
  all_periods (suc j) le b =
      let r = ok.least.completes.reached in
      walk j (no_firings a.q) r.schedule (omega arith) (length-replicate (length a.q) 0
      ∙ ok.repetition.firings.each_actor) (fed_first a.graph.channels (length a.q)) r.able r.leads
      (λ d. (let same = from_none a.q j d in let h = all_periods j (omega arith) d in omega arith)) b

pub completes_all : CompletesAll
completes_all a feeds periods firings actors ok ample p x there =
    let w : Program = program_for a feeds periods firings in
    let r = rest_all w (opening w.plan) actors (rest_opening w) p in
    let all = all_periods a feeds periods firings ok ample (sequential_state w actors) r.faithful.booked r.idle (stuck_all w (opening w.plan) actors p) periods
    (omega arith) x in
    let limit : get_or w.plan.limits x 0 ≡ periods * get_or a.q x 0 = get_mul periods a.q x in
    le-leb _ _ (let le : get_or w.plan.limits x 0 ≤ count (present (sequential_state w actors)) x = omega arith in le)
