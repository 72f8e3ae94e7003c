-- An honest journal begins no more firings than the greatest counts that fit.
use Rattle.std.proofs.Common.{◌≡◌, ℕ, zero, suc, ◌+◌, ◌*◌, ◌<◌, ◌≤◌, ◌==◌, ◌&&◌, nat_lt, cond, inl, inr, List, [], ◌∷◌, length, map, get_or, set}
use Rattle.std.proofs.Common.{replicate, refl, ap, sym, subst, ◌∙◌, arith, Bool, true, false, not, Option, Some, None}
use Rattle.std.specs.Prelude.{ℤ, IfSome, count_by, slice_get, sum, sum_by}
use Rattle.std.specs.List.{zip, AllByRecursion}
use Rattle.std.proofs.lemmas.Bool.{ltb-false, leb-false}
use Rattle.std.proofs.lemmas.Bool.Decides.{eqb_tells}
use Rattle.std.proofs.lemmas.List.{get_or-map, length-map}
use Rattle.std.proofs.lemmas.List.Sums.{sum_by-cons, sum_by-set}
use Rattle.std.proofs.lemmas.Option.{slice_get_within}
use Rattle.csdf_model.specs.Graph as graph
use Rattle.csdf_model.specs.Rates.{total}
use Rattle.csdf_analysis.specs.Acceptance.{Accepted, IsAccepted}
use Rattle.csdf_analysis.specs.Most.{AreFitting, AreMost, FitsActor, FitsChannel, given_by, given_to}
use Rattle.csdf_analysis.specs.Period.{fired}
use Rattle.csdf_analysis.proofs.CountLemmas.{fired_length, fired_more, fired_other, fired_same, total_mono}
use Rattle.csdf_core.specs.declared.stage.Stage.{Stage}
use Rattle.csdf_core.specs.declared.stage.Stage.TheVariants.{Idle, Begun, Fetched, Written}
use Rattle.csdf_core.specs.Going.{begun_at}
use Rattle.csdf_core.specs.Moves.{Move}
use Rattle.csdf_core.specs.Moves.{Begin, Read, Write, Finish, Close}
use Rattle.csdf_core.specs.Plan.{Channel, Plan}
use Rattle.csdf_core.specs.Planned.{with_capacity, is_source_kernel}
use Rattle.csdf_core.specs.State.{State, present, opening}
use Rattle.csdf_core.specs.Step.{begun_count, is_reached, is_stage, given, refusal, accepted, after, state_after}
use Rattle.csdf_core.proofs.Able.{IsAble, IsAbleAt, later}
use Rattle.csdf_core.proofs.Booked.{IsBooked}
use Rattle.csdf_core.proofs.Kept.{begins, reads, writes, finishes}
use Rattle.csdf_floor.specs.Journal.{Program, program_for, no_reads, reads_after, state_of, IsHonestFrom}
use Rattle.csdf_floor.specs.Most.{BeginsAtMost, StaysWithinMost, no_more_than}
use Rattle.csdf_floor.specs.Work.{program}
use Rattle.csdf_floor.proofs.Bounds.{after_is, faithful_after, faithful_end}
use Rattle.csdf_floor.proofs.Faithful.{IsFaithful, faithful_opening}
use Rattle.csdf_floor.proofs.Standings.{IsTop, at, stands_end}

-- ---- the plan of an accepted graph

-- what an actor gives, by the plan and by the graph
given_is : (cs : List graph.Channel) (bounds : List ℕ) (a n : ℕ) → length bounds ≡ length cs
    → sum_by (λ (c : Channel). cond (c.from == a) (total c.produce n) 0) (map with_capacity (zip cs bounds)) ≡ given_by cs a n
given_is [] bounds a n long = refl
given_is (c ∷ cs) [] a n long = absurd (omega arith)
given_is (c ∷ cs) (b ∷ bounds) a n long =
    let rest = given_is cs bounds a n (omega arith) in
    omega (
      arith,
      sum_by-cons (λ (d : Channel). cond (d.from == a) (total d.produce n) 0) (with_capacity (c, b)) (map with_capacity (zip cs bounds)),
      sum_by-cons (given_to a n) c cs,
    )

-- what holds of each channel of the plan, of a channel of the graph
of_channel : (P : Channel → Type 0) (cs : List graph.Channel) (bounds : List ℕ) (i : ℕ) (c : graph.Channel) → length bounds ≡ length cs
    → slice_get cs i ≡ Some c → AllByRecursion P (map with_capacity (zip cs bounds)) → P (with_capacity (c, get_or bounds i 0))
of_channel P [] bounds i c long is all = absurd (let lt = slice_get_within [] i c is in omega arith)
of_channel P (d ∷ cs) [] i c long is all = absurd (omega arith)
of_channel P (d ∷ cs) (b ∷ bounds) zero c long is all = let same : d ≡ c = cc in subst (λ e. P (with_capacity (e, b))) same all.0
of_channel P (d ∷ cs) (b ∷ bounds) (suc i) c long is all = of_channel P cs bounds i c (omega arith) is all.1

-- ---- one firing more

module _ (a : Accepted) (feeds : List (List ℤ)) (periods : ℕ) (firings : Option ℕ) (ok : IsAccepted a) (n : List ℕ) (x : ℕ)
    (fit : AreFitting a periods (map length feeds) n)
    (able : IsAble (program_for a feeds periods firings).plan (at n) (at n) x (at n x)) where
  abbrev plan : Plan
  plan = (program_for a feeds periods firings).plan

  abbrev k : ℕ
  k = at n x

  there : x < length a.graph.actors
  there = let e = able.exists in let len = length-map a.graph.actors (λ (actor : graph.Actor). is_source_kernel actor.kernel) in omega arith

  here : x < length n
  here = let e = there in let each = fit.each_actor in omega arith

  all_given : given plan x (suc k) ≡ given_by a.graph.channels x (suc k)
  unfolding given
  all_given = given_is a.graph.channels a.capacities x (suc k) ok.least.completes.each_channel

  actor_fits : FitsActor a periods (map length feeds) x (suc k)
  actor_fits = record {
    within =
        (let long = ok.repetition.firings.each_actor in
        let e = there in
        let limit : get_or plan.limits x 0 ≡ periods * get_or a.q x 0 = get_or-map (λ q. periods * q) a.q x 0 0 (omega arith) in
        let below : k < get_or plan.limits x 0 = leb-false _ _ able.below in
        omega arith);
    supplied = λ source.
        (let wet : nat_lt (get_or (map length feeds) x 0) (given plan x (suc k)) ≡ false =
        ap (λ (b : Bool). b && nat_lt (get_or (map length feeds) x 0) (given plan x (suc k))) (sym source) ∙ able.wet in
        let enough = ltb-false _ _ wet in
        let same = all_given in
        omega arith);
  }

  channel_fits : (i : ℕ) (c : graph.Channel) → slice_get a.graph.channels i ≡ Some c → FitsChannel (get_or a.capacities i 0) (fired n x) c
  channel_fits i c is =
      let row = of_channel (IsAbleAt (at n) (at n) x k) a.graph.channels a.capacities i c ok.least.completes.each_channel is able.rows in
      let old = fit.channels i c is in
      let more_put : total c.produce (get_or n c.from 0) ≤ total c.produce (get_or (fired n x) c.from 0) =
      total_mono c.produce (get_or n c.from 0) (get_or (fired n x) c.from 0) (fired_more n x c.from here) in
      let more_taken : total c.consume (get_or n c.to 0) ≤ total c.consume (get_or (fired n x) c.to 0) =
      total_mono c.consume (get_or n c.to 0) (get_or (fired n x) c.to 0) (fired_more n x c.to here) in
      record {
        there = elim (eqb_tells c.to x) [
          | inl e ↦
              let fed = row.0 e.1 in
              let now : total c.consume (get_or (fired n x) c.to 0) ≡ total c.consume (suc k) = ap (total c.consume)
              (ap (λ b. get_or (fired n x) b 0) e.1 ∙ fired_same n x here) in
              omega arith
          | inr e ↦
              let now : total c.consume (get_or (fired n x) c.to 0) ≡ total c.consume (get_or n c.to 0) = ap (total c.consume) (fired_other n x c.to e.1) in
              let was = old.there in
              omega arith
        ];
        room = elim (eqb_tells c.from x) [
          | inl e ↦
              let room = row.1 e.1 in
              let now : total c.produce (get_or (fired n x) c.from 0) ≡ total c.produce (suc k) = ap (total c.produce)
              (ap (λ b. get_or (fired n x) b 0) e.1 ∙ fired_same n x here) in
              let taken : total c.consume (later (at n) x k c.to) ≡ total c.consume (get_or (fired n x) c.to 0) = ap (total c.consume) (later_is c.to) in
              omega arith
          | inr e ↦
              let now : total c.produce (get_or (fired n x) c.from 0) ≡ total c.produce (get_or n c.from 0) = ap (total c.produce) (fired_other n x c.from e.1) in
              let was = old.room in
              omega arith
        ];
      }
    where
      later_is : (b : ℕ) → later (at n) x k b ≡ get_or (fired n x) b 0
      later_is b = elim (eqb_tells b x) [
        | inl e ↦ ap (λ (t : Bool). cond t (suc k) (at n b)) e.0 ∙ sym (ap (λ c. get_or (fired n x) c 0) e.1 ∙ fired_same n x here)
        | inr e ↦ ap (λ (t : Bool). cond t (suc k) (at n b)) e.0 ∙ sym (fired_other n x b e.1)
      ]

  -- counts that fit do so with one firing more of an actor that is able to make it
  pub fits_more : AreFitting a periods (map length feeds) (fired n x)
  fits_more = record {
    each_actor = fired_length n x ∙ fit.each_actor;
    actors = λ b lt. elim (eqb_tells b x) [
      | inl e ↦ subst (λ c. FitsActor a periods (map length feeds) c (get_or (fired n x) c 0)) (sym e.1)
          (subst (FitsActor a periods (map length feeds) x) (sym (fired_same n x here)) actor_fits)
      | inr e ↦ subst (FitsActor a periods (map length feeds) b) (sym (fired_other n x b e.1)) (fit.actors b lt)
    ];
    channels = channel_fits;
  }

-- from the greatest counts that fit no actor is able to go on
top_of_most : (a : Accepted) (feeds : List (List ℤ)) (periods : ℕ) (firings : Option ℕ) (most : List ℕ) → IsAccepted a → AreMost a periods (map length feeds) most
    → IsTop (program_for a feeds periods firings).plan most
top_of_most a feeds periods firings most ok are = record {
  each = are.fitting.each_actor ∙ sym (length-map a.graph.actors (λ (actor : graph.Actor). is_source_kernel actor.kernel));
  none = λ x able.
      (let lt = here a feeds periods firings ok most x are.fitting able in
      let le = are.greatest (fired most x) (fits_more a feeds periods firings ok most x are.fitting able) x in
      let now = fired_same most x lt in
      omega arith);
}

pub stays_within_most : StaysWithinMost
stays_within_most a feeds periods firings journal most actor ok h are =
    (stands_end (program_for a feeds periods firings) journal h).under most (top_of_most a feeds periods firings most ok are) actor

-- ---- all actors together

-- 1 for an actor that is at work
at_work : Stage → ℕ
at_work s = cond (not (is_stage s Idle)) 1 0

one_of : (s : Stage) (n : ℕ) → begun_at s n ≡ n + at_work s
unfolding at_work
one_of Idle n = omega arith
one_of Begun n = omega arith
one_of Fetched n = omega arith
one_of Written n = omega arith

begun_within : (counts : List ℕ) (stages : List Stage) (most : List ℕ) → length counts ≡ length most → length stages ≡ length most
    → ((b : ℕ) → begun_at (get_or stages b Idle) (get_or counts b 0) ≤ get_or most b 0) → sum counts + sum_by at_work stages ≤ sum most
begun_within [] [] most l m within = omega arith
begun_within [] (x ∷ stages) most l m within = absurd (omega arith)
begun_within (n ∷ counts) [] most l m within = absurd (omega arith)
begun_within (n ∷ counts) (x ∷ stages) [] l m within = absurd (omega arith)
begun_within (n ∷ counts) (x ∷ stages) (y ∷ most) l m within =
    let rest = begun_within counts stages most (omega arith) (omega arith) (λ b. within (suc b)) in
    let first : begun_at x n ≤ y = within 0 in
    omega (arith, one_of x n, sum_by-cons (λ k. k) n counts, sum_by-cons at_work x stages, sum_by-cons (λ k. k) y most)

busy_is : (stages : List Stage) → count_by (λ s. not (is_stage s Idle)) stages ≡ sum_by at_work stages
unfolding at_work
busy_is stages = refl

-- one actor takes a new stage
work_set : (stages : List Stage) (a : ℕ) (x y : Stage) → a < length stages → get_or stages a Idle ≡ y
    → sum_by at_work (set stages a x) + at_work y ≡ sum_by at_work stages + at_work x
work_set stages a x y lt is = ap (λ s. sum_by at_work (set stages a x) + at_work s) (sym is) ∙ sum_by-set at_work stages a x Idle lt

-- no more has begun than the limit on all firings allows
abbrev IsWithinLimit : Plan → State → Type 0
IsWithinLimit plan s = IfSome plan.firings (λ most. begun_count (present s) ≤ most)

one_more : (limit : Option ℕ) (n m : ℕ) → m ≡ n + 1 → is_reached limit n ≡ false → IfSome limit (λ most. m ≤ most)
one_more None n m e not_yet = tt
one_more (Some most) n m e not_yet = let below : n < most = leb-false _ _ not_yet in omega arith

no_more : (limit : Option ℕ) (n m : ℕ) → m ≡ n → IfSome limit (λ most. n ≤ most) → IfSome limit (λ most. m ≤ most)
no_more None n m e within = tt
no_more (Some most) n m e within = omega arith

limited_accepted : (plan : Plan) (s : State) (m : Move) → IsBooked plan s → refusal plan (present s) m ≡ None → IsWithinLimit plan s
    → IsWithinLimit plan (accepted plan s m)
unfolding at_work
limited_accepted plan s (Begin a) booked none within =
    let w = begins plan (present s) a none in
    let lt : a < length s.stages = (let there = w.there in let staged = booked.staged in omega arith) in
    let more = work_set s.stages a Begun Idle lt w.idle in
    one_more plan.firings (begun_count (present s)) (begun_count (present (accepted plan s (Begin a))))
    (omega (arith, more, busy_is s.stages, busy_is (set s.stages a Begun))) w.not_stopped
limited_accepted plan s (Read a) booked none within =
    let w = reads plan (present s) a none in
    let lt : a < length s.stages = (let there = w.there in let staged = booked.staged in omega arith) in
    let same = work_set s.stages a Fetched Begun lt w.at in
    no_more plan.firings (begun_count (present s)) (begun_count (present (accepted plan s (Read a))))
    (omega (arith, same, busy_is s.stages, busy_is (set s.stages a Fetched))) within
limited_accepted plan s (Write a v) booked none within =
    let w = writes plan (present s) a v none in
    let lt : a < length s.stages = (let there = w.0.there in let staged = booked.staged in omega arith) in
    let same = work_set s.stages a Written Fetched lt w.0.at in
    no_more plan.firings (begun_count (present s)) (begun_count (present (accepted plan s (Write a v))))
    (omega (arith, same, busy_is s.stages, busy_is (set s.stages a Written))) within
limited_accepted plan s (Finish a) booked none within =
    let w = finishes plan (present s) a none in
    let lt : a < length s.stages = (let there = w.there in let staged = booked.staged in omega arith) in
    let ltc : a < length s.counts = (let there = w.there in let counted = booked.counted in omega arith) in
    let less = work_set s.stages a Idle Written lt w.at in
    let more = sum_by-set (λ k. k) s.counts a (suc (get_or s.counts a 0)) 0 ltc in
    no_more plan.firings (begun_count (present s)) (begun_count (present (accepted plan s (Finish a))))
    (omega (arith, less, more, busy_is s.stages, busy_is (set s.stages a Idle))) within
limited_accepted plan s (Close c) booked none within = within

limited_from : (w : Program) (s : State) (kept : List (List ℤ)) (ms : List Move) → IsFaithful w s kept → IsHonestFrom w s kept ms
    → IsWithinLimit w.plan s → IsWithinLimit w.plan (state_after w.plan s ms)
limited_from w s kept [] f h within = within
limited_from w s kept (m ∷ ms) f h within =
    let e = after_is w.plan s m h.0.accepted in
    limited_from w (after w.plan s m) (reads_after w.plan s kept m) ms (faithful_after w s kept m f h.0) h.1
    (subst (IsWithinLimit w.plan) (sym e) (limited_accepted w.plan s m f.booked h.0.accepted within))

none_begun : (n : ℕ) → sum_by at_work (replicate n Idle) ≡ 0
unfolding at_work
none_begun zero = refl
none_begun (suc n) = omega (arith, sum_by-cons at_work Idle (replicate n Idle), none_begun n)

none_done : (n : ℕ) → sum (replicate n 0) ≡ 0
none_done zero = refl
none_done (suc n) = omega (arith, sum_by-cons (λ k. k) 0 (replicate n 0), none_done n)

limited_opening : (plan : Plan) → IsWithinLimit plan (opening plan)
limited_opening plan = by plan.firings
  where
    nothing : begun_count (present (opening plan)) ≡ 0
    nothing = omega (arith, none_begun (length plan.sources), none_done (length plan.sources), busy_is (replicate (length plan.sources) Idle))

    by : (limit : Option ℕ) → IfSome limit (λ most. begun_count (present (opening plan)) ≤ most)
    by None = tt
    by (Some most) = omega (arith, nothing)

lesser : (limit : Option ℕ) (n m : ℕ) → n ≤ m → IfSome limit (λ most. n ≤ most) → n ≤ no_more_than limit m
lesser None n m le within = le
lesser (Some most) n m le within = by (nat_lt most m)
  where
    by : (b : Bool) → n ≤ cond b most m
    by true = within
    by false = le

pub begins_at_most : BeginsAtMost
begins_at_most w journal n ok h is =
    let s : State = state_of (program w) journal in
    let booked = (faithful_end (program w) journal h).booked in
    let sources = length-map w.accepted.graph.actors (λ (actor : graph.Actor). is_source_kernel actor.kernel) in
    let long = is.greatest.fitting.each_actor in
    let counted = booked.counted in
    let staged = booked.staged in
    let all = begun_within s.counts s.stages is.counts (omega arith) (omega arith)
    (λ b. stays_within_most w.accepted w.feeds w.periods w.firings journal is.counts b ok h is.greatest) in
    let limit = limited_from (program w) (opening (program w).plan) (no_reads (program w).plan) journal (faithful_opening (program w)) h
    (limited_opening (program w).plan) in
    let least = lesser w.firings (begun_count (present s)) (sum is.counts) (omega (arith, all, busy_is s.stages)) limit in
    subst (λ m. begun_count (present s) ≤ m) (sym is.least) least
