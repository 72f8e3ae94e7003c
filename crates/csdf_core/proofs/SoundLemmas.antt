-- A core stays sound at each accepted move.
use Rattle.std.proofs.Common.{◌≡◌, ℕ, zero, suc, ◌+◌, ◌-◌, ◌*◌, ◌<◌, ◌≤◌, List, [], ◌∷◌, inl, inr, length, get_or, set, drop, refl, ap, subst, ◌∙◌, sym, arith}
use Rattle.std.proofs.Common.{None}
use Rattle.std.proofs.Common.{cond}
use Rattle.std.specs.Prelude.{ℤ, slice_index, sum, sum_by, count_by, not, All}
use Rattle.std.proofs.lemmas.List.{get_or-set_other, get_or-set_same, get_or_default, length-set, length-drop}
use Rattle.std.proofs.lemmas.List.Sums.{sum_by-cons, sum_by-le}
use Rattle.std.proofs.lemmas.Bool.Decides.{eqb_tells}
use Rattle.csdf_pool.specs.Pool.{Shared}
use Rattle.csdf_core.specs.declared.stage.Stage.{Stage}
use Rattle.csdf_core.specs.declared.stage.Stage.TheVariants.{Idle, Begun, Fetched, Written}
use Rattle.csdf_core.specs.Moves.{Begin, Read, Finish, Close}
use Rattle.csdf_core.specs.Plan.{Channel, Plan, takes_of}
use Rattle.csdf_core.specs.Rows.{left, need, gift}
use Rattle.csdf_core.specs.State.{Present}
use Rattle.csdf_core.specs.Step.{count, stage, is_stage, given, refusal, first_of, write_table, begun_count, reserved}
use Rattle.csdf_core.specs.Ready.{IsFit}
use Rattle.csdf_core.specs.Shows.{ArePeaks, raised, AreSharedOut}
use Rattle.csdf_core.specs.Sound.{IsSound}
use Rattle.csdf_core.proofs.Kept.{begins, reads, writes, finishes}
use Rattle.csdf_core.proofs.Totals.{given-suc}
use Rattle.csdf_core.specs.Next.{begun, fetched, written, finished, closed}
use Rattle.csdf_core.proofs.RoomLemmas.{reserved_begun, reserved_fetched, reserved_written, reserved_finished}
use Rattle.csdf_core.proofs.FitLemmas.{fit_begun, fit_fetched, fit_written, fit_finished, fit_closed}
use Rattle.csdf_core.proofs.Follows.{raised_are, length-raised}

-- one term of a sum over a list
sum_set : {A : Type 0} (f : A → ℕ) (xs : List A) (a : ℕ) (x d : A) → a < length xs → sum_by f (set xs a x) + f (get_or xs a d) ≡ sum_by f xs + f x
sum_set f [] a x d lt = absurd (omega arith)
sum_set f (y ∷ xs) zero x d lt = omega (arith, sum_by-cons f x xs, sum_by-cons f y xs)
sum_set f (y ∷ xs) (suc a) x d lt =
    let rest = sum_set f xs a x d (omega arith) in
    omega (arith, sum_by-cons f y (set xs a x), sum_by-cons f y xs, rest)

-- whether an actor is at work, as a number
abbrev at_work : Stage → ℕ
at_work s = cond (not (is_stage s Idle)) 1 0

-- the firings that were begun, where the stage of one actor changes
busy_set : (p : Present) (a : ℕ) (x y : Stage) → a < length p.stages → stage p a ≡ y
    → count_by (λ s. not (is_stage s Idle)) (set p.stages a x) + at_work y ≡ count_by (λ s. not (is_stage s Idle)) p.stages + at_work x
busy_set p a x y lt at = ap (λ s. count_by (λ t. not (is_stage t Idle)) (set p.stages a x) + at_work s) (sym at) ∙ sum_set at_work p.stages a x Idle lt

high_left : (a k : ℕ) (cs : List Channel) (peaks : List ℕ) (ts : List (List ℤ)) → length ts ≡ length cs → ArePeaks peaks ts → ArePeaks peaks (left a k cs ts)
high_left a k [] peaks [] len h = h
high_left a k [] peaks (t ∷ ts) len h = absurd (omega arith)
high_left a k (c ∷ cs) peaks [] len h = absurd (omega arith)
high_left a k (c ∷ cs) [] (t ∷ ts) len h = tt
high_left a k (c ∷ cs) (p ∷ peaks) (t ∷ ts) len h = (
  (let e = length-drop (takes_of a k c) t in let g = h.0 in let r : length (drop (takes_of a k c) t) ≤ p = omega arith in r),
  high_left a k cs peaks ts (omega arith) h.1,
)

module _ (plan : Plan) (p : Present) (peaks sums : List ℕ) (started kept : ℕ) (pool : Shared) where
  -- a move that leaves all counts as they are
  unfinished : (p' : Present) (peaks' : List ℕ) (started' kept' : ℕ) (pool' : Shared) → IsSound plan p peaks sums started kept pool → p'.counts ≡ p.counts
      → IsFit plan p' → length peaks' ≡ length plan.channels → ArePeaks peaks' p'.tokens → length pool'.chains ≡ length plan.channels → AreSharedOut plan pool'
      → started' ≡ begun_count p' → kept' ≡ reserved plan p' → IsSound plan p' peaks' sums started' kept' pool'
  unfinished p' peaks' started' kept' pool' s same fit peaked high chained cells starts keeps = record {
    fit = fit;
    playable = s.playable;
    peaked = peaked;
    high = high;
    chained = chained;
    cells = cells;
    within = subst (λ (counts : List ℕ). (b : ℕ) → get_or counts b 0 ≤ slice_index plan.limits b) (sym same) s.within;
    tallied = s.tallied;
    summed = subst (λ (counts : List ℕ). (b : ℕ) → b < length plan.sources → slice_index sums b ≡ given plan b (get_or counts b 0)) (sym same) s.summed;
    small = subst (λ (counts : List ℕ). (b : ℕ) → b < length plan.sources → slice_index sums b ≤ 8192 * get_or counts b 0) (sym same) s.small;
    starts = starts;
    keeps = keeps;
  }

  pub sound_begun : (a started' kept' : ℕ) → IsSound plan p peaks sums started kept pool → refusal plan p (Begin a) ≡ None → started' ≡ started + 1
      → kept' ≡ kept + (gift a (count p a) plan.channels - need a (count p a) plan.channels) → IsSound plan (begun p a) peaks sums started' kept' pool
  sound_begun a started' kept' s none one more =
      let b = begins plan p a none in
      let lt : a < length p.stages = let there = b.there in let staged = s.fit.staged in omega arith in
      let busy = busy_set p a Begun Idle lt b.idle in
      let room = reserved_begun plan p a b.there lt b.idle in
      unfinished (begun p a) peaks started' kept' pool s refl (fit_begun plan p a s.fit none) s.peaked s.high s.chained s.cells
      (omega (arith, one, busy, s.starts)) (omega (arith, more, room, s.keeps))

  pub sound_fetched : (a kept' : ℕ) (pool' : Shared) → IsSound plan p peaks sums started kept pool → refusal plan p (Read a) ≡ None
      → kept' + (gift a (count p a) plan.channels - need a (count p a) plan.channels) ≡ kept + gift a (count p a) plan.channels
      → length pool'.chains ≡ length pool.chains → AreSharedOut plan pool' → IsSound plan (fetched plan p a) peaks sums started kept' pool'
  sound_fetched a kept' pool' s none more chains cells =
      let w = reads plan p a none in
      let lt : a < length p.stages = let there = w.there in let staged = s.fit.staged in omega arith in
      let busy = busy_set p a Fetched Begun lt w.at in
      let room = reserved_fetched plan p a w.there lt w.at in
      unfinished (fetched plan p a) peaks started kept' pool' s refl (fit_fetched plan p a s.fit none) s.peaked
      (high_left a (count p a) plan.channels peaks p.tokens s.fit.queued s.high) (chains ∙ s.chained) cells (omega (arith, busy, s.starts))
      (omega (arith, more, room, s.keeps))

  pub sound_written : (a kept' : ℕ) (v : List ℤ) (peaks' : List ℕ) (pool' : Shared) → IsSound plan p peaks sums started kept pool
      → first_of (write_table plan p a v) ≡ None
      → kept' + gift a (count p a) plan.channels ≡ kept → peaks' ≡ raised peaks (written plan p a v).tokens
      → length pool'.chains ≡ length pool.chains → AreSharedOut plan pool' → IsSound plan (written plan p a v) peaks' sums started kept' pool'
  sound_written a kept' v peaks' pool' s none more raise chains cells =
      let w = (writes plan p a v none).0 in
      let lt : a < length p.stages = let there = w.there in let staged = s.fit.staged in omega arith in
      let busy = busy_set p a Written Fetched lt w.at in
      let room = reserved_written plan p a v w.there lt w.at in
      let fit = fit_written plan p a v s.fit none in
      unfinished (written plan p a v) peaks' started kept' pool' s refl fit
      (ap length raise ∙ length-raised peaks (written plan p a v).tokens (s.peaked ∙ sym fit.queued) ∙ fit.queued)
      (subst (λ ps. ArePeaks ps (written plan p a v).tokens) (sym raise) (raised_are peaks (written plan p a v).tokens)) (chains ∙ s.chained) cells
      (omega (arith, busy, s.starts)) (omega (arith, more, room, s.keeps))

  pub sound_finished : (a total : ℕ) → IsSound plan p peaks sums started kept pool → refusal plan p (Finish a) ≡ None
      → total ≡ slice_index sums a + gift a (count p a) plan.channels → gift a (count p a) plan.channels ≤ 8192
      → IsSound plan (finished p a) peaks (set sums a total) started kept pool
  sound_finished a total s none is few =
      let w = finishes plan p a none in
      let lt : a < length p.stages = let there = w.there in let staged = s.fit.staged in omega arith in
      let lt' : a < length p.counts = let there = w.there in let counted = s.fit.counted in omega arith in
      let lt'' : a < length sums = let there = w.there in let tallied = s.tallied in omega arith in
      let busy = busy_set p a Idle Written lt w.at in
      let more = sum_set (λ n. n) p.counts a (suc (count p a)) 0 lt' in
      let room = reserved_finished plan p a w.there lt w.at in
      let below : count p a < slice_index plan.limits a = s.fit.below a (λ idle. let bad = sym w.at ∙ idle in absurd (cc)) in
      record {
        fit = fit_finished plan p a s.fit none;
        playable = s.playable;
        peaked = s.peaked;
        high = s.high;
        chained = s.chained;
        cells = s.cells;
        within = λ b. elim (eqb_tells b a) [
          | inl e ↦ subst (λ c. get_or (set p.counts a (suc (count p a))) c 0 ≤ slice_index plan.limits c) (sym e.1)
              (let x = get_or-set_same p.counts a (suc (count p a)) 0 lt' in omega arith)
          | inr e ↦ (let x = get_or-set_other p.counts a b (suc (count p a)) 0 e.1 in let y = s.within b in omega arith)
        ];
        tallied = length-set sums a total ∙ s.tallied;
        summed = λ b lb. elim (eqb_tells b a) [
          | inl e ↦ subst (λ (c : ℕ). get_or (set sums a total) c 0 ≡ given plan c (get_or (set p.counts a (suc (count p a))) c 0)) (sym e.1)
              (get_or-set_same sums a total 0 lt'' ∙ is ∙ ap (λ x. x + gift a (count p a) plan.channels) (s.summed a w.there)
              ∙ sym (given-suc plan a (count p a)) ∙ ap (given plan a) (sym (get_or-set_same p.counts a (suc (count p a)) 0 lt')))
          | inr e ↦ get_or-set_other sums a b total 0 e.1 ∙ s.summed b lb ∙ ap (given plan b) (sym (get_or-set_other p.counts a b (suc (count p a)) 0 e.1))
        ];
        small = λ b lb. elim (eqb_tells b a) [
          | inl e ↦ subst (λ (c : ℕ). get_or (set sums a total) c 0 ≤ 8192 * get_or (set p.counts a (suc (count p a))) c 0) (sym e.1)
              (let old = s.small a w.there in let x = get_or-set_same sums a total 0 lt'' in let y = get_or-set_same p.counts a (suc (count p a)) 0 lt' in
              omega arith)
          | inr e ↦ let old = s.small b lb in let x = get_or-set_other sums a b total 0 e.1 in let y = get_or-set_other p.counts a b (suc (count p a)) 0 e.1 in
              omega arith
        ];
        starts = omega (arith, busy, more, s.starts);
        keeps = s.keeps ∙ sym room;
      }

  pub sound_closed : (c : ℕ) → IsSound plan p peaks sums started kept pool → refusal plan p (Close c) ≡ None
      → IsSound plan (closed p c) peaks sums started kept pool
  sound_closed c s none = unfinished (closed p c) peaks started kept pool s refl (fit_closed plan p c s.fit none) s.peaked s.high s.chained s.cells s.starts
      s.keeps

  -- few firings have begun
  pub few_started : IsSound plan p peaks sums started kept pool → started ≤ 2000000000
  few_started s =
      let small : All (λ n. n ≤ 16384000) p.counts = λ k d lt. (
      let here : get_or p.counts k d ≡ get_or p.counts k 0 = get_or_default p.counts k d 0 lt in
      let le = s.within k in
      let few = limit_at k (omega (arith, s.fit.counted, s.playable.limited)) s in
      omega arith
      ) in
      let counts : sum p.counts ≤ length p.counts * 16384000 = sum_by-le (λ n. n) 16384000 p.counts small in
      let busy : count_by (λ t. not (is_stage t Idle)) p.stages ≤ length p.stages * 1 =
      sum_by-le at_work 1 p.stages (λ k d lt. at_most_one (get_or p.stages k d)) in
      omega (arith, counts, busy, s.starts, s.fit.counted, s.fit.staged, s.playable.few_actors)
    where
      limit_at : (k : ℕ) → k < length plan.limits → IsSound plan p peaks sums started kept pool → slice_index plan.limits k ≤ 16384000
      limit_at k lt h = h.playable.few_firings k 0 lt

      at_most_one : (x : Stage) → at_work x ≤ 1
      at_most_one Idle = omega arith
      at_most_one Begun = omega arith
      at_most_one Fetched = omega arith
      at_most_one Written = omega arith
