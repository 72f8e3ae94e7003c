-- Capacities that complete a period, against others.
use Rattle.std.proofs.Common.{◌≡◌, ℕ, suc, ◌-◌, ◌<◌, ◌≤◌, ◌⊎◌, inl, inr, min, List, [], ◌∷◌, length, get_or, sum, ap, subst, ◌∙◌, arith}
use Rattle.std.specs.Prelude.{slice_get, Some}
use Rattle.std.proofs.lemmas.List.{length-replicate}
use Rattle.csdf_model.specs.Graph.{Channel}
use Rattle.csdf_model.specs.Rates.{produced}
use Rattle.csdf_analysis.specs.Repetition.{full_capacity}
use Rattle.csdf_analysis.specs.Period.{held_after, fired, IsSchedule, counts_after, no_firings, CompletesPeriod}
use Rattle.csdf_analysis.specs.Laws.{GreaterCapacitiesComplete, FullCapacitySuffices, EveryScheduleGoesOn}
use Rattle.csdf_analysis.proofs.CountLemmas.{less_or_not, total_mono, fired_same, sum_within}
use Rattle.csdf_analysis.proofs.PeriodLemmas.{after_more, after_length, fed_after, fed_first, rest_of}

-- each capacity is at least that of another list, or the full one
pub record AreEnough (channels : List Channel) (q bounds more : List ℕ) : Type 0 where
  pub enough : (i : ℕ) (c : Channel) → slice_get channels i ≡ Some c → (get_or bounds i 0 ≤ get_or more i 0) ⊎ (full_capacity q c ≤ get_or more i 0)

-- a firing of the period leaves no more than the full capacity
after_full : (q n : List ℕ) (c : Channel) (a : ℕ) → c.from ≡ a → get_or n a 0 < get_or q a 0 → held_after a n c ≤ full_capacity q c
after_full q n c a from left =
    let put : produced c (get_or n c.from 0) ≡ produced c (get_or n a 0) = ap (λ k. produced c (get_or n k 0)) from in
    let all : produced c (get_or q c.from 0) ≡ produced c (get_or q a 0) = ap (λ k. produced c (get_or q k 0)) from in
    let more : produced c (suc (get_or n a 0)) ≤ produced c (get_or q a 0) = total_mono c.produce (suc (get_or n a 0)) (get_or q a 0) (omega arith) in
    omega arith

schedule_within : (channels : List Channel) (q bounds more n actors : List ℕ) → AreEnough channels q bounds more → IsSchedule channels bounds n actors
    → counts_after n actors ≡ q → IsSchedule channels more n actors
schedule_within channels q bounds more n [] enough able leads = tt
schedule_within channels q bounds more n (a ∷ actors) enough able leads =
    let can = able.0 in
    let one = fired_same n a can.exists in
    let rest : get_or (fired n a) a 0 ≤ get_or q a 0 =
    subst (λ ks. get_or (fired n a) a 0 ≤ get_or ks a 0) leads (after_more channels bounds (fired n a) actors a able.1) in
    let left : get_or n a 0 < get_or q a 0 = omega arith in (
      record {
        exists = can.exists;
        tokens = can.tokens;
        room = λ i c at from.
            (let room = can.room i c at from in
            let full = after_full q n c a from left in
            elim (enough.enough i c at) [ inl le ↦ omega arith | inr le ↦ omega arith ]);
      },
      schedule_within channels q bounds more (fired n a) actors enough able.1 leads,
    )

-- such capacities complete what the others do
pub enough_complete : (channels : List Channel) (q bounds more : List ℕ) → CompletesPeriod channels q bounds → length more ≡ length channels
    → AreEnough channels q bounds more → CompletesPeriod channels q more
enough_complete channels q bounds more completes len enough = record {
  each_channel = len;
  initial = λ i c at. (let fits = completes.initial i c at in elim (enough.enough i c at) [ inl le ↦ omega arith | inr le ↦ omega arith ]);
  reached = record {
    schedule = completes.reached.schedule;
    able = schedule_within channels q bounds more (no_firings q) completes.reached.schedule enough completes.reached.able completes.reached.leads;
    leads = completes.reached.leads;
  };
}

-- ---- the laws

pub greater_complete : GreaterCapacitiesComplete
greater_complete channels q bounds greater completes len within =
    enough_complete channels q bounds greater completes len (record { enough = λ i c at. inl (within i) })

min_or : (a b m : ℕ) → m ≡ min a b → (a ≤ m) ⊎ (b ≤ m)
min_or a b m e = elim (less_or_not a b) [ inl lt ↦ inl (omega arith) | inr le ↦ inr (omega arith) ]

pub full_suffices : FullCapacitySuffices
full_suffices channels q bounds capped completes are =
    enough_complete channels q bounds capped completes are.each_channel
    (record { enough = λ i c at. min_or (get_or bounds i 0) (full_capacity q c) (get_or capped i 0) (are.least i c at) })

pub every_goes_on : EveryScheduleGoesOn
every_goes_on channels q bounds schedule completes able within =
    let n = counts_after (no_firings q) schedule in
    let len : length n ≡ length q = after_length channels bounds (no_firings q) schedule ∙ length-replicate (length q) 0 in
    let fed = fed_after channels bounds (no_firings q) schedule (fed_first channels (length q)) able in
    let below : sum n ≤ sum q = sum_within n q len within in
    let rest = rest_of (sum q - sum n) channels q bounds n completes len fed within (omega arith) in
    record { rest = rest.0; able = rest.1; leads = rest.2 }
