-- Persistence: an actor that is able to fire stays so while others fire. So counts that a schedule reached go on wherever another one does.
use Rattle.std.proofs.Common.{◌≡◌, ℕ, zero, suc, ◌+◌, ◌<◌, ◌≤◌, inl, inr, cond, List, [], ◌∷◌, ◌++◌, length, replicate, get_or, sum, refl, sym, ap, subst, ◌∙◌}
use Rattle.std.proofs.Common.{arith}
use Rattle.std.specs.Prelude.{slice_get, Some}
use Rattle.std.proofs.Math.Nat.{eq-or-lt_of_le}
use Rattle.std.proofs.lemmas.Bool.{eq-eqb, ne_eqb}
use Rattle.std.proofs.lemmas.List.{length-replicate}
use Rattle.csdf_model.specs.Graph.{Channel}
use Rattle.csdf_model.specs.Rates.{produced, consumed, consumption}
use Rattle.csdf_analysis.specs.Period.{held, own_consumption, held_after, CanFire, fired, IsSchedule, counts_after, no_firings, IsReached, CompletesPeriod}
use Rattle.csdf_analysis.specs.Period.{CanGo}
use Rattle.csdf_analysis.specs.Laws.{IsWithinAll}
use Rattle.csdf_analysis.proofs.CountLemmas.{same_or_not, total_mono, fired_same, fired_other, fired_length, fired_more, fired_within, fired_both, fired_sum}
use Rattle.csdf_analysis.proofs.CountLemmas.{none_at, some_less, all_same}

-- ---- without subtraction

-- no channel has lost more tokens than it had
pub record IsFed (channels : List Channel) (n : List ℕ) : Type 0 where
  pub fed : (i : ℕ) (c : Channel) → slice_get channels i ≡ Some c → consumed c (get_or n c.to 0) ≤ length c.initial + produced c (get_or n c.from 0)

-- the actor is able to fire: no channel would then have lost more than it had, nor hold more than its capacity
pub record IsAble (channels : List Channel) (bounds n : List ℕ) (a : ℕ) : Type 0 where
  pub exists : a < length n
  pub tokens : (i : ℕ) (c : Channel) → slice_get channels i ≡ Some c → c.to ≡ a
      → consumed c (suc (get_or n a 0)) ≤ length c.initial + produced c (get_or n c.from 0)
  pub room : (i : ℕ) (c : Channel) → slice_get channels i ≡ Some c → c.from ≡ a
      → length c.initial + produced c (suc (get_or n a 0)) ≤ get_or bounds i 0 + consumed c (get_or (fired n a) c.to 0)

own_same : (a : ℕ) (n : List ℕ) (c : Channel) → c.to ≡ a → own_consumption a n c ≡ consumption c (get_or n a 0)
own_same a n c to = ap (λ b. cond b (consumption c (get_or n a 0)) 0) (eq-eqb c.to a to)

own_other : (a : ℕ) (n : List ℕ) (c : Channel) → (c.to ≡ a → ⊥) → own_consumption a n c ≡ 0
own_other a n c other = ap (λ b. cond b (consumption c (get_or n a 0)) 0) (ne_eqb c.to a other)

-- what an output holds after the firing, with and without subtraction
after_to : (channels : List Channel) (n : List ℕ) (a i : ℕ) (c : Channel) (b : ℕ) → a < length n → IsFed channels n → slice_get channels i ≡ Some c → c.from ≡ a
    → (c.to ≡ a → consumption c (get_or n a 0) ≤ held c n)
    → held_after a n c + consumed c (get_or (fired n a) c.to 0) ≡ length c.initial + produced c (suc (get_or n a 0))
after_to channels n a i c b lt fed at from enough = elim (same_or_not c.to a) [
  | inl to ↦
      let own = own_same a n c to in
      let count : consumed c (get_or (fired n a) c.to 0) ≡ consumed c (suc (get_or n a 0)) = ap (λ k. consumed c (get_or (fired n a) k 0)) to
      ∙ ap (consumed c) (fired_same n a lt) in
      let before : consumed c (get_or n c.to 0) ≡ consumed c (get_or n a 0) = ap (λ k. consumed c (get_or n k 0)) to in
      let put : produced c (get_or n c.from 0) ≡ produced c (get_or n a 0) = ap (λ k. produced c (get_or n k 0)) from in
      let some = enough to in
      let had = fed.fed i c at in
      omega arith
  | inr other ↦
      let own = own_other a n c other in
      let count : consumed c (get_or (fired n a) c.to 0) ≡ consumed c (get_or n c.to 0) = ap (consumed c) (fired_other n a c.to other) in
      let put : produced c (get_or n c.from 0) ≡ produced c (get_or n a 0) = ap (λ k. produced c (get_or n k 0)) from in
      let had = fed.fed i c at in
      omega arith
]

pub able_of : (channels : List Channel) (bounds n : List ℕ) (a : ℕ) → IsFed channels n → CanFire channels bounds n a → IsAble channels bounds n a
able_of channels bounds n a fed can = record {
  exists = can.exists;
  tokens = λ i c at to.
      (let before : consumed c (get_or n c.to 0) ≡ consumed c (get_or n a 0) = ap (λ k. consumed c (get_or n k 0)) to in
      let some = can.tokens i c at to in
      let had = fed.fed i c at in
      omega arith);
  room = λ i c at from.
      (let whole = after_to channels n a i c 0 can.exists fed at from (can.tokens i c at) in
      let room = can.room i c at from in
      omega arith);
}

pub can_of : (channels : List Channel) (bounds n : List ℕ) (a : ℕ) → IsFed channels n → IsAble channels bounds n a → CanFire channels bounds n a
can_of channels bounds n a fed able =
    let tokens : (i : ℕ) (c : Channel) → slice_get channels i ≡ Some c → c.to ≡ a → consumption c (get_or n a 0) ≤ held c n =
    λ i c at to.
    (let before : consumed c (get_or n c.to 0) ≡ consumed c (get_or n a 0) = ap (λ k. consumed c (get_or n k 0)) to in
    let some = able.tokens i c at to in
    omega arith) in
    record {
      exists = able.exists;
      tokens = tokens;
      room = λ i c at from.
          (let whole = after_to channels n a i c 0 able.exists fed at from (tokens i c at) in
          let room = able.room i c at from in
          omega arith);
    }

-- ---- what firings keep

pub fed_first : (channels : List Channel) (k : ℕ) → IsFed channels (replicate k 0)
fed_first channels k = record {
  fed = λ i c at. (let none : consumed c (get_or (replicate k 0) c.to 0) ≡ 0 = ap (consumed c) (none_at k c.to) in omega arith);
}

pub fed_fired : (channels : List Channel) (bounds n : List ℕ) (a : ℕ) → IsFed channels n → IsAble channels bounds n a → IsFed channels (fired n a)
fed_fired channels bounds n a fed able = record {
  fed = λ i c at.
      (let more : produced c (get_or n c.from 0) ≤ produced c (get_or (fired n a) c.from 0) =
      total_mono c.produce (get_or n c.from 0) (get_or (fired n a) c.from 0) (fired_more n a c.from able.exists) in
      elim (same_or_not c.to a) [
        | inl to ↦
            let count : consumed c (get_or (fired n a) c.to 0) ≡ consumed c (suc (get_or n a 0)) = ap (λ k. consumed c (get_or (fired n a) k 0)) to
            ∙ ap (consumed c) (fired_same n a able.exists) in
            let enough = able.tokens i c at to in
            omega arith
        | inr other ↦
            let count : consumed c (get_or (fired n a) c.to 0) ≡ consumed c (get_or n c.to 0) = ap (consumed c) (fired_other n a c.to other) in
            let had = fed.fed i c at in
            omega arith
      ]);
}

pub after_length : (channels : List Channel) (bounds n actors : List ℕ) → length (counts_after n actors) ≡ length n
after_length channels bounds n [] = refl
after_length channels bounds n (a ∷ actors) = after_length channels bounds (fired n a) actors ∙ fired_length n a

pub after_more : (channels : List Channel) (bounds n actors : List ℕ) (b : ℕ) → IsSchedule channels bounds n actors
    → get_or n b 0 ≤ get_or (counts_after n actors) b 0
after_more channels bounds n [] b able = omega arith
after_more channels bounds n (a ∷ actors) b able =
    let rest = after_more channels bounds (fired n a) actors b able.1 in
    let one = fired_more n a b able.0.exists in
    omega arith

pub fed_after : (channels : List Channel) (bounds n actors : List ℕ) → IsFed channels n → IsSchedule channels bounds n actors
    → IsFed channels (counts_after n actors)
fed_after channels bounds n [] fed able = fed
fed_after channels bounds n (a ∷ actors) fed able =
    fed_after channels bounds (fired n a) actors (fed_fired channels bounds n a fed (able_of channels bounds n a fed able.0)) able.1

-- a firing more at the end
pub schedule_more : (channels : List Channel) (bounds n actors : List ℕ) (a : ℕ) → IsSchedule channels bounds n actors
    → CanFire channels bounds (counts_after n actors) a
    → IsSchedule channels bounds n (actors ++ a ∷ []) × (counts_after n (actors ++ a ∷ []) ≡ fired (counts_after n actors) a)
schedule_more channels bounds n [] a able can = ((can, tt), refl)
schedule_more channels bounds n (x ∷ actors) a able can =
    let rest = schedule_more channels bounds (fired n x) actors a able.1 can in
    ((able.0, rest.0), rest.1)

pub reached_fed : (channels : List Channel) (q bounds n : List ℕ) → IsReached channels q bounds n → IsFed channels n
reached_fed channels q bounds n r = subst (IsFed channels) r.leads (fed_after channels bounds (no_firings q) r.schedule (fed_first channels (length q)) r.able)

pub reached_more : (channels : List Channel) (q bounds n : List ℕ) (a : ℕ) → IsReached channels q bounds n → CanFire channels bounds n a
    → IsReached channels q bounds (fired n a)
reached_more channels q bounds n a r can =
    let more = schedule_more channels bounds (no_firings q) r.schedule a r.able (subst (λ m. CanFire channels bounds m a) (sym r.leads) can) in
    record { schedule = r.schedule ++ a ∷ []; able = more.0; leads = more.1 ∙ ap (λ m. fired m a) r.leads }

pub reached_first : (channels : List Channel) (q bounds : List ℕ) → IsReached channels q bounds (no_firings q)
reached_first channels q bounds = record { schedule = []; able = tt; leads = refl }

-- ---- persistence

-- an actor that is able to fire stays so while others fire, and with greater capacities
able_later : (channels : List Channel) (bounds more m n : List ℕ) (a : ℕ) → length m ≡ length n → IsWithinAll bounds more → IsWithinAll m n
    → get_or m a 0 ≡ get_or n a 0 → IsAble channels bounds m a → IsAble channels more n a
able_later channels bounds more m n a len greater within same able =
    let lt : a < length n = (let e = able.exists in omega arith) in
    record {
      exists = lt;
      tokens = λ i c at to.
          (let count : consumed c (suc (get_or m a 0)) ≡ consumed c (suc (get_or n a 0)) = ap (λ k. consumed c (suc k)) same in
          let put : produced c (get_or m c.from 0) ≤ produced c (get_or n c.from 0) =
          total_mono c.produce (get_or m c.from 0) (get_or n c.from 0) (within c.from) in
          let enough = able.tokens i c at to in
          omega arith);
      room = λ i c at from.
          (let count : produced c (suc (get_or m a 0)) ≡ produced c (suc (get_or n a 0)) = ap (λ k. produced c (suc k)) same in
          let taken : consumed c (get_or (fired m a) c.to 0) ≤ consumed c (get_or (fired n a) c.to 0) =
          total_mono c.consume (get_or (fired m a) c.to 0) (get_or (fired n a) c.to 0) (fired_both m n a able.exists lt within c.to) in
          let room = able.room i c at from in
          let bound = greater i in
          omega arith);
    }

-- where a schedule leads on to q from lower counts, and not all counts are those of q yet, some actor is able to fire
pub some_can_go : (channels : List Channel) (q bounds more actors m n : List ℕ) → length m ≡ length n → IsWithinAll bounds more → IsFed channels m
    → IsFed channels n → IsWithinAll m n
    → IsSchedule channels bounds m actors → counts_after m actors ≡ q → (b : ℕ) → get_or n b 0 < get_or q b 0 → (a : ℕ) × CanGo channels q more n a
some_can_go channels q bounds more [] m n len greater fed_m fed_n within able leads b less =
    let same : get_or m b 0 ≡ get_or q b 0 = ap (λ ks. get_or ks b 0) leads in
    let below = within b in
    absurd (omega arith)
some_can_go channels q bounds more (x ∷ actors) m n len greater fed_m fed_n within able leads b less =
    let first = able_of channels bounds m x fed_m able.0 in
    elim (eq-or-lt_of_le (within x)) [
      | inl same ↦
          let one = fired_same m x able.0.exists in
          let rest : get_or (fired m x) x 0 ≤ get_or q x 0 =
          subst (λ ks. get_or (fired m x) x 0 ≤ get_or ks x 0) leads (after_more channels bounds (fired m x) actors x able.1) in
          (x, record { able = can_of channels more n x fed_n (able_later channels bounds more m n x len greater within same first); left = omega arith })
      | inr lower ↦
          some_can_go channels q bounds more actors (fired m x) n (fired_length m x ∙ len) greater (fed_fired channels bounds m x fed_m first) fed_n
          (fired_within m n x able.0.exists within lower) able.1 leads b less
    ]

within_self : (xs : List ℕ) → IsWithinAll xs xs
within_self xs i = omega arith

pub from_none : (q n : List ℕ) → IsWithinAll (no_firings q) n
from_none q n b = let none = none_at (length q) b in omega arith

-- capacities that complete a period let some actor fire until its counts are reached
pub goes_on : (channels : List Channel) (q bounds n : List ℕ) → CompletesPeriod channels q bounds → length n ≡ length q → IsFed channels n → sum n < sum q
    → (a : ℕ) × CanGo channels q bounds n a
goes_on channels q bounds n completes len fed less =
    let some = some_less n q len less in
    let r = completes.reached in
    some_can_go channels q bounds bounds r.schedule (no_firings q) n (length-replicate (length q) 0
    ∙ sym len) (within_self bounds) (fed_first channels (length q)) fed (from_none q n) r.able r.leads some.0 some.1

-- the firings that are left
pub rest_of : (left : ℕ) (channels : List Channel) (q bounds n : List ℕ) → CompletesPeriod channels q bounds → length n ≡ length q → IsFed channels n
    → IsWithinAll n q → sum n + left ≡ sum q
    → (rest : List ℕ) × IsSchedule channels bounds n rest × (counts_after n rest ≡ q)
rest_of zero channels q bounds n completes len fed within count = ([], tt, all_same n q len within (omega arith))
rest_of (suc left) channels q bounds n completes len fed within count =
    let next = goes_on channels q bounds n completes len fed (omega arith) in
    let can = next.1.able in
    let rest = rest_of left channels q bounds (fired n next.0) completes (fired_length n next.0
    ∙ len) (fed_fired channels bounds n next.0 fed (able_of channels bounds n next.0 fed can)) (fired_within n q next.0 can.exists within next.1.left)
    (let one = fired_sum n next.0 can.exists in omega arith) in
    (next.0 ∷ rest.0, (can, rest.1), rest.2)
