-- Where a run stands, before and after a firing.
use Rattle.std.proofs.Common.{◌≡◌, ℕ, ◌+◌, ◌-◌, ◌*◌, ◌%◌, ◌<◌, ◌≤◌, ◌==◌, inl, inr, cond, List, length, replicate, get_or, sum, refl, sym, ap, subst, ◌∙◌}
use Rattle.std.proofs.Common.{arith}
use Rattle.std.specs.Prelude.{slice_get, Some}
use Rattle.std.proofs.lemmas.List.Sums.{get_or-le-sum_by}
use Rattle.std.proofs.lemmas.List.{length-replicate}
use Rattle.std.proofs.Math.Nat.{zero-mod}
use Rattle.std.proofs.lemmas.List.Folds.{sum_by-replicate}
use Rattle.std.proofs.lemmas.Bool.{eqb-true, eq-eqb, ne_eqb}
use Rattle.csdf_model.specs.Graph.{Actor, Channel, inputs_of, outputs_of, phases_of}
use Rattle.csdf_model.specs.Rates.{produced, consumed, production, consumption}
use Rattle.csdf_analysis.specs.Period.{held, own_consumption, held_after, fired, no_firings, IsReached, HoldInitial, CompletesPeriod, CanGo}
use Rattle.csdf_analysis.specs.Laws.{IsWithinAll}
use Rattle.csdf_analysis.specs.Fitting.{IsFit, IsPhased}
use Rattle.csdf_analysis.specs.Running.{HasTokens, HasRoom, AreHeld, AreInPhase, IsAt, IsStalled}
use Rattle.csdf_analysis.proofs.CountLemmas.{same_or_not, less_or_not, fired_length, fired_within, fired_sum, sum_within, all_same, none_at}
use Rattle.csdf_analysis.proofs.PeriodLemmas.{reached_fed, reached_more, reached_first, from_none, goes_on}
use Rattle.csdf_analysis.proofs.FitLemmas.{put_small, own_at, stands_at, input_end}
use Rattle.csdf_analysis.proofs.FiringLemmas.{takes_in_phase, takes_now, gives_now}

pub firings_within : (channels : List Channel) (q bounds counts lengths : List ℕ) (firings : ℕ) → IsAt channels q bounds counts lengths firings
    → firings ≤ sum q
firings_within channels q bounds counts lengths firings at =
    let below = sum_within counts q at.each_actor at.within in
    let counted = at.counted in
    omega arith

pub count_small : (channels : List Channel) (q bounds counts lengths : List ℕ) (firings a : ℕ) → IsAt channels q bounds counts lengths firings
    → CanGo channels q bounds counts a → get_or counts a 0 < 1048576
count_small channels q bounds counts lengths firings a at go =
    let lt : a < length q = (let e = at.each_actor in let h = go.able.exists in omega arith) in
    let most : get_or q a 0 ≤ sum q = get_or-le-sum_by (λ x. x) q a 0 lt in
    let left = go.left in
    let few = at.few in
    omega arith

pub firings_left : (channels : List Channel) (q bounds counts lengths : List ℕ) (firings a : ℕ) → IsAt channels q bounds counts lengths firings
    → CanGo channels q bounds counts a → firings < sum q
firings_left channels q bounds counts lengths firings a at go =
    let within = fired_within counts q a go.able.exists at.within go.left in
    let below = sum_within (fired counts a) q (fired_length counts a ∙ at.each_actor) within in
    let one = fired_sum counts a go.able.exists in
    let counted = at.counted in
    omega arith

-- ---- the tests of one actor

same_channel : (channels : List Channel) (i : ℕ) (c d : Channel) → slice_get channels i ≡ Some c → slice_get channels i ≡ Some d → c ≡ d
same_channel channels i c d p q = cc

pub filled_is : (actors : List Actor) (channels : List Channel) (q n lengths : List ℕ) (i : ℕ) (v c : Channel) (phase len own left put : ℕ)
    → IsPhased actors channels q → slice_get channels i ≡ Some v → AreHeld channels n lengths → phase ≡ get_or n v.from 0 % phases_of actors v.from
    → len ≡ get_or lengths i 0 → own ≡ cond (v.to == v.from) (get_or v.consume phase 0) 0 → left ≡ len - own → put ≡ get_or v.produce phase 0
    → slice_get channels i ≡ Some c → left + put ≡ held_after c.from n c
filled_is actors channels q n lengths i v c phase len own left put phased at held now length_is own_is left_is put_is is =
    subst (λ d. left + put ≡ held_after d.from n d) (same_channel channels i v c at is)
    (let had = held i v at in
    let given : put ≡ production v (get_or n v.from 0) = put_is ∙ sym (gives_now actors channels q n v.from phase i v phased now at refl) in
    let taken : own ≡ own_consumption v.from n v = elim (same_or_not v.to v.from) [
      | inl to ↦
          own_is ∙ ap (λ b. cond b (get_or v.consume phase 0) 0) (eq-eqb v.to v.from to)
          ∙ sym (takes_now actors channels q n v.from phase i v phased now at to)
          ∙ sym (ap (λ b. cond b (consumption v (get_or n v.from 0)) 0) (eq-eqb v.to v.from to))
      | inr other ↦ own_is ∙ ap (λ b. cond b (get_or v.consume phase 0) 0) (ne_eqb v.to v.from other)
          ∙ sym (ap (λ b. cond b (consumption v (get_or n v.from 0)) 0) (ne_eqb v.to v.from other))
    ] in
    omega arith)

pub filled_small : (channels : List Channel) (q n lengths : List ℕ) (i : ℕ) (v : Channel) (len put : ℕ) → IsFit channels q → IsWithinAll n q
    → slice_get channels i ≡ Some v → AreHeld channels n lengths → len ≡ get_or lengths i 0 → put ≤ 64 → len + put ≤ 65599
filled_small channels q n lengths i v len put fit within at held length_is small =
    let had = held i v at in
    let most = put_small channels q n i v fit at within in
    omega arith

-- the test of one channel
pub holds_is : (actors : List Actor) (channels : List Channel) (q n lengths : List ℕ) (i phase take len : ℕ) (c : Channel) → IsPhased actors channels q
    → AreHeld channels n lengths → slice_get channels i ≡ Some c → phase ≡ get_or n c.to 0 % phases_of actors c.to
    → take ≡ get_or c.consume phase 0 → len ≡ get_or lengths i 0 → (take ≡ consumption c (get_or n c.to 0)) × (len ≡ held c n)
holds_is actors channels q n lengths i phase take len c phased are at now take_is len_is =
    (take_is ∙ sym (takes_in_phase actors channels q i (get_or n c.to 0) phase c phased at now), len_is ∙ are i c at)

pub tokens_all : (channels : List Channel) (n numbers : List ℕ) (a m : ℕ) → numbers ≡ inputs_of channels a → length numbers ≤ m
    → ((k : ℕ) → k < m → (c : Channel) → slice_get channels (get_or numbers k 0) ≡ Some c → consumption c (get_or n c.to 0) ≤ held c n) → HasTokens channels n a
tokens_all channels n numbers a m is le each i c at to =
    let stands = stands_at (λ d. d.to == a) channels i c at (eq-eqb c.to a to) in
    let number : get_or numbers (stands.0) 0 ≡ i = ap (λ ks. get_or ks (stands.0) 0) is ∙ stands.2 in
    let lt : stands.0 < m = (let h = stands.1 in let e = ap length is in omega arith) in
    let one = each (stands.0) lt c (ap (slice_get channels) number ∙ at) in
    subst (λ b. consumption c (get_or n b 0) ≤ held c n) to one

pub tokens_some : (channels : List Channel) (n numbers : List ℕ) (a k : ℕ) → numbers ≡ inputs_of channels a → k < length numbers → HasTokens channels n a
    → (c : Channel) → slice_get channels (get_or numbers k 0) ≡ Some c → consumption c (get_or n c.to 0) ≤ held c n
tokens_some channels n numbers a k is lt has c at =
    let to : c.to ≡ a = input_end channels numbers a k c is lt at in
    subst (λ b. consumption c (get_or n b 0) ≤ held c n) (sym to) (has (get_or numbers k 0) c at to)

pub room_all : (channels : List Channel) (bounds n numbers : List ℕ) (a m : ℕ) → numbers ≡ outputs_of channels a → length numbers ≤ m
    → ((k : ℕ) → k < m → (c : Channel) → slice_get channels (get_or numbers k 0) ≡ Some c → held_after c.from n c ≤ get_or bounds (get_or numbers k 0) 0)
    → HasRoom channels bounds n a
room_all channels bounds n numbers a m is le each i c at from =
    let stands = stands_at (λ d. d.from == a) channels i c at (eq-eqb c.from a from) in
    let number : get_or numbers (stands.0) 0 ≡ i = ap (λ ks. get_or ks (stands.0) 0) is ∙ stands.2 in
    let lt : stands.0 < m = (let h = stands.1 in let e = ap length is in omega arith) in
    let one = each (stands.0) lt c (ap (slice_get channels) number ∙ at) in
    subst (λ b. held_after b n c ≤ get_or bounds i 0) from (subst (λ j. held_after c.from n c ≤ get_or bounds j 0) number one)

pub room_some : (channels : List Channel) (bounds n numbers : List ℕ) (a k : ℕ) → numbers ≡ outputs_of channels a → k < length numbers
    → HasRoom channels bounds n a
    → (c : Channel) × (slice_get channels (get_or numbers k 0) ≡ Some c) × (held_after c.from n c ≤ get_or bounds (get_or numbers k 0) 0)
room_some channels bounds n numbers a k is lt has =
    let own = own_at (λ d. d.from == a) channels k (let e = ap length is in omega arith) in
    let number : get_or numbers k 0 ≡ get_or (outputs_of channels a) k 0 = ap (λ ks. get_or ks k 0) is in
    let from : own.0.from ≡ a = eqb-true (own.0.from) a own.2 in
    let at : slice_get channels (get_or numbers k 0) ≡ Some (own.0) = ap (slice_get channels) number ∙ own.1 in
    (own.0, at, subst (λ b. held_after b n (own.0) ≤ get_or bounds (get_or numbers k 0) 0) (sym from) (has (get_or numbers k 0) (own.0) at from))

-- ---- one firing more

pub next_at : (channels : List Channel) (q bounds counts lengths counts2 lengths2 : List ℕ) (firings firings2 a : ℕ)
    → IsAt channels q bounds counts lengths firings → CanGo channels q bounds counts a → counts2 ≡ fired counts a
    → length lengths2 ≡ length channels → AreHeld channels counts2 lengths2 → firings2 ≡ firings + 1 → IsAt channels q bounds counts2 lengths2 firings2
next_at channels q bounds counts lengths counts2 lengths2 firings firings2 a at go is len held count = record {
  each_bound = at.each_bound;
  each_actor = ap length is ∙ fired_length counts a ∙ at.each_actor;
  each_length = len;
  reached = subst (IsReached channels q bounds) (sym is) (reached_more channels q bounds counts a at.reached go.able);
  within = subst (λ m. IsWithinAll m q) (sym is) (fired_within counts q a go.able.exists at.within go.left);
  held = held;
  counted = (let one = fired_sum counts a go.able.exists in let before = at.counted in let sums = ap sum is in omega arith);
  few = at.few;
}

-- ---- at a stall

-- where capacities complete a period, a run stalls at its end alone
pub stalled_all : (channels : List Channel) (q bounds counts lengths : List ℕ) (firings : ℕ) → IsAt channels q bounds counts lengths firings
    → IsStalled channels q bounds counts → CompletesPeriod channels q bounds → firings ≡ sum q
stalled_all channels q bounds counts lengths firings at stalled completes =
    let most = firings_within channels q bounds counts lengths firings at in
    elim (less_or_not firings (sum q)) [
      | inl less ↦
          let go = goes_on channels q bounds counts completes at.each_actor (reached_fed channels q bounds counts at.reached) (let e = at.counted in
          omega arith) in
          absurd (stalled (go.0) go.1)
      | inr ge ↦ omega arith
    ]

pub all_counts : (channels : List Channel) (q bounds counts lengths : List ℕ) (firings : ℕ) → IsAt channels q bounds counts lengths firings → firings ≡ sum q
    → counts ≡ q
all_counts channels q bounds counts lengths firings at all = all_same counts q at.each_actor at.within (sym at.counted ∙ all)

-- a run that made all firings shows that its bounds complete a period
pub completes_at : (channels : List Channel) (q bounds counts lengths : List ℕ) (firings : ℕ) → IsAt channels q bounds counts lengths firings
    → HoldInitial channels bounds → firings ≡ sum q → CompletesPeriod channels q bounds
completes_at channels q bounds counts lengths firings at initial all = record {
  each_channel = at.each_bound;
  initial = initial;
  reached = subst (IsReached channels q bounds) (all_counts channels q bounds counts lengths firings at all) at.reached;
}

-- what the channels hold before any firing
pub held_first : (channels : List Channel) (lengths : List ℕ) (k : ℕ)
    → ((i : ℕ) (c : Channel) → slice_get channels i ≡ Some c → get_or lengths i 0 ≡ length c.initial) → AreHeld channels (replicate k 0) lengths
held_first channels lengths k initial i c at =
    let length_is = initial i c at in
    let put : produced c (get_or (replicate k 0) c.from 0) ≡ 0 = ap (produced c) (none_at k c.from) in
    let taken : consumed c (get_or (replicate k 0) c.to 0) ≡ 0 = ap (consumed c) (none_at k c.to) in
    omega arith

-- and the phases
pub in_phase_first : (actors : List Actor) (k : ℕ) → AreInPhase actors (replicate k 0) (replicate k 0)
in_phase_first actors k = record {
  each_actor = refl;
  phase = λ a lt. none_at k a ∙ sym (ap (λ n. n % phases_of actors a) (none_at k a) ∙ zero-mod (phases_of actors a));
}

-- before any firing
pub first_at : (channels : List Channel) (q bounds counts lengths : List ℕ) → IsFit channels q → length bounds ≡ length channels → counts ≡ no_firings q
    → length lengths ≡ length channels → AreHeld channels counts lengths → IsAt channels q bounds counts lengths 0
first_at channels q bounds counts lengths fit each is len held = record {
  each_bound = each;
  each_actor = ap length is ∙ length-replicate (length q) 0;
  each_length = len;
  reached = subst (IsReached channels q bounds) (sym is) (reached_first channels q bounds);
  within = subst (λ m. IsWithinAll m q) (sym is) (from_none q q);
  held = held;
  counted = sym (ap sum is ∙ none_sum (length q));
  few = fit.total;
}
  where
    none_sum : (k : ℕ) → sum (replicate k 0) ≡ 0
    none_sum k = sum_by-replicate (λ x. x) k 0 ∙ (let z : k * 0 ≡ 0 = omega arith in z)
