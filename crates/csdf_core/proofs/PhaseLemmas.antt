-- Where each actor stands in its lists of rates.
use Rattle.std.proofs.Common.{◌≡◌, ℕ, zero, suc, ◌+◌, ◌<◌, ◌≤◌, ◌%◌, ◌==◌, cond, Bool, List, [], ◌∷◌, inl, inr, length, get_or, set, map}
use Rattle.std.proofs.Common.{ap, subst, ◌∙◌, sym, refl, arith}
use Rattle.std.specs.Prelude.{All, sum}
use Rattle.std.specs.List.{zip, AllByRecursion}
use Rattle.std.proofs.Math.Nat.{suc-mod, mod-eq_of_lt, mod_self, zero-mod, mod-add-mod}
use Rattle.std.proofs.lemmas.Nat.{mod_below}
use Rattle.std.proofs.lemmas.Bool.{eq-eqb}
use Rattle.std.proofs.lemmas.Bool.Decides.{eqb_tells}
use Rattle.std.proofs.lemmas.List.{get_or-set_other, get_or-set_same, length-set}
use Rattle.std.proofs.lemmas.List.Elements.{All-from_recursion}
use Rattle.csdf_model.specs.Graph as graph
use Rattle.csdf_model.specs.Graph.{numbers_from, phases_of}
use Rattle.csdf_model.specs.Rates.{rate}
use Rattle.csdf_model.specs.WellFormed.{IsActor, IsChannel, AreRates}
use Rattle.csdf_core.specs.Plan.{Channel, Plan, from_at, to_at, produce_at, consume_at}
use Rattle.csdf_core.specs.Planned.{with_capacity}
use Rattle.csdf_core.specs.Phases.{IsPhase, IsInPhase, HasPhases, AreInPhase}

-- ---- the own channels of an actor
module _ (field : Channel → ℕ) (a : ℕ) (whole : List Channel) where
  own_from : (i : ℕ) (cs : List Channel) → ((j : ℕ) → j < length cs → get_or (map field whole) (i + j) 0 ≡ get_or (map field cs) j 0)
      → AllByRecursion (λ c. get_or (map field whole) c 0 ≡ a) (numbers_from i (λ c. field c == a) cs)
  own_from i [] same = tt
  own_from i (x ∷ cs) same =
      let rest = own_from (suc i) cs
      (λ j lt. ap (λ k. get_or (map field whole) k 0) (let e : suc i + j ≡ i + suc j = omega arith in e) ∙ same (suc j) (omega arith)) in
      let here : get_or (map field whole) i 0 ≡ field x =
      ap (λ k. get_or (map field whole) k 0) (let e : i ≡ i + 0 = omega arith in e) ∙ same 0 (omega arith) in
      elim (eqb_tells (field x) a) [
        | inl e ↦ subst (λ b. AllByRecursion (λ c. get_or (map field whole) c 0 ≡ a)
            (cond b (i ∷ numbers_from (suc i) (λ c. field c == a) cs) (numbers_from (suc i) (λ c. field c == a) cs))) (sym e.0) (here ∙ e.1, rest)
        | inr e ↦ subst (λ b. AllByRecursion (λ c. get_or (map field whole) c 0 ≡ a)
            (cond b (i ∷ numbers_from (suc i) (λ c. field c == a) cs) (numbers_from (suc i) (λ c. field c == a) cs))) (sym e.0) rest
      ]

pub numbers_own : (field : Channel → ℕ) (a : ℕ) (cs : List Channel)
    → All (λ c. get_or (map field cs) c 0 ≡ a) (numbers_from 0 (λ c. field c == a) cs)
numbers_own field a cs =
    All-from_recursion (λ c. get_or (map field cs) c 0 ≡ a) (numbers_from 0 (λ c. field c == a) cs)
    (own_from field a cs 0 cs (λ j lt. ap (λ k. get_or (map field cs) k 0) (let e : 0 + j ≡ j = omega arith in e)))

-- ---- what holds of each number of the actor's own channels holds of any such channel
module _ (P : ℕ → Type 0) (field : Channel → ℕ) (a : ℕ) where
  of_numbers : (i : ℕ) (cs : List Channel) → AllByRecursion P (numbers_from i (λ c. field c == a) cs) → (j : ℕ) → j < length cs
      → get_or (map field cs) j 0 ≡ a → P (i + j)
  of_numbers i [] all j lt is = absurd (omega arith)
  of_numbers i (x ∷ cs) all zero lt is =
      let later : List ℕ = numbers_from (suc i) (λ c. field c == a) cs in
      let here : AllByRecursion P (i ∷ later) = subst (λ (b : Bool). AllByRecursion P (cond b (i ∷ later) later)) (eq-eqb (field x) a is) all in
      subst P (let e : i ≡ i + zero = omega arith in e) here.0
  of_numbers i (x ∷ cs) all (suc j) lt is =
      let later : List ℕ = numbers_from (suc i) (λ c. field c == a) cs in
      let rest : AllByRecursion P later = elim (eqb_tells (field x) a) [
        | inl e ↦ (let here : AllByRecursion P (i ∷ later) = subst (λ (b : Bool). AllByRecursion P (cond b (i ∷ later) later)) e.0 all in here.1)
        | inr e ↦ subst (λ (b : Bool). AllByRecursion P (cond b (i ∷ later) later)) e.0 all
      ] in
      subst P (let e : suc i + j ≡ i + suc j = omega arith in e) (of_numbers (suc i) cs rest j (omega arith) is)

  pub of_own : (cs : List Channel) → AllByRecursion P (numbers_from 0 (λ c. field c == a) cs) → (c : ℕ) → c < length cs
      → get_or (map field cs) c 0 ≡ a → P c
  of_own cs all c lt is = subst P (let e : 0 + c ≡ c = omega arith in e) (of_numbers 0 cs all c lt is)

-- ---- a rate by its phase
pub rate_in_phase : (rates : List ℕ) (k phase : ℕ) → IsPhase rates k phase → get_or rates phase 0 ≡ rate rates k
rate_in_phase rates k phase h = ap (λ p. get_or rates p 0) h.is

-- ---- the rates of a graph's channels
module _ (actors : List graph.Actor) where
  pub consumed_by : (gs : List graph.Channel) (caps : List ℕ) (c : ℕ) → length caps ≡ length gs → AllByRecursion (IsChannel actors) gs
      → c < length (map with_capacity (zip gs caps))
      → AreRates (phases_of actors (to_at (map with_capacity (zip gs caps)) c)) (consume_at (map with_capacity (zip gs caps)) c)
  consumed_by [] caps c len all lt = absurd (omega arith)
  consumed_by (g ∷ gs) [] c len all lt = absurd (omega arith)
  consumed_by (g ∷ gs) (b ∷ caps) zero len all lt = all.0.consume
  consumed_by (g ∷ gs) (b ∷ caps) (suc c) len all lt = consumed_by gs caps c (omega arith) all.1 (omega arith)

  pub produced_by : (gs : List graph.Channel) (caps : List ℕ) (c : ℕ) → length caps ≡ length gs → AllByRecursion (IsChannel actors) gs
      → c < length (map with_capacity (zip gs caps))
      → AreRates (phases_of actors (from_at (map with_capacity (zip gs caps)) c)) (produce_at (map with_capacity (zip gs caps)) c)
  produced_by [] caps c len all lt = absurd (omega arith)
  produced_by (g ∷ gs) [] c len all lt = absurd (omega arith)
  produced_by (g ∷ gs) (b ∷ caps) zero len all lt = all.0.produce
  produced_by (g ∷ gs) (b ∷ caps) (suc c) len all lt = produced_by gs caps c (omega arith) all.1 (omega arith)

  pub has_phases : (gs : List graph.Channel) (caps : List ℕ) (a n : ℕ) → length caps ≡ length gs → AllByRecursion (IsChannel actors) gs → phases_of actors a ≡ n
      → HasPhases (map with_capacity (zip gs caps)) a n
  has_phases gs caps a n len all is = record {
    takes = λ c lt e. (consumed_by gs caps c len all lt).each_phase ∙ ap (phases_of actors) e ∙ is;
    gives = λ c lt e. (produced_by gs caps c len all lt).each_phase ∙ ap (phases_of actors) e ∙ is;
  }

some_rate : (rates : List ℕ) → 0 < sum rates → 0 < length rates
some_rate [] h = h
some_rate (x ∷ rates) h = omega arith

first_phase : (phases : ℕ) (rates : List ℕ) → AreRates phases rates → IsPhase rates 0 0
first_phase phases rates h = record { within = some_rate rates h.some; is = sym (zero-mod (length rates)) }

-- the first firing of each actor is in phase 0
pub first_in_phase : (actors : List graph.Actor) (gs : List graph.Channel) (caps : List ℕ) (a : ℕ) → length caps ≡ length gs
    → AllByRecursion (IsChannel actors) gs → IsInPhase (map with_capacity (zip gs caps)) a 0 0
first_in_phase actors gs caps a len all = record {
  takes = λ c lt e. first_phase _ _ (consumed_by actors gs caps c len all lt);
  gives = λ c lt e. first_phase _ _ (produced_by actors gs caps c len all lt);
}

-- an actor has from 1 to 16 phases
pub phases_at : (actors : List graph.Actor) (i : ℕ) → i < length actors → get_or (map (λ (a : graph.Actor). a.phases) actors) i 0 ≡ phases_of actors i
phases_at [] i lt = absurd (omega arith)
phases_at (x ∷ actors) zero lt = refl
phases_at (x ∷ actors) (suc i) lt = phases_at actors i (omega arith)

pub some_phases : (actors : List graph.Actor) (i : ℕ) → i < length actors → AllByRecursion IsActor actors → 1 ≤ phases_of actors i
some_phases [] i lt all = absurd (omega arith)
some_phases (x ∷ actors) zero lt all = all.0.some_phase
some_phases (x ∷ actors) (suc i) lt all = some_phases actors i (omega arith) all.1

pub few_phases : (actors : List graph.Actor) (i : ℕ) → i < length actors → AllByRecursion IsActor actors → phases_of actors i ≤ 16
few_phases [] i lt all = absurd (omega arith)
few_phases (x ∷ actors) zero lt all = all.0.few_phases
few_phases (x ∷ actors) (suc i) lt all = few_phases actors i (omega arith) all.1

-- ---- the phase after
after_last : (rates : List ℕ) (k phase : ℕ) → IsPhase rates k phase → phase + 1 ≡ length rates → IsPhase rates (k + 1) 0
after_last rates k phase h last =
    let one : suc (k % length rates) ≡ phase + 1 = let e = h.is in omega arith in
    let next : (k + 1) % length rates ≡ 0 =
    ap (λ n. n % length rates) (let e : k + 1 ≡ suc k = omega arith in e) ∙ suc-mod k (length rates)
    ∙ ap (λ n. n % length rates) (one ∙ last) ∙ mod_self (length rates) in
    record { within = (let w = h.within in omega arith); is = sym next }

after_other : (rates : List ℕ) (k phase : ℕ) → IsPhase rates k phase → phase + 1 < length rates → IsPhase rates (k + 1) (phase + 1)
after_other rates k phase h lt =
    let one : suc (k % length rates) ≡ phase + 1 = let e = h.is in omega arith in
    let next : (k + 1) % length rates ≡ phase + 1 =
    ap (λ n. n % length rates) (let e : k + 1 ≡ suc k = omega arith in e) ∙ suc-mod k (length rates)
    ∙ ap (λ n. n % length rates) one ∙ mod-eq_of_lt {n = phase + 1} {m = length rates} lt in
    record { within = lt; is = sym next }

module _ (channels : List Channel) (a k phase n : ℕ) (h : IsInPhase channels a k phase) (has : HasPhases channels a n) where
  pub turned_last : n ≤ phase + 1 → IsInPhase channels a (k + 1) 0
  turned_last le = record {
    takes = λ c lt e. (let w = (h.takes c lt e).within in let l = has.takes c lt e in
        after_last (consume_at channels c) k phase (h.takes c lt e) (omega arith));
    gives = λ c lt e. (let w = (h.gives c lt e).within in let l = has.gives c lt e in
        after_last (produce_at channels c) k phase (h.gives c lt e) (omega arith));
  }

  pub turned_other : phase + 1 < n → IsInPhase channels a (k + 1) (phase + 1)
  turned_other less = record {
    takes = λ c lt e. (let l = has.takes c lt e in after_other (consume_at channels c) k phase (h.takes c lt e) (omega arith));
    gives = λ c lt e. (let l = has.gives c lt e in after_other (produce_at channels c) k phase (h.gives c lt e) (omega arith));
  }

-- ---- the phase some firings later
later : (rates : List ℕ) (k phase n : ℕ) → IsPhase rates k phase → IsPhase rates (k + n) ((phase + n) % length rates)
later rates k phase n h = record {
  within = mod_below (phase + n) (length rates) (let w = h.within in omega (arith, w));
  is = ap (λ p. (p + n) % length rates) h.is ∙ mod-add-mod k (length rates) n;
}

pub turned_by : (channels : List Channel) (a k phase n phases : ℕ) → IsInPhase channels a k phase → HasPhases channels a phases
    → IsInPhase channels a (k + n) ((phase + n) % phases)
turned_by channels a k phase n phases h has = record {
  takes = λ c lt e. subst (λ l. IsPhase (consume_at channels c) (k + n) ((phase + n) % l)) (has.takes c lt e)
      (later (consume_at channels c) k phase n (h.takes c lt e));
  gives = λ c lt e. subst (λ l. IsPhase (produce_at channels c) (k + n) ((phase + n) % l)) (has.gives c lt e)
      (later (produce_at channels c) k phase n (h.gives c lt e));
}

-- ---- the phases of all actors, where one has another count
pub phases_finished : (plan : Plan) (counts phases : List ℕ) (a n x : ℕ) → AreInPhase plan counts phases → a < length plan.sources → a < length counts
    → IsInPhase plan.channels a n x → x < 16 → AreInPhase plan (set counts a n) (set phases a x)
phases_finished plan counts phases a n x m lt counted is low =
    let lx : a < length phases = let e = m.phased in omega arith in
    record {
      phased = length-set phases a x ∙ m.phased;
      each = λ b lb. elim (eqb_tells b a) [
        | inl e ↦ subst (λ (c : ℕ). IsInPhase plan.channels c (get_or (set counts a n) c 0) (get_or (set phases a x) c 0)) (sym e.1)
            (subst (λ k. IsInPhase plan.channels a k (get_or (set phases a x) a 0)) (sym (get_or-set_same counts a n 0 counted))
            (subst (λ phase. IsInPhase plan.channels a n phase) (sym (get_or-set_same phases a x 0 lx)) is))
        | inr e ↦ subst (λ k. IsInPhase plan.channels b k (get_or (set phases a x) b 0)) (sym (get_or-set_other counts a b n 0 e.1))
            (subst (λ phase. IsInPhase plan.channels b (get_or counts b 0) phase) (sym (get_or-set_other phases a b x 0 e.1)) (m.each b lb))
      ];
      low = λ b lb. elim (eqb_tells b a) [
        | inl e ↦ subst (λ (c : ℕ). get_or (set phases a x) c 0 < 16) (sym e.1) (let s = get_or-set_same phases a x 0 lx in omega arith)
        | inr e ↦ let s = get_or-set_other phases a b x 0 e.1 in let old = m.low b lb in omega arith
      ];
    }
