-- What one firing changes: the lengths of the actor's channels by its rates, and its phase.
use Rattle.std.proofs.Common.{◌≡◌, ℕ, zero, suc, ◌+◌, ◌-◌, ◌%◌, ◌<◌, ◌≤◌, ◌==◌, inl, inr, Bool, true, false, cond, List, [], ◌∷◌, length, get_or, set, refl}
use Rattle.std.proofs.Common.{sym, ap, subst, ◌∙◌, arith}
use Rattle.std.specs.Prelude.{slice_get, Some}
use Rattle.std.proofs.Math.Nat.{suc-mod, mod-lt, mod-eq_of_lt, mod_self}
use Rattle.std.proofs.lemmas.Bool.{cases_Bool, eq-eqb, ne_eqb, false≢true}
use Rattle.std.proofs.lemmas.List.{get_or-set_same, get_or-set_other, length-set}
use Rattle.csdf_model.specs.Graph.{Actor, Channel, phases_of, numbers_from}
use Rattle.csdf_model.specs.Rates.{rate, produced, consumed, production, consumption}
use Rattle.csdf_analysis.specs.Period.{held, fired, CanGo, IsReached}
use Rattle.csdf_analysis.specs.Fitting.{IsFit, IsPhased}
use Rattle.csdf_analysis.specs.Running.{AreHeld, AreInPhase}
use Rattle.csdf_analysis.specs.Laws.{IsWithinAll}
use Rattle.csdf_analysis.proofs.CountLemmas.{same_or_not, fired_same, fired_other, fired_length}
use Rattle.csdf_analysis.proofs.PeriodLemmas.{IsFed, reached_fed}
use Rattle.csdf_analysis.proofs.FitLemmas.{at, own_end, numbers_apart, stands_at, put_small}

-- ---- lengths changed channel by channel

-- the channels of the first m numbers have been changed, and no others
pub record AreChanged (f : ℕ → Channel → ℕ) (channels : List Channel) (numbers old new : List ℕ) (m : ℕ) : Type 0 where
  pub done : (j : ℕ) → j < m → (c : Channel) → slice_get channels (get_or numbers j 0) ≡ Some c
      → get_or new (get_or numbers j 0) 0 ≡ f (get_or old (get_or numbers j 0) 0) c
  pub rest : (i : ℕ) → ((j : ℕ) → j < m → get_or numbers j 0 ≡ i → ⊥) → get_or new i 0 ≡ get_or old i 0

pub none_changed : (f : ℕ → Channel → ℕ) (channels : List Channel) (numbers old : List ℕ) → AreChanged f channels numbers old old 0
none_changed f channels numbers old = record { done = λ j lt. absurd (omega arith); rest = λ i none. refl }

-- the next channel still has its old length
pub still : (f : ℕ → Channel → ℕ) (own : Channel → Bool) (channels : List Channel) (numbers old new : List ℕ) (m : ℕ) → numbers ≡ numbers_from 0 own channels
    → m < length numbers → AreChanged f channels numbers old new m
    → get_or new (get_or numbers m 0) 0 ≡ get_or old (get_or numbers m 0) 0
still f own channels numbers old new m is lt are = are.rest (get_or numbers m 0) (λ j less same. numbers_apart own channels numbers j m is less lt same)

pub one_changed : (f : ℕ → Channel → ℕ) (own : Channel → Bool) (channels : List Channel) (numbers old new next : List ℕ) (m v : ℕ)
    → numbers ≡ numbers_from 0 own channels → m < length numbers → get_or numbers m 0 < length new
    → next ≡ set new (get_or numbers m 0) v → ((c : Channel) → slice_get channels (get_or numbers m 0) ≡ Some c → v ≡ f (get_or new (get_or numbers m 0) 0) c)
    → AreChanged f channels numbers old new m → AreChanged f channels numbers old next (m + 1)
one_changed f own channels numbers old new next m v is lt within set_is value are = record {
  done = λ j less c at. elim (same_or_not j m) [
    | inl this ↦
        let number : get_or numbers j 0 ≡ get_or numbers m 0 = ap (λ k. get_or numbers k 0) this in
        let here : get_or next (get_or numbers m 0) 0 ≡ v = ap (λ ks. get_or ks (get_or numbers m 0) 0) set_is
        ∙ get_or-set_same new (get_or numbers m 0) v 0 within in
        let was = still f own channels numbers old new m is lt are in
        let whole : get_or next (get_or numbers m 0) 0 ≡ f (get_or old (get_or numbers m 0) 0) c = here ∙ value c (ap (slice_get channels) (sym number) ∙ at)
        ∙ ap (λ k. f k c) was in
        subst (λ n. get_or next n 0 ≡ f (get_or old n 0) c) (sym number) whole
    | inr other ↦
        let lower : j < m = omega (arith, other) in
        let apart : get_or numbers j 0 ≡ get_or numbers m 0 → ⊥ = λ same. numbers_apart own channels numbers j m is lower lt same in
        ap (λ ks. get_or ks (get_or numbers j 0) 0) set_is ∙ get_or-set_other new (get_or numbers m 0) (get_or numbers j 0) v 0 apart ∙ are.done j lower c at
  ];
  rest = λ i none.
      (let apart : i ≡ get_or numbers m 0 → ⊥ = λ same. none m (omega arith) (sym same) in
      ap (λ ks. get_or ks i 0) set_is ∙ get_or-set_other new (get_or numbers m 0) i v 0 apart ∙ are.rest i (λ j less same. none j (omega arith) same));
}

pub all_changed : (f : ℕ → Channel → ℕ) (own : Channel → Bool) (channels : List Channel) (numbers old new : List ℕ) (m : ℕ)
    → numbers ≡ numbers_from 0 own channels → length numbers ≤ m → m ≤ length numbers → AreChanged f channels numbers old new m
    → (i : ℕ) (c : Channel) → slice_get channels i ≡ Some c → get_or new i 0 ≡ cond (own c) (f (get_or old i 0) c) (get_or old i 0)
all_changed f own channels numbers old new m is le ge are i c at = elim (cases_Bool (own c)) [
  | inl mine ↦
      let stands = stands_at own channels i c at mine in
      let number : get_or numbers (stands.0) 0 ≡ i = ap (λ ks. get_or ks (stands.0) 0) is ∙ stands.2 in
      let lt : stands.0 < m = (let h = stands.1 in let e = ap length is in omega arith) in
      let one = are.done (stands.0) lt c (ap (slice_get channels) number ∙ at) in
      subst (λ b. get_or new i 0 ≡ cond b (f (get_or old i 0) c) (get_or old i 0)) (sym mine) (subst (λ n. get_or new n 0 ≡ f (get_or old n 0) c) number one)
  | inr other ↦
      subst (λ b. get_or new i 0 ≡ cond b (f (get_or old i 0) c) (get_or old i 0)) (sym other)
      (are.rest i (λ j less same. absurd (false≢true (sym other ∙ own_end own channels numbers j c is (omega arith) (ap (slice_get channels) same ∙ at)))))
]

-- ---- rates by phases

pub rate_in_phase : (rates : List ℕ) (phases k phase : ℕ) → length rates ≡ phases → phase ≡ k % phases → rate rates k ≡ get_or rates phase 0
rate_in_phase rates phases k phase len is = ap (λ p. get_or rates (k % p) 0) len ∙ ap (λ p. get_or rates p 0) (sym is)

pub takes_in_phase : (actors : List Actor) (channels : List Channel) (q : List ℕ) (i k phase : ℕ) (c : Channel) → IsPhased actors channels q
    → slice_get channels i ≡ Some c → phase ≡ k % phases_of actors c.to → consumption c k ≡ get_or c.consume phase 0
takes_in_phase actors channels q i k phase c phased is now =
    rate_in_phase c.consume (phases_of actors c.to) k phase (at (λ (d : Channel). length d.consume ≡ phases_of actors d.to) channels i c phased.consume is) now

pub gives_in_phase : (actors : List Actor) (channels : List Channel) (q : List ℕ) (i k phase : ℕ) (c : Channel) → IsPhased actors channels q
    → slice_get channels i ≡ Some c → phase ≡ k % phases_of actors c.from → production c k ≡ get_or c.produce phase 0
gives_in_phase actors channels q i k phase c phased is now =
    rate_in_phase c.produce (phases_of actors c.from) k phase (at (λ (d : Channel). length d.produce ≡ phases_of actors d.from) channels i c phased.produce is)
    now

-- the actor's phase is one of its phases
pub phase_below : (actors : List Actor) (channels : List Channel) (q : List ℕ) (a k : ℕ) → IsPhased actors channels q → a < length q
    → k % phases_of actors a < phases_of actors a
phase_below actors channels q a k phased lt =
    let some : 1 ≤ phases_of actors a = phased.some a (let e = phased.each_actor in omega arith) in
    mod-lt k {m = phases_of actors a} (omega arith)

pub phase_last : (phase m : ℕ) → phase + 1 ≡ m → 0 ≡ (phase + 1) % m
phase_last phase m is = sym (ap (λ k. k % m) is ∙ mod_self m)

pub phase_next : (phase m : ℕ) → phase < m → (phase + 1 ≡ m → ⊥) → phase + 1 ≡ (phase + 1) % m
phase_next phase m lt other = sym (mod-eq_of_lt {n = phase + 1} {m = m} (omega (arith, other)))

pub in_phase_fired : (actors : List Actor) (n next phases : List ℕ) (a p : ℕ) → a < length n → AreInPhase actors n phases → next ≡ fired n a
    → p ≡ (get_or n a 0 % phases_of actors a + 1) % phases_of actors a → AreInPhase actors next (set phases a p)
in_phase_fired actors n next phases a p lt are is new = subst (λ m. AreInPhase actors m (set phases a p)) (sym is) (record {
  each_actor = length-set phases a p ∙ are.each_actor ∙ sym (fired_length n a);
  phase = λ b less. elim (same_or_not b a) [
    | inl same ↦
        let here : get_or (set phases a p) a 0 ≡ p = get_or-set_same phases a p 0 (let e = are.each_actor in omega arith) in
        let one : suc (get_or n a 0 % phases_of actors a) ≡ get_or n a 0 % phases_of actors a + 1 = omega arith in
        let count : get_or (fired n a) a 0 % phases_of actors a ≡ p = ap (λ k. k % phases_of actors a) (fired_same n a lt)
        ∙ suc-mod (get_or n a 0) (phases_of actors a) ∙ ap (λ k. k % phases_of actors a) one ∙ sym new in
        subst (λ k. get_or (set phases a p) k 0 ≡ get_or (fired n a) k 0 % phases_of actors k) (sym same) (here ∙ sym count)
    | inr other ↦
        get_or-set_other phases a b p 0 other ∙ are.phase b (let e = fired_length n a in omega arith)
        ∙ ap (λ k. k % phases_of actors b) (sym (fired_other n a b other))
  ];
})

-- ---- the lengths after a firing

-- what a channel holds after the actor's firing took its tokens out and put its tokens in
held_by_rates : (channels : List Channel) (n : List ℕ) (a i l0 l1 l2 out in_ : ℕ) (c : Channel) → a < length n → IsFed channels n
    → slice_get channels i ≡ Some c → l0 ≡ held c n
    → (c.to ≡ a → consumption c (get_or n a 0) ≤ held c n) → (c.to ≡ a → consumption c (get_or n a 0) ≡ out) → (c.from ≡ a → production c (get_or n a 0) ≡ in_)
    → l1 ≡ cond (c.to == a) (l0 - out) l0 → l2 ≡ cond (c.from == a) (l1 + in_) l1 → l2 ≡ held c (fired n a)
held_by_rates channels n a i l0 l1 l2 out in_ c lt fed at had enough takes gives first second =
    let fed_here = fed.fed i c at in
    elim (same_or_not c.to a) [
      | inl to ↦
          let took : l1 ≡ l0 - out = first ∙ ap (λ b. cond b (l0 - out) l0) (eq-eqb c.to a to) in
          let gone : consumed c (get_or (fired n a) c.to 0) ≡ consumed c (suc (get_or n a 0)) = ap (λ k. consumed c (get_or (fired n a) k 0)) to
          ∙ ap (consumed c) (fired_same n a lt) in
          let before : consumed c (get_or n c.to 0) ≡ consumed c (get_or n a 0) = ap (λ k. consumed c (get_or n k 0)) to in
          let some = enough to in
          let rate = takes to in
          elim (same_or_not c.from a) [
            | inl from ↦
                let gave : l2 ≡ l1 + in_ = second ∙ ap (λ b. cond b (l1 + in_) l1) (eq-eqb c.from a from) in
                let put : produced c (get_or (fired n a) c.from 0) ≡ produced c (suc (get_or n a 0)) = ap (λ k. produced c (get_or (fired n a) k 0)) from
                ∙ ap (produced c) (fired_same n a lt) in
                let was : produced c (get_or n c.from 0) ≡ produced c (get_or n a 0) = ap (λ k. produced c (get_or n k 0)) from in
                let more = gives from in
                omega arith
            | inr other ↦
                let gave : l2 ≡ l1 = second ∙ ap (λ b. cond b (l1 + in_) l1) (ne_eqb c.from a other) in
                let put : produced c (get_or (fired n a) c.from 0) ≡ produced c (get_or n c.from 0) = ap (produced c) (fired_other n a c.from other) in
                omega arith
          ]
      | inr apart ↦
          let took : l1 ≡ l0 = first ∙ ap (λ b. cond b (l0 - out) l0) (ne_eqb c.to a apart) in
          let gone : consumed c (get_or (fired n a) c.to 0) ≡ consumed c (get_or n c.to 0) = ap (consumed c) (fired_other n a c.to apart) in
          elim (same_or_not c.from a) [
            | inl from ↦
                let gave : l2 ≡ l1 + in_ = second ∙ ap (λ b. cond b (l1 + in_) l1) (eq-eqb c.from a from) in
                let put : produced c (get_or (fired n a) c.from 0) ≡ produced c (suc (get_or n a 0)) = ap (λ k. produced c (get_or (fired n a) k 0)) from
                ∙ ap (produced c) (fired_same n a lt) in
                let was : produced c (get_or n c.from 0) ≡ produced c (get_or n a 0) = ap (λ k. produced c (get_or n k 0)) from in
                let more = gives from in
                omega arith
            | inr other ↦
                let gave : l2 ≡ l1 = second ∙ ap (λ b. cond b (l1 + in_) l1) (ne_eqb c.from a other) in
                let put : produced c (get_or (fired n a) c.from 0) ≡ produced c (get_or n c.from 0) = ap (produced c) (fired_other n a c.from other) in
                omega arith
          ]
    ]

pub takes_now : (actors : List Actor) (channels : List Channel) (q n : List ℕ) (a phase i : ℕ) (c : Channel) → IsPhased actors channels q
    → phase ≡ get_or n a 0 % phases_of actors a → slice_get channels i ≡ Some c → c.to ≡ a → consumption c (get_or n a 0) ≡ get_or c.consume phase 0
takes_now actors channels q n a phase i c phased now at to =
    takes_in_phase actors channels q i (get_or n a 0) phase c phased at (now ∙ ap (λ k. get_or n a 0 % phases_of actors k) (sym to))

pub gives_now : (actors : List Actor) (channels : List Channel) (q n : List ℕ) (a phase i : ℕ) (c : Channel) → IsPhased actors channels q
    → phase ≡ get_or n a 0 % phases_of actors a → slice_get channels i ≡ Some c → c.from ≡ a → production c (get_or n a 0) ≡ get_or c.produce phase 0
gives_now actors channels q n a phase i c phased now at from =
    gives_in_phase actors channels q i (get_or n a 0) phase c phased at (now ∙ ap (λ k. get_or n a 0 % phases_of actors k) (sym from))

-- the lengths by the rates of the firing are what the channels hold after it
pub held_next : (actors : List Actor) (channels : List Channel) (q bounds n before first mid second : List ℕ) (a phase : ℕ) → IsPhased actors channels q
    → IsReached channels q bounds n → AreHeld channels n before → CanGo channels q bounds n a → phase ≡ get_or n a 0 % phases_of actors a
    → ((i : ℕ) (c : Channel) → slice_get channels i ≡ Some c
    → get_or first i 0 ≡ cond (c.to == a) (get_or before i 0 - get_or c.consume phase 0) (get_or before i 0))
    → mid ≡ first → ((i : ℕ) (c : Channel) → slice_get channels i ≡ Some c
    → get_or second i 0 ≡ cond (c.from == a) (get_or mid i 0 + get_or c.produce phase 0) (get_or mid i 0))
    → AreHeld channels (fired n a) second
held_next actors channels q bounds n before first mid second a phase phased reached were go now took same gave i c at =
    held_by_rates channels n a i (get_or before i 0) (get_or mid i 0) (get_or second i 0) (get_or c.consume phase 0) (get_or c.produce phase 0) c go.able.exists
    (reached_fed channels q bounds n reached) at (were i c at)
    (λ to. go.able.tokens i c at to) (λ to. takes_now actors channels q n a phase i c phased now at to)
    (λ from. gives_now actors channels q n a phase i c phased now at from) (ap (λ ks. get_or ks i 0) same ∙ took i c at) (gave i c at)

-- each input holds what the firing takes
pub enough_now : (actors : List Actor) (channels : List Channel) (q bounds n before : List ℕ) (a phase : ℕ) → IsPhased actors channels q
    → AreHeld channels n before → CanGo channels q bounds n a → phase ≡ get_or n a 0 % phases_of actors a
    → (i : ℕ) (c : Channel) → slice_get channels i ≡ Some c → c.to ≡ a → get_or c.consume phase 0 ≤ get_or before i 0
enough_now actors channels q bounds n before a phase phased were go now i c at to =
    let some = go.able.tokens i c at to in
    let rate = takes_now actors channels q n a phase i c phased now at to in
    let had = were i c at in
    omega arith

-- and holds no more once it took
pub small_now : (channels : List Channel) (q n before first mid : List ℕ) (a phase : ℕ) → IsFit channels q → IsWithinAll n q → AreHeld channels n before
    → ((i : ℕ) (c : Channel) → slice_get channels i ≡ Some c
    → get_or first i 0 ≡ cond (c.to == a) (get_or before i 0 - get_or c.consume phase 0) (get_or before i 0))
    → mid ≡ first → (i : ℕ) (c : Channel) → slice_get channels i ≡ Some c → get_or mid i 0 ≤ 65535
small_now channels q n before first mid a phase fit within were took same i c at =
    let had = were i c at in
    let most = put_small channels q n i c fit at within in
    let less : get_or first i 0 ≤ get_or before i 0 = subst (λ k. k ≤ get_or before i 0) (sym (took i c at)) (either (c.to == a)) in
    let here = ap (λ ks. get_or ks i 0) same in
    omega arith
  where
    either : (b : Bool) → cond b (get_or before i 0 - get_or c.consume phase 0) (get_or before i 0) ≤ get_or before i 0
    either true = omega arith
    either false = omega arith

-- a channel of this number
pub there : (channels : List Channel) (i : ℕ) → i < length channels → (c : Channel) × (slice_get channels i ≡ Some c)
there [] i lt = absurd (omega arith)
there (x ∷ xs) zero lt = (x, refl)
there (x ∷ xs) (suc i) lt = there xs i (omega arith)
