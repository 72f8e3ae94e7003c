-- A sequential run exists, and there is one only.
use Rattle.std.proofs.Common.{◌≡◌, ℕ, zero, suc, ◌+◌, ◌<◌, ◌≤◌, ◌⊎◌, inl, inr, List, [], ◌∷◌, length, get_or, sum, refl, ap, sym, subst, ◌∙◌, arith, Bool, true}
use Rattle.std.proofs.Common.{false, Option, Some, None, leb-false, eq-or-lt_of_le}
use Rattle.std.proofs.lemmas.Bool.{cases_Bool}
use Rattle.std.proofs.lemmas.List.{length-replicate}
use Rattle.csdf_analysis.specs.Laws.{IsWithinAll}
use Rattle.csdf_analysis.proofs.CountLemmas.{less_or_not, fired_within, fired_length, fired_sum, sum_within, none_at}
use Rattle.csdf_core.specs.declared.stage.Stage.{Stage}
use Rattle.csdf_core.specs.declared.stage.Stage.TheVariants.{Idle, Begun, Fetched, Written}
use Rattle.csdf_core.specs.Plan.{Plan}
use Rattle.csdf_core.specs.Rows.{is_short, is_full, first}
use Rattle.csdf_core.specs.State.{State, Present, present, opening}
use Rattle.csdf_core.specs.Step.{count, stage, is_spent, is_dry}
use Rattle.csdf_floor.specs.Journal.{Program}
use Rattle.csdf_core.specs.Going.{CanGo}
use Rattle.csdf_floor.specs.Sequential.{IsStuck, IsNext, fired, IsSequentialFrom}
use Rattle.csdf_floor.specs.Laws.{IsOnly, HasSequentialRun}

-- ---- one only

same_next : (plan : Plan) (p : Present) (a b : ℕ) → IsNext plan p a → IsNext plan p b → a ≡ b
same_next plan p a b na nb = elim (less_or_not a b) [
  | inl lt ↦ absurd (nb.lowest a lt na.can_go)
  | inr ge ↦ elim (eq-or-lt_of_le ge) [
    | inl same ↦ sym same
    | inr lt ↦ absurd (na.lowest b lt nb.can_go)
  ]
]

only_from : (w : Program) (s : State) (one two : List ℕ) → IsSequentialFrom w s one → IsSequentialFrom w s two → one ≡ two
only_from w s [] [] p q = refl
only_from w s [] (b ∷ two) p q = absurd (p b q.0.can_go)
only_from w s (a ∷ one) [] p q = absurd (q a p.0.can_go)
only_from w s (a ∷ one) (b ∷ two) p q =
    let same : a ≡ b = same_next w.plan (present s) a b p.0 q.0 in
    let rest : one ≡ two = only_from w (fired w s a) one two p.1 (subst (λ (c : ℕ). IsSequentialFrom w (fired w s c) two) (sym same) q.1) in
    ap (λ c. c ∷ one) same ∙ ap (λ (l : List ℕ). b ∷ l) rest

pub is_only : IsOnly
is_only w one two p q = only_from w _ one two p q

-- ---- it exists

idle_or_not : (s : Stage) → (s ≡ Idle) ⊎ (s ≡ Idle → ⊥)
idle_or_not Idle = inl refl
idle_or_not Begun = inr (λ e. absurd (cc))
idle_or_not Fetched = inr (λ e. absurd (cc))
idle_or_not Written = inr (λ e. absurd (cc))

none_or_not : (o : Option ℕ) → (o ≡ None) ⊎ (o ≡ None → ⊥)
none_or_not None = inl refl
none_or_not (Some n) = inr (λ e. absurd (cc))

not_both : (b : Bool) → b ≡ true → b ≡ false → ⊥
not_both b t f = absurd (cc)

can_or_not : (plan : Plan) (p : Present) (a : ℕ) → CanGo plan p a ⊎ (CanGo plan p a → ⊥)
can_or_not plan p a =
    elim (less_or_not a (length plan.sources)) [
      | inr ge ↦ inr (λ can. let h = can.exists in absurd (omega arith))
      | inl lt ↦ elim (idle_or_not (stage p a)) [
        | inr no_idle ↦ inr (λ can. no_idle can.idle)
        | inl idle ↦ elim (cases_Bool (is_spent plan p a)) [
          | inl t ↦ inr (λ can. not_both (is_spent plan p a) t can.not_spent)
          | inr spent ↦ elim (cases_Bool (is_dry plan p a)) [
            | inl t ↦ inr (λ can. not_both (is_dry plan p a) t can.not_dry)
            | inr dry ↦ elim (none_or_not (first (is_short a (count p a)) plan.channels p.tokens)) [
              | inr short ↦ inr (λ can. short can.not_short)
              | inl short ↦ elim (none_or_not (first (is_full a (count p a)) plan.channels p.tokens)) [
                | inr full ↦ inr (λ can. full can.not_full)
                | inl full ↦ inl (record { exists = lt; idle = idle; not_spent = spent; not_dry = dry; not_short = short; not_full = full })
              ]
            ]
          ]
        ]
      ]
    ]

-- the lowest of the first n, or none
lowest_of : (plan : Plan) (p : Present) (n : ℕ) → ((a : ℕ) × IsNext plan p a) ⊎ ((b : ℕ) → b < n → CanGo plan p b → ⊥)
lowest_of plan p zero = inr (λ b lt. absurd (omega arith))
lowest_of plan p (suc n) = elim (lowest_of plan p n) [
  | inl some ↦ inl some
  | inr none ↦ elim (can_or_not plan p n) [
    | inl can ↦ inl (n, record { can_go = can; lowest = none })
    | inr can_t ↦ inr (λ b lt can. elim (less_or_not b n) [
      | inl less ↦ none b less can
      | inr ge ↦ can_t (subst (CanGo plan p) (let e : b ≡ n = omega arith in e) can)
    ])
  ]
]

next_or_stuck : (plan : Plan) (p : Present) → ((a : ℕ) × IsNext plan p a) ⊎ IsStuck plan p
next_or_stuck plan p = elim (lowest_of plan p (length plan.sources)) [
  | inl some ↦ inl some
  | inr none ↦ inr (λ a can. none a can.exists can)
]

-- each firing leaves one fewer
left_over : (w : Program) (s : State) (a : ℕ) → length s.counts ≡ length w.plan.sources → IsWithinAll s.counts w.plan.limits → CanGo w.plan (present s) a
    → (a < length s.counts) × IsWithinAll (fired w s a).counts w.plan.limits × (sum (fired w s a).counts ≡ suc (sum s.counts))
left_over w s a len within can =
    let lt : a < length s.counts = (let there = can.exists in omega arith) in
    let less : get_or s.counts a 0 < get_or w.plan.limits a 0 = leb-false _ _ can.not_spent in
    (lt, fired_within s.counts w.plan.limits a lt within less, fired_sum s.counts a lt)

exists_from : (fuel : ℕ) (w : Program) (s : State) → length s.counts ≡ length w.plan.sources → length w.plan.limits ≡ length w.plan.sources
    → IsWithinAll s.counts w.plan.limits → sum w.plan.limits ≤ sum s.counts + fuel → (actors : List ℕ) × IsSequentialFrom w s actors
exists_from zero w s len limited within enough = elim (next_or_stuck w.plan (present s)) [
  | inr stuck ↦ ([], stuck)
  | inl next ↦
      let more = left_over w s next.0 len within next.1.can_go in
      let below : sum (fired w s next.0).counts ≤ sum w.plan.limits =
      sum_within (fired w s next.0).counts w.plan.limits (fired_length s.counts next.0 ∙ len ∙ sym limited) more.1 in
      let one = more.2 in
      absurd (omega arith)
]
exists_from (suc fuel) w s len limited within enough = elim (next_or_stuck w.plan (present s)) [
  | inr stuck ↦ ([], stuck)
  | inl next ↦
      let more = left_over w s next.0 len within next.1.can_go in
      let one = more.2 in
      let rest = exists_from fuel w (fired w s next.0) (fired_length s.counts next.0 ∙ len) limited more.1 (omega arith) in
      (next.0 ∷ rest.0, (next.1, rest.1))
]

pub has_sequential_run : HasSequentialRun
has_sequential_run w limited =
    exists_from (sum w.plan.limits) w (opening w.plan) (length-replicate (length w.plan.sources) 0) limited
    (λ b. (let none = none_at (length w.plan.sources) b in omega arith)) (omega arith)
