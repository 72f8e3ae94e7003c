-- A quiet end at which nothing but the graph and the files holds an actor back.
use Rattle.std.proofs.Common.{◌≡◌, ◌≢◌, ℕ, zero, suc, ◌+◌, ◌⊎◌, ◌==◌, ◌&&◌, ◌||◌, nat_lt, nat_le, cond, inl, inr, List, [], ◌∷◌, length, get_or, set, map}
use Rattle.std.proofs.Common.{replicate, refl, ap, sym, subst, ◌∙◌, Bool, true, false, Option, Some, None}
use Rattle.std.specs.Prelude.{ℤ, slice_index}
use Rattle.std.specs.List.{zip, position_from, AllByRecursion}
use Rattle.std.proofs.lemmas.List.{get_or-set_other}
use Rattle.std.proofs.lemmas.Bool.Decides.{eqb_tells}
use Rattle.csdf_core.specs.declared.stage.Stage.{Stage}
use Rattle.csdf_core.specs.declared.stage.Stage.TheVariants.{Idle, Begun, Fetched, Written}
use Rattle.csdf_core.specs.declared.refusal.Refusal.{Refusal}
use Rattle.csdf_core.specs.declared.refusal.Refusal.TheVariants.{Stopped, NoCells}
use Rattle.csdf_core.specs.Moves.{Move}
use Rattle.csdf_core.specs.Moves.{Begin, Read, Write, Finish, Close}
use Rattle.csdf_core.specs.Plan.{Channel, Plan}
use Rattle.csdf_core.specs.Rows.{is_closed, first}
use Rattle.csdf_core.specs.State.{State, Present, present, opening}
use Rattle.csdf_core.specs.Step.{IsQuiet, is_over, is_source, is_spent, is_dry, is_stopped, lacks_cells, given, refusal, first_of, when, accepted, after}
use Rattle.csdf_core.specs.Step.{state_after}
use Rattle.csdf_core.proofs.Kept.{reads, writes, finishes}
use Rattle.csdf_floor.specs.Journal.{Program, reads_after, no_reads, IsHonestMove, IsHonestFrom, IsHonest}
use Rattle.csdf_core.specs.Going.{CanGo}
use Rattle.csdf_floor.specs.Laws.{QuietIsExhausted}
use Rattle.csdf_core.proofs.Booked.{can_begin}
use Rattle.csdf_core.proofs.Accepting.{begin_is}
use Rattle.csdf_floor.proofs.Bounds.{after_is}

-- ---- a closed channel's producer makes no firing more

-- the same test by counts
abbrev over_at : Plan → ℕ → ℕ → Bool
over_at plan b k = nat_le (slice_index plan.limits b) k || (is_source plan b && nat_lt (slice_index plan.supplies b) (given plan b (suc k)))

-- the actor rests for good
abbrev pub IsDone : Plan → List ℕ → List Stage → ℕ → Type 0
IsDone plan counts stages b = (get_or stages b Idle ≡ Idle) × (over_at plan b (get_or counts b 0) ≡ true)

abbrev pub AreDone : Plan → List ℕ → List Stage → List Channel → List Bool → Type 0
AreDone plan counts stages cs os = AllByRecursion (λ (row : Channel × Bool). row.1 ≡ false → IsDone plan counts stages row.0.from) (zip cs os)

-- a move of an actor that isn't done
done_stays : (plan : Plan) (counts counts2 : List ℕ) (stages stages2 : List Stage) (a : ℕ) (cs : List Channel) (os : List Bool)
    → ((b : ℕ) → b ≢ a → (get_or stages2 b Idle ≡ get_or stages b Idle) × (get_or counts2 b 0 ≡ get_or counts b 0)) → (IsDone plan counts stages a → ⊥)
    → AreDone plan counts stages cs os → AreDone plan counts2 stages2 cs os
done_stays plan counts counts2 stages stages2 a [] os others not_done all = tt
done_stays plan counts counts2 stages stages2 a (c ∷ cs) [] others not_done all = tt
done_stays plan counts counts2 stages stages2 a (c ∷ cs) (o ∷ os) others not_done all = (
  (λ shut. let d = all.0 shut in elim (eqb_tells c.from a) [
    | inl e ↦ absurd (not_done (subst (IsDone plan counts stages) e.1 d))
    | inr e ↦ let o = others c.from e.1 in (o.0 ∙ d.0, ap (over_at plan c.from) o.1 ∙ d.1)
  ]),
  done_stays plan counts counts2 stages stages2 a cs os others not_done all.1,
)

done_shut : (plan : Plan) (counts : List ℕ) (stages : List Stage) (cs : List Channel) (os : List Bool) (c : ℕ)
    → IsDone plan counts stages (get_or (map (λ (d : Channel). d.from) cs) c 0) → AreDone plan counts stages cs os
    → AreDone plan counts stages cs (set os c false)
done_shut plan counts stages [] os c d all = tt
done_shut plan counts stages (e ∷ cs) [] c d all = tt
done_shut plan counts stages (e ∷ cs) (o ∷ os) zero d all = ((λ shut. d), all.1)
done_shut plan counts stages (e ∷ cs) (o ∷ os) (suc c) d all = (all.0, done_shut plan counts stages cs os c d all.1)

no_idle : (x : Stage) → x ≡ Begun ⊎ (x ≡ Fetched ⊎ x ≡ Written) → x ≡ Idle → ⊥
no_idle x (inl e) i = absurd (cc)
no_idle x (inr (inl e)) i = absurd (cc)
no_idle x (inr (inr e)) i = absurd (cc)

either_off : (b c : Bool) → b ≡ false → c ≡ false → (b || c) ≡ true → ⊥
either_off true c e f t = absurd (cc)
either_off false true e f t = absurd (cc)
either_off false false e f t = absurd (cc)

pub not_over : (plan : Plan) (p : Present) (a : ℕ) → CanGo plan p a → is_over plan p a ≡ true → ⊥
not_over plan p a can t = either_off (is_spent plan p a) (is_dry plan p a) can.not_spent can.not_dry t

abbrev pub AreDoneIn : Plan → State → Type 0
AreDoneIn plan s = AreDone plan s.counts s.stages plan.channels s.opens

done_honest : (w : Program) (s : State) (kept : List (List ℤ)) (m : Move) → IsHonestMove w s kept m → AreDoneIn w.plan s
    → AreDoneIn w.plan (accepted w.plan s m)
done_honest w s kept (Begin a) h all =
    let can = can_begin w.plan (present s) a h.accepted in
    done_stays w.plan s.counts s.counts s.stages (set s.stages a Begun) a w.plan.channels s.opens (λ b ne. (get_or-set_other s.stages a b Begun Idle ne, refl))
    (λ d. not_over w.plan (present s) a can d.1) all
done_honest w s kept (Read a) h all =
    let r = reads w.plan (present s) a h.accepted in
    done_stays w.plan s.counts s.counts s.stages (set s.stages a Fetched) a w.plan.channels s.opens
    (λ b ne. (get_or-set_other s.stages a b Fetched Idle ne, refl)) (λ d. no_idle _ (inl r.at) d.0) all
done_honest w s kept (Write a v) h all =
    let r = writes w.plan (present s) a v h.accepted in
    done_stays w.plan s.counts s.counts s.stages (set s.stages a Written) a w.plan.channels s.opens
    (λ b ne. (get_or-set_other s.stages a b Written Idle ne, refl)) (λ d. no_idle _ (inr (inl r.0.at)) d.0) all
done_honest w s kept (Finish a) h all =
    let r = finishes w.plan (present s) a h.accepted in
    done_stays w.plan s.counts (set s.counts a (suc (get_or s.counts a 0))) s.stages (set s.stages a Idle) a w.plan.channels s.opens
    (λ b ne. (get_or-set_other s.stages a b Idle Idle ne, get_or-set_other s.counts a b (suc (get_or s.counts a 0)) 0 ne)) (λ d. no_idle _ (inr (inr r.at)) d.0)
    all
done_honest w s kept (Close c) h all = done_shut w.plan s.counts s.stages w.plan.channels s.opens c (h.just.0, h.just.1) all

done_from : (w : Program) (s : State) (kept : List (List ℤ)) (ms : List Move) → IsHonestFrom w s kept ms → AreDoneIn w.plan s
    → AreDoneIn w.plan (state_after w.plan s ms)
done_from w s kept [] h all = all
done_from w s kept (m ∷ ms) h all =
    done_from w (after w.plan s m) (reads_after w.plan s kept m) ms h.1
    (subst (AreDoneIn w.plan) (sym (after_is w.plan s m h.0.accepted)) (done_honest w s kept m h.0 all))

pub done_opening : (plan : Plan) (counts : List ℕ) (stages : List Stage) (cs : List Channel) (n : ℕ) → AreDone plan counts stages cs (replicate n true)
done_opening plan counts stages [] n = tt
done_opening plan counts stages (c ∷ cs) zero = tt
done_opening plan counts stages (c ∷ cs) (suc n) = ((λ shut. absurd (cc)), done_opening plan counts stages cs n)

pub done_end : (w : Program) (ms : List Move) → IsHonest w ms → AreDoneIn w.plan (state_after w.plan (opening w.plan) ms)
done_end w ms h = done_from w (opening w.plan) (no_reads w.plan) ms h
    (done_opening w.plan (opening w.plan).counts (opening w.plan).stages w.plan.channels (length w.plan.channels))

-- ---- what refuses an actor that could go

row_open : (a : ℕ) (c : Channel) (o : Bool) → (o ≡ false → c.from ≡ a → ⊥) → is_closed a (c, o) ≡ false
row_open a c true h = and_no (c.from == a)
  where
    and_no : (b : Bool) → (b && false) ≡ false
    and_no true = refl
    and_no false = refl
row_open a c false h = elim (eqb_tells c.from a) [
  | inl e ↦ absurd (h refl e.1)
  | inr e ↦ ap (λ b. b && true) e.0
]

none_closed : (plan : Plan) (counts : List ℕ) (stages : List Stage) (a : ℕ) (cs : List Channel) (os : List Bool) (i : ℕ) → (IsDone plan counts stages a → ⊥)
    → AreDone plan counts stages cs os → position_from (is_closed a) i (zip cs os) ≡ None
none_closed plan counts stages a [] os i not_done all = refl
none_closed plan counts stages a (c ∷ cs) [] i not_done all = refl
none_closed plan counts stages a (c ∷ cs) (o ∷ os) i not_done all =
    ap (λ (b : Bool). cond b (Some i) (position_from (is_closed a) (i + 1) (zip cs os)))
    (row_open a c o (λ shut from. not_done (subst (IsDone plan counts stages) from (all.0 shut))))
    ∙ none_closed plan counts stages a cs os (i + 1) not_done all.1

last_two : (b c : Bool) → first_of (when b Stopped ∷ when c NoCells ∷ []) ≢ None → (first_of (when b Stopped ∷ when c NoCells ∷ []) ≡ Some Stopped)
    ⊎ (first_of (when b Stopped ∷ when c NoCells ∷ []) ≡ Some NoCells)
last_two true c ne = inl refl
last_two false true ne = inr refl
last_two false false ne = absurd (ne refl)

-- an actor that can go has no closed output
pub no_output_closed : (plan : Plan) (s : State) (a : ℕ) → AreDoneIn plan s → CanGo plan (present s) a
    → first (is_closed a) plan.channels (present s).opens ≡ None
no_output_closed plan s a all can = none_closed plan s.counts s.stages a plan.channels s.opens 0 (λ d. not_over plan (present s) a can d.1) all

held_back : (plan : Plan) (s : State) (a : ℕ) → AreDoneIn plan s → CanGo plan (present s) a → refusal plan (present s) (Begin a) ≢ None
    → (refusal plan (present s) (Begin a) ≡ Some Stopped) ⊎ (refusal plan (present s) (Begin a) ≡ Some NoCells)
held_back plan s a all can refused =
    let is = begin_is plan (present s) a (no_output_closed plan s a all can) can in
    subst (λ (o : Option Refusal). (o ≡ Some Stopped)
    ⊎ (o ≡ Some NoCells)) (sym is) (last_two (is_stopped plan (present s)) (lacks_cells plan (present s) a) (λ e. refused (is ∙ e)))

pub quiet_is_exhausted : QuietIsExhausted
unfolding IsQuiet
quiet_is_exhausted w journal h quiet why =
    let s : State = state_after w.plan (opening w.plan) journal in
    record {
      idle = λ a lt. (quiet a lt).0;
      stuck = λ a can. elim why [
        | inl spent ↦ let t = spent a can.exists in let f = can.not_spent in absurd (cc)
        | inr free ↦ elim (held_back w.plan s a (done_end w journal h) can (quiet a can.exists).1) [
          | inl e ↦ (free a can.exists).0 e
          | inr e ↦ (free a can.exists).1 e
        ]
      ];
    }
