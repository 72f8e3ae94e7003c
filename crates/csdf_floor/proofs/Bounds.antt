-- An honest journal begins no firing that the sequential run does not finish, and finishes each of them where it ends exhausted.
use Rattle.std.proofs.Common.{◌≡◌, ℕ, suc, ◌<◌, ◌≤◌, inl, inr, List, [], ◌∷◌, length, get_or, set, refl, ap, sym, subst, ◌∙◌, arith, Option, None}
use Rattle.std.proofs.Common.{eq-or-lt_of_le}
use Rattle.std.specs.Prelude.{ℤ}
use Rattle.std.proofs.lemmas.List.{get_or-set_other, get_or-set_same, get_or_past}
use Rattle.std.proofs.lemmas.Bool.Decides.{eqb_tells}
use Rattle.csdf_analysis.proofs.CountLemmas.{less_or_not}
use Rattle.csdf_core.specs.declared.stage.Stage.TheVariants.{Idle, Begun, Fetched, Written}
use Rattle.csdf_core.specs.declared.refusal.Refusal.{Refusal}
use Rattle.csdf_core.specs.Moves.{Move}
use Rattle.csdf_core.specs.Moves.{Begin, Read, Write, Finish, Close}
use Rattle.csdf_core.specs.Plan.{Plan}
use Rattle.csdf_core.specs.State.{State, present, opening}
use Rattle.csdf_core.specs.Step.{count, stage, refusal, accepted, after, state_by, state_after}
use Rattle.csdf_core.proofs.Kept.{reads, writes, finishes}
use Rattle.csdf_core.proofs.Opening.{alike}
use Rattle.csdf_floor.specs.Journal.{Program, reads_after, reads_from, no_reads, state_of, reads_of, IsHonestMove, IsHonestFrom, IsHonest}
use Rattle.csdf_core.specs.Going.{begun_at}
use Rattle.csdf_floor.specs.Laws.{BeginsNoMore, FinishesAll}
use Rattle.csdf_core.specs.Going.{CanGo}
use Rattle.csdf_floor.specs.Sequential.{fired, IsStuck, IsSequentialFrom, state_from, sequential_state}
use Rattle.csdf_core.proofs.FiringCounts.{put_at, got_at, put, got, begun, staged_same, staged_other, staged_as, finished_as, put_begun, got_begun}
use Rattle.csdf_core.proofs.Able.{IsAble, able_later}
use Rattle.csdf_core.proofs.Booked.{IsBooked, able_of, can_of, can_begin}
use Rattle.csdf_floor.proofs.Faithful.{IsFaithful, faithful_honest, faithful_opening}
use Rattle.csdf_core.proofs.Accepting.{AllIdle}
use Rattle.csdf_floor.proofs.Sequential.{IsAtRest, rest_opening, rest_fired, rest_all, stuck_all}

-- ---- along a journal

pub after_is : (plan : Plan) (s : State) (m : Move) → refusal plan (present s) m ≡ None → after plan s m ≡ accepted plan s m
after_is plan s m none = ap (λ (o : Option Refusal). state_by o (accepted plan s m) s) none

pub faithful_after : (w : Program) (s : State) (kept : List (List ℤ)) (m : Move) → IsFaithful w s kept → IsHonestMove w s kept m
    → IsFaithful w (after w.plan s m) (reads_after w.plan s kept m)
faithful_after w s kept m f h = subst (λ (t : State). IsFaithful w t (reads_after w.plan s kept m)) (sym (after_is w.plan s m h.accepted))
    (faithful_honest w s kept m f h)

-- what the end of a journal has
pub faithful_from : (w : Program) (s : State) (kept : List (List ℤ)) (ms : List Move) → IsFaithful w s kept → IsHonestFrom w s kept ms
    → IsFaithful w (state_after w.plan s ms) (reads_from w.plan s kept ms)
faithful_from w s kept [] f h = f
faithful_from w s kept (m ∷ ms) f h = faithful_from w (after w.plan s m) (reads_after w.plan s kept m) ms (faithful_after w s kept m f h.0) h.1

pub faithful_end : (w : Program) (ms : List Move) → IsHonest w ms → IsFaithful w (state_of w ms) (reads_of w ms)
faithful_end w ms h = faithful_from w (opening w.plan) (no_reads w.plan) ms (faithful_opening w) h

-- ---- it begins no more

-- counts that no actor can leave
abbrev pub Within : State → State → Type 0
Within s t = (b : ℕ) → begun s.counts s.stages b ≤ count (present t) b

-- an actor that can go where all has begun within these counts has a firing left in them
has_left : (plan : Plan) (s t : State) (a : ℕ) → IsBooked plan s → IsBooked plan t → AllIdle t → IsStuck plan (present t) → Within s t
    → CanGo plan (present s) a → count (present s) a < count (present t) a
has_left plan s t a bs bt idle stuck within can =
    let k : ℕ = count (present s) a in
    let begins : begun s.counts s.stages a ≡ k = ap (λ x. begun_at x (get_or s.counts a 0)) can.idle in
    let most : k ≤ count (present t) a = (let h = within a in omega arith) in
    elim (eq-or-lt_of_le most) [
      | inl same ↦
          let puts : (b : ℕ) → put s.counts s.stages b ≤ put t.counts t.stages b = λ b.
          (let h = within b in let l = put_begun (get_or s.stages b Idle) (get_or s.counts b 0) in
          let e : put t.counts t.stages b ≡ get_or t.counts b 0 = ap (λ x. put_at x (get_or t.counts b 0)) (idle b) in omega arith) in
          let gots : (b : ℕ) → got s.counts s.stages b ≤ got t.counts t.stages b = λ b.
          (let h = within b in let l = got_begun (get_or s.stages b Idle) (get_or s.counts b 0) in
          let e : got t.counts t.stages b ≡ get_or t.counts b 0 = ap (λ x. got_at x (get_or t.counts b 0)) (idle b) in omega arith) in
          let able = able_later plan (put s.counts s.stages) (got s.counts s.stages) (put t.counts t.stages) (got t.counts t.stages) a k puts gots
          (able_of plan s a bs can) in
          absurd (stuck a (can_of plan t a bt (idle a) (subst (λ n. IsAble plan (put t.counts t.stages) (got t.counts t.stages) a n) same able)))
      | inr less ↦ less
    ]

-- an actor that can go has a firing left
abbrev pub HasLeft : Plan → State → State → Type 0
HasLeft plan s t = (a : ℕ) → CanGo plan (present s) a → count (present s) a < count (present t) a

within_accepted : (plan : Plan) (s t : State) (m : Move) → IsBooked plan s → HasLeft plan s t → refusal plan (present s) m ≡ None → Within s t
    → Within (accepted plan s m) t
within_accepted plan s t (Begin a) bs left none within b =
    let can = can_begin plan (present s) a none in
    let lt : a < length s.stages = (let there = can.exists in let staged = bs.staged in omega arith) in
    elim (eqb_tells b a) [
      | inl e ↦ subst (λ (d : ℕ). begun s.counts (set s.stages a Begun) d ≤ get_or t.counts d 0) (sym e.1)
          (let now = staged_same begun_at s.counts s.stages a Begun lt in let less = left a can in omega arith)
      | inr e ↦ let same = staged_other begun_at s.counts s.stages a b Begun e.1 in let h = within b in omega arith
    ]
within_accepted plan s t (Read a) bs left none within b =
    let w = reads plan (present s) a none in
    let lt : a < length s.stages = (let there = w.there in let staged = bs.staged in omega arith) in
    let same = staged_as begun_at s.counts s.stages a Fetched Begun lt w.at refl b in
    let h = within b in omega arith
within_accepted plan s t (Write a v) bs left none within b =
    let w = writes plan (present s) a v none in
    let lt : a < length s.stages = (let there = w.0.there in let staged = bs.staged in omega arith) in
    let same = staged_as begun_at s.counts s.stages a Written Fetched lt w.0.at refl b in
    let h = within b in omega arith
within_accepted plan s t (Finish a) bs left none within b =
    let w = finishes plan (present s) a none in
    let lt : a < length s.stages = (let there = w.there in let staged = bs.staged in omega arith) in
    let ltc : a < length s.counts = (let there = w.there in let counted = bs.counted in omega arith) in
    let same = finished_as begun_at s.counts s.stages a ltc lt w.at (λ n. refl) b in
    let h = within b in omega arith
within_accepted plan s t (Close c) bs left none within b = within b

-- counts that no actor can leave at any state of a journal
pub within_from : (w : Program) (s t : State) (kept : List (List ℤ)) (ms : List Move) → IsFaithful w s kept → IsHonestFrom w s kept ms
    → ((u : State) → IsBooked w.plan u → Within u t → HasLeft w.plan u t) → Within s t → Within (state_after w.plan s ms) t
within_from w s t kept [] f h left within = within
within_from w s t kept (m ∷ ms) f h left within =
    within_from w (after w.plan s m) t (reads_after w.plan s kept m) ms (faithful_after w s kept m f h.0) h.1 left
    (subst (λ (u : State). Within u t) (sym (after_is w.plan s m h.0.accepted))
    (within_accepted w.plan s t m f.booked (left s f.booked within) h.0.accepted within))

pub within_end : (w : Program) (ms : List Move) (t : State) → IsHonest w ms → ((u : State) → IsBooked w.plan u → Within u t → HasLeft w.plan u t)
    → Within (state_after w.plan (opening w.plan) ms) t
within_end w ms t h left =
    within_from w (opening w.plan) t (no_reads w.plan) ms (faithful_opening w) h left
    (λ b. (let none : begun (opening w.plan).counts (opening w.plan).stages b ≡ 0 =
    ap (λ x. begun_at x (get_or (opening w.plan).counts b 0)) (alike (length w.plan.sources) b Idle) ∙ alike (length w.plan.sources) b 0 in omega arith))

pub within_sequential : (w : Program) (ms : List Move) (actors : List ℕ) → IsHonest w ms → IsSequentialFrom w (opening w.plan) actors
    → Within (state_after w.plan (opening w.plan) ms) (sequential_state w actors)
within_sequential w ms actors h p =
    let r = rest_all w (opening w.plan) actors (rest_opening w) p in
    within_end w ms (sequential_state w actors) h (λ u booked within a can.
    has_left w.plan u (sequential_state w actors) a booked r.faithful.booked r.idle (stuck_all w (opening w.plan) actors p) within can)

pub begins_no_more : BeginsNoMore
begins_no_more w journal actors a h p = within_sequential w journal actors h p a

-- ---- it finishes all

pub idle_all : (plan : Plan) (s : State) → IsBooked plan s → ((a : ℕ) → a < length plan.sources → stage (present s) a ≡ Idle) → AllIdle s
idle_all plan s booked idle a = elim (less_or_not a (length plan.sources)) [
  | inl lt ↦ idle a lt
  | inr ge ↦ get_or_past s.stages a Idle (let e = booked.staged in omega arith)
]

abbrev Below : State → State → Type 0
Below s t = (b : ℕ) → count (present s) b ≤ count (present t) b

below_fired : (w : Program) (s t : State) (a : ℕ) → IsBooked w.plan s → a < length w.plan.sources → Below s t → count (present s) a < count (present t) a
    → Below (fired w s a) t
below_fired w s t a booked there below less b =
    let lt : a < length s.counts = (let counted = booked.counted in omega arith) in
    elim (eqb_tells b a) [
      | inl e ↦ subst (λ (d : ℕ). get_or (set s.counts a (suc (get_or s.counts a 0))) d 0 ≤ get_or t.counts d 0) (sym e.1) (let now =
          get_or-set_same s.counts a (suc (get_or s.counts a 0)) 0 lt in omega arith)
      | inr e ↦ let now = get_or-set_other s.counts a b (suc (get_or s.counts a 0)) 0 e.1 in let h = below b in omega arith
    ]

pub below_from : (w : Program) (s t : State) (actors : List ℕ) → IsAtRest w s → IsSequentialFrom w s actors → IsBooked w.plan t → AllIdle t
    → IsStuck w.plan (present t) → Below s t → Below (state_from w s actors) t
below_from w s t [] r p bt idle stuck below = below
below_from w s t (a ∷ actors) r p bt idle stuck below =
    let within : Within s t = λ b. (let e : begun s.counts s.stages b ≡ get_or s.counts b 0 = ap (λ x. begun_at x (get_or s.counts b 0)) (r.idle b) in
    let h = below b in omega arith) in
    let less = has_left w.plan s t a r.faithful.booked bt idle stuck within p.0.can_go in
    below_from w (fired w s a) t actors (rest_fired w s a r p.0.can_go) p.1 bt idle stuck (below_fired w s t a r.faithful.booked p.0.can_go.exists below less)

pub finishes_all : FinishesAll
finishes_all w journal actors a h p exhausted =
    let t : State = state_after w.plan (opening w.plan) journal in
    let f = faithful_end w journal h in
    below_from w (opening w.plan) t actors (rest_opening w) p f.booked (idle_all w.plan t f.booked exhausted.idle) exhausted.stuck
    (λ b. (let none : count (present (opening w.plan)) b ≡ 0 = alike (length w.plan.sources) b 0 in omega arith)) a
