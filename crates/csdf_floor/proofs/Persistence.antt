-- Moves only let firings go on; so an actor that can go still can after moves of others.
use Rattle.std.proofs.Common.{◌≡◌, ℕ, suc, ◌<◌, ◌≤◌, inl, inr, List, [], ◌∷◌, length, get_or, set, refl, ap, sym, subst, ◌∙◌, arith, Option, Some, None}
use Rattle.std.proofs.lemmas.List.{get_or-set_other}
use Rattle.std.proofs.lemmas.Bool.Decides.{eqb_tells}
use Rattle.csdf_core.specs.declared.stage.Stage.{Stage}
use Rattle.csdf_core.specs.declared.stage.Stage.TheVariants.{Idle, Begun, Fetched, Written}
use Rattle.csdf_core.specs.declared.refusal.Refusal.{Refusal}
use Rattle.csdf_core.specs.Moves.{Move}
use Rattle.csdf_core.specs.Moves.{Begin, Read, Write, Finish, Close}
use Rattle.csdf_core.specs.Plan.{Plan}
use Rattle.csdf_core.specs.State.{State, present, opening}
use Rattle.csdf_core.specs.Step.{count, stage, refusal, accepted, after, state_by, state_after}
use Rattle.csdf_core.proofs.Kept.{reads, writes, finishes}
use Rattle.csdf_floor.specs.Laws.{IsMoveOf, Persists}
use Rattle.csdf_core.specs.Going.{CanGo}
use Rattle.csdf_core.proofs.FiringCounts.{put_at, got_at, tell, put, got, staged_same, staged_other, finished_as}
use Rattle.csdf_core.proofs.Able.{IsAble, able_later}
use Rattle.csdf_core.proofs.Booked.{IsBooked, booked_opening, booked_accepted, able_of, can_of, can_begin}

-- a new stage at which no count is lower
staged_more : (f : Stage → ℕ → ℕ) (counts : List ℕ) (stages : List Stage) (a : ℕ) (x y : Stage) → a < length stages → get_or stages a Idle ≡ y
    → ((n : ℕ) → f y n ≤ f x n) → (b : ℕ) → tell f counts stages b ≤ tell f counts (set stages a x) b
staged_more f counts stages a x y lt at le b = elim (eqb_tells b a) [
  | inl e ↦ subst (λ (d : ℕ). tell f counts stages d ≤ tell f counts (set stages a x) d) (sym e.1)
      (let now = staged_same f counts stages a x lt in let was : tell f counts stages a ≡ f y (get_or counts a 0) = ap (λ s. f s (get_or counts a 0)) at in
      let more = le (get_or counts a 0) in omega arith)
  | inr e ↦ let same = staged_other f counts stages a b x e.1 in omega arith
]

-- a count by stages that no move lowers
pub record IsRising (f : Stage → ℕ → ℕ) : Type 0 where
  pub begin : (n : ℕ) → f Idle n ≤ f Begun n
  pub read : (n : ℕ) → f Begun n ≤ f Fetched n
  pub write : (n : ℕ) → f Fetched n ≤ f Written n
  pub finish : (n : ℕ) → f Idle (suc n) ≡ f Written n

pub put_rises : IsRising put_at
put_rises = record { begin = λ n. omega arith; read = λ n. omega arith; write = λ n. omega arith; finish = λ n. refl }

pub got_rises : IsRising got_at
got_rises = record { begin = λ n. omega arith; read = λ n. omega arith; write = λ n. omega arith; finish = λ n. refl }

pub rises : (f : Stage → ℕ → ℕ) (plan : Plan) (s : State) (m : Move) → IsRising f → IsBooked plan s → refusal plan (present s) m ≡ None → (b : ℕ)
    → tell f s.counts s.stages b ≤ tell f (accepted plan s m).counts (accepted plan s m).stages b
rises f plan s (Begin a) r booked none b =
    let can = can_begin plan (present s) a none in
    let lt : a < length s.stages = (let there = can.exists in let staged = booked.staged in omega arith) in
    staged_more f s.counts s.stages a Begun Idle lt can.idle r.begin b
rises f plan s (Read a) r booked none b =
    let w = reads plan (present s) a none in
    let lt : a < length s.stages = (let there = w.there in let staged = booked.staged in omega arith) in
    staged_more f s.counts s.stages a Fetched Begun lt w.at r.read b
rises f plan s (Write a v) r booked none b =
    let w = writes plan (present s) a v none in
    let lt : a < length s.stages = (let there = w.0.there in let staged = booked.staged in omega arith) in
    staged_more f s.counts s.stages a Written Fetched lt w.0.at r.write b
rises f plan s (Finish a) r booked none b =
    let w = finishes plan (present s) a none in
    let lt : a < length s.stages = (let there = w.there in let staged = booked.staged in omega arith) in
    let ltc : a < length s.counts = (let there = w.there in let counted = booked.counted in omega arith) in
    let same = finished_as f s.counts s.stages a ltc lt w.at r.finish b in
    omega arith
rises f plan s (Close c) r booked none b = omega arith

-- the others stay where they are
others_stay : (plan : Plan) (s : State) (m : Move) (a : ℕ) → (IsMoveOf a m → ⊥) → (stage (present (accepted plan s m)) a ≡ stage (present s) a)
    × (count (present (accepted plan s m)) a ≡ count (present s) a)
others_stay plan s (Begin b) a other = (get_or-set_other s.stages b a Begun Idle (λ e. other (sym e)), refl)
others_stay plan s (Read b) a other = (get_or-set_other s.stages b a Fetched Idle (λ e. other (sym e)), refl)
others_stay plan s (Write b v) a other = (get_or-set_other s.stages b a Written Idle (λ e. other (sym e)), refl)
others_stay plan s (Finish b) a other = (
  get_or-set_other s.stages b a Idle Idle (λ e. other (sym e)),
  get_or-set_other s.counts b a (suc (get_or s.counts b 0)) 0 (λ e. other (sym e)),
)
others_stay plan s (Close c) a other = (refl, refl)

pub persists_accepted : (plan : Plan) (s : State) (m : Move) (a : ℕ) → IsBooked plan s → refusal plan (present s) m ≡ None → (IsMoveOf a m → ⊥)
    → CanGo plan (present s) a → CanGo plan (present (accepted plan s m)) a
persists_accepted plan s m a booked none other can =
    let t : State = accepted plan s m in
    let stays = others_stay plan s m a other in
    let able = able_of plan s a booked can in
    let still = able_later plan (put s.counts s.stages) (got s.counts s.stages) (put t.counts t.stages) (got t.counts t.stages) a (count (present s) a)
    (rises put_at plan s m put_rises booked none) (rises got_at plan s m got_rises booked none) able in
    can_of plan t a (booked_accepted plan s m booked none) (stays.0 ∙ can.idle)
    (subst (λ k. IsAble plan (put t.counts t.stages) (got t.counts t.stages) a k) (sym stays.1) still)

-- refused moves too
booked_by : (plan : Plan) (s : State) (m : Move) (o : Option Refusal) → o ≡ refusal plan (present s) m → IsBooked plan s
    → IsBooked plan (state_by o (accepted plan s m) s)
booked_by plan s m None e booked = booked_accepted plan s m booked (sym e)
booked_by plan s m (Some why) e booked = booked

pub booked_all : (plan : Plan) (s : State) (ms : List Move) → IsBooked plan s → IsBooked plan (state_after plan s ms)
booked_all plan s [] booked = booked
booked_all plan s (m ∷ ms) booked = booked_all plan (after plan s m) ms (booked_by plan s m (refusal plan (present s) m) refl booked)

persists_by : (plan : Plan) (s : State) (m : Move) (a : ℕ) (o : Option Refusal) → o ≡ refusal plan (present s) m → IsBooked plan s → (IsMoveOf a m → ⊥)
    → CanGo plan (present s) a → CanGo plan (present (state_by o (accepted plan s m) s)) a
persists_by plan s m a None e booked other can = persists_accepted plan s m a booked (sym e) other can
persists_by plan s m a (Some why) e booked other can = can

pub persists : Persists
persists plan moves m a other can =
    let s : State = state_after plan (opening plan) moves in
    persists_by plan s m a (refusal plan (present s) m) refl (booked_all plan (opening plan) moves (booked_opening plan)) other can
