-- That the moves of a firing are accepted, from the step's tests: the other way round than what an accepted move says.
use Rattle.std.proofs.Common.{◌≡◌, ℕ, zero, suc, ◌+◌, ◌-◌, ◌<◌, ◌==◌, ◌&&◌, not, cond, inl, inr, List, [], ◌∷◌, length, get_or, set, replicate, refl, ap, sym}
use Rattle.std.proofs.Common.{subst, ◌∙◌, Bool, true, false, Option, Some, None, eq-eqb, lt-ltb}
use Rattle.std.specs.Prelude.{ℤ, option_map}
use Rattle.std.specs.List.{zip, position_from}
use Rattle.std.proofs.lemmas.List.{get_or-set_other}
use Rattle.std.proofs.lemmas.Bool.Decides.{eqb_tells}
use Rattle.csdf_core.specs.declared.stage.Stage.{Stage}
use Rattle.csdf_core.specs.declared.stage.Stage.TheVariants.{Idle, Begun, Fetched, Written}
use Rattle.csdf_core.specs.declared.refusal.Refusal.{Refusal}
use Rattle.csdf_core.specs.declared.refusal.Refusal.TheVariants.{Unknown, Busy, Spent, Closed, Dry, Short, Full, Stopped, NoCells, NotBegun, NotRead}
use Rattle.csdf_core.specs.declared.refusal.Refusal.TheVariants.{WrongCount, NotWritten}
use Rattle.csdf_core.specs.Moves.{Move}
use Rattle.csdf_core.specs.Moves.{Begin, Read, Write, Finish}
use Rattle.csdf_core.specs.Plan.{Channel, Plan, HasAmpleCells}
use Rattle.csdf_core.specs.Rows.{is_closed, is_short, is_full, first, gift}
use Rattle.csdf_core.specs.State.{State, Present, present}
use Rattle.csdf_core.specs.Step.{count, stage, is_stage, exists, is_spent, is_dry, is_stopped, lacks_cells, given, refusal, first_of, when, accepted, after}
use Rattle.csdf_core.specs.Step.{state_by, firing_table}
use Rattle.csdf_core.proofs.Ample.{none_lacking}
use Rattle.csdf_core.specs.Ready.{IsFit}
use Rattle.csdf_core.proofs.Totals.{gift-given}
use Rattle.csdf_core.specs.Going.{CanGo}
use Rattle.csdf_core.proofs.FiringCounts.{tell}

abbrev pub AllIdle : State → Type 0
AllIdle s = (a : ℕ) → stage (present s) a ≡ Idle

pub idle_count : (f : Stage → ℕ → ℕ) (t : State) → AllIdle t → ((n : ℕ) → f Idle n ≡ n) → (b : ℕ) → tell f t.counts t.stages b ≡ count (present t) b
idle_count f t idle same b = ap (λ x. f x (get_or t.counts b 0)) (idle b) ∙ same _

pub after_is : (plan : Plan) (s : State) (m : Move) → refusal plan (present s) m ≡ None → after plan s m ≡ accepted plan s m
after_is plan s m none = ap (λ (o : Option Refusal). state_by o (accepted plan s m) s) none

-- the state after a whole firing
abbrev pub fired_with : Plan → State → ℕ → List ℤ → State
fired_with plan s a v = accepted plan (accepted plan (accepted plan (accepted plan s (Begin a)) (Read a)) (Write a v)) (Finish a)

pub idle_again : (plan : Plan) (s : State) (a : ℕ) (v : List ℤ) → AllIdle s → AllIdle (fired_with plan s a v)
idle_again plan s a v idle b = elim (eqb_tells b a) [
  | inl e ↦ subst (λ (d : ℕ). get_or (set (set (set (set s.stages a Begun) a Fetched) a Written) a Idle) d Idle ≡ Idle) (sym e.1)
      (set_idle (set (set (set s.stages a Begun) a Fetched) a Written) a)
  | inr e ↦
      get_or-set_other (set (set (set s.stages a Begun) a Fetched) a Written) a b Idle Idle e.1
      ∙ get_or-set_other (set (set s.stages a Begun) a Fetched) a b Written Idle e.1
      ∙ get_or-set_other (set s.stages a Begun) a b Fetched Idle e.1
      ∙ get_or-set_other s.stages a b Begun Idle e.1
      ∙ idle b
]
  where
    set_idle : (ss : List Stage) (i : ℕ) → get_or (set ss i Idle) i Idle ≡ Idle
    set_idle [] i = refl
    set_idle (x ∷ ss) zero = refl
    set_idle (x ∷ ss) (suc i) = set_idle ss i

-- ---- the first three tests that a begin passes

skip : (o : Option Refusal) (table : List (Option Refusal)) → o ≡ None → first_of (o ∷ table) ≡ first_of table
skip o table e = ap (λ (x : Option Refusal). first_of (x ∷ table)) e

pub begin_known : (plan : Plan) (p : Present) (a : ℕ) → a < length plan.sources → refusal plan p (Begin a) ≡ first_of (firing_table plan p a)
begin_known plan p a there = skip (when (not (exists plan a)) Unknown) (firing_table plan p a)
    (ap (λ b. when (not b) Unknown) (lt-ltb a (length plan.sources) there))

idle_stage : (x : Stage) → x ≡ Idle → not (is_stage x Idle) ≡ false
idle_stage x e = ap (λ y. not (is_stage y Idle)) e

and_no : (b : Bool) → (b && false) ≡ false
and_no true = refl
and_no false = refl

-- no channel is closed
none_closed : (a : ℕ) (cs : List Channel) (n i : ℕ) → position_from (is_closed a) i (zip cs (replicate n true)) ≡ None
none_closed a [] n i = refl
none_closed a (c ∷ cs) zero i = refl
none_closed a (c ∷ cs) (suc n) i = ap (λ (b : Bool). cond b (Some i) (position_from (is_closed a) (i + 1) (zip cs (replicate n true)))) (and_no (c.from == a))
    ∙ none_closed a cs n (i + 1)

-- an actor that can go, with no closed output, is refused for the limit on all firings or for want of cells alone
pub begin_is : (plan : Plan) (p : Present) (a : ℕ) → first (is_closed a) plan.channels p.opens ≡ None → CanGo plan p a
    → refusal plan p (Begin a) ≡ first_of (when (is_stopped plan p) Stopped ∷ when (lacks_cells plan p a) NoCells ∷ [])
begin_is plan p a closed can =
    let k : ℕ = count p a in
    let t8 : List (Option Refusal) = when (is_stopped plan p) Stopped ∷ when (lacks_cells plan p a) NoCells ∷ [] in
    let t7 : List (Option Refusal) = option_map Full (first (is_full a k) plan.channels p.tokens) ∷ t8 in
    let t6 : List (Option Refusal) = option_map Short (first (is_short a k) plan.channels p.tokens) ∷ t7 in
    let t5 : List (Option Refusal) = when (is_dry plan p a) Dry ∷ t6 in
    let t4 : List (Option Refusal) = option_map Closed (first (is_closed a) plan.channels p.opens) ∷ t5 in
    let t3 : List (Option Refusal) = when (is_spent plan p a) Spent ∷ t4 in
    begin_known plan p a can.exists
    ∙ skip (when (not (is_stage (stage p a) Idle)) Busy) t3 (ap (λ b. when b Busy) (idle_stage (stage p a) can.idle))
    ∙ skip (when (is_spent plan p a) Spent) t4 (ap (λ b. when b Spent) can.not_spent)
    ∙ skip (option_map Closed (first (is_closed a) plan.channels p.opens)) t5 (ap (option_map Closed) closed)
    ∙ skip (when (is_dry plan p a) Dry) t6 (ap (λ b. when b Dry) can.not_dry)
    ∙ skip (option_map Short (first (is_short a k) plan.channels p.tokens)) t7 (ap (option_map Short) can.not_short)
    ∙ skip (option_map Full (first (is_full a k) plan.channels p.tokens)) t8 (ap (option_map Full) can.not_full)

lacks_not : (b : Bool) → (first_of (when false Stopped ∷ when b NoCells ∷ []) ≡ Some NoCells → ⊥) → b ≡ false
lacks_not true h = absurd (h refl)
lacks_not false h = refl

-- nothing refuses an actor that can go, with no closed output, where the limit on all firings isn't reached
pub begins_free : (plan : Plan) (p : Present) (a : ℕ) → first (is_closed a) plan.channels p.opens ≡ None → is_stopped plan p ≡ false → HasAmpleCells plan
    → IsFit plan p → CanGo plan p a
    → refusal plan p (Begin a) ≡ None
begins_free plan p a closed go_on ample fit can =
    let is : refusal plan p (Begin a) ≡ first_of (when false Stopped ∷ when (lacks_cells plan p a) NoCells ∷ []) =
    begin_is plan p a closed can ∙ ap (λ b. first_of (when b Stopped ∷ when (lacks_cells plan p a) NoCells ∷ [])) go_on in
    let enough : lacks_cells plan p a ≡ false =
    lacks_not (lacks_cells plan p a) (λ e. none_lacking plan p a can.exists fit ample (sym (begin_known plan p a can.exists) ∙ is ∙ e)) in
    is ∙ ap (λ b. first_of (when false Stopped ∷ when b NoCells ∷ [])) enough

-- with every channel open none of its outputs is closed
pub all_open : (plan : Plan) (s : State) (a : ℕ) → s.opens ≡ replicate (length plan.channels) true → first (is_closed a) plan.channels (present s).opens ≡ None
all_open plan s a all = ap (λ (os : List Bool). first (is_closed a) plan.channels os) all ∙ none_closed a plan.channels (length plan.channels) 0

-- ---- the other three moves

known : (plan : Plan) (a : ℕ) → a < length plan.sources → when (not (exists plan a)) Unknown ≡ None
known plan a there = ap (λ b. when (not b) Unknown) (lt-ltb a (length plan.sources) there)

at_stage : (p : Present) (a : ℕ) (x : Stage) (why : Refusal) → is_stage x x ≡ true → stage p a ≡ x → when (not (is_stage (stage p a) x)) why ≡ None
at_stage p a x why same at = ap (λ y. when (not (is_stage y x)) why) at ∙ ap (λ b. when (not b) why) same

pub reads_free : (plan : Plan) (p : Present) (a : ℕ) → a < length plan.sources → stage p a ≡ Begun → refusal plan p (Read a) ≡ None
reads_free plan p a there at =
    skip (when (not (exists plan a)) Unknown) (when (not (is_stage (stage p a) Begun)) NotBegun ∷ []) (known plan a there)
    ∙ skip (when (not (is_stage (stage p a) Begun)) NotBegun) [] (at_stage p a Begun NotBegun refl at)

pub finishes_free : (plan : Plan) (p : Present) (a : ℕ) → a < length plan.sources → stage p a ≡ Written → refusal plan p (Finish a) ≡ None
finishes_free plan p a there at =
    skip (when (not (exists plan a)) Unknown) (when (not (is_stage (stage p a) Written)) NotWritten ∷ []) (known plan a there)
    ∙ skip (when (not (is_stage (stage p a) Written)) NotWritten) [] (at_stage p a Written NotWritten refl at)

pub writes_free : (plan : Plan) (p : Present) (a : ℕ) (v : List ℤ) → a < length plan.sources → stage p a ≡ Fetched
    → length v ≡ gift a (count p a) plan.channels → refusal plan p (Write a v) ≡ None
writes_free plan p a v there at len =
    let k : ℕ = count p a in
    let last : Option Refusal = when (not (length v == (given plan a (suc k) - given plan a k))) WrongCount in
    skip (when (not (exists plan a)) Unknown) (when (not (is_stage (stage p a) Fetched)) NotRead ∷ last ∷ []) (known plan a there)
    ∙ skip (when (not (is_stage (stage p a) Fetched)) NotRead) (last ∷ []) (at_stage p a Fetched NotRead refl at)
    ∙ skip last [] (ap (λ b. when (not b) WrongCount) (eq-eqb (length v) (given plan a (suc k) - given plan a k) (len ∙ gift-given plan a k)))
