-- One ending, and what it says.
use Rattle.std.proofs.Common.{◌≡◌, ◌≢◌, ℕ, inl, inr, List, [], ◌∷◌, refl, Bool, true, false, not, Option, Some, None}
use Rattle.std.specs.Prelude.{option_map}
use Rattle.csdf_core.specs.declared.refusal.Refusal.{Refusal}
use Rattle.csdf_core.specs.declared.refusal.Refusal.TheVariants as why
use Rattle.csdf_core.specs.Moves.{Begin}
use Rattle.csdf_core.specs.Plan.{Plan}
use Rattle.csdf_core.specs.Rows.{is_closed, is_short, is_full, first}
use Rattle.csdf_core.specs.State.{Present}
use Rattle.csdf_core.specs.Step.{count, stage, is_stage, exists, is_spent, is_dry, is_stopped, lacks_cells, refusal, first_of, when}
use Rattle.csdf_core.specs.declared.stage.Stage.TheVariants.{Idle}
use Rattle.csdf_floor.specs.Endings.{SomeRefused, OneEnding, EndsByEnding}
use Rattle.csdf_floor.specs.declared.ending.Ending.TheVariants.{Complete, Stopped, Starved, Dry}
use Rattle.csdf_floor.proofs.Ends.{ends_as_sequential, stays_within}
use Rattle.csdf_floor.proofs.Quiet.{quiet_is_exhausted}

-- ---- the last two entries of a table

-- an entry of the table that is passed over by a refusal that it can't be
passed : (o : Option Refusal) (table : List (Option Refusal)) (r : Refusal) → (o ≡ Some r → ⊥) → first_of (o ∷ table) ≡ Some r → first_of table ≡ Some r
passed None table r ne e = e
passed (Some s) table r ne e = absurd (ne e)

not_when : (b : Bool) (s r : Refusal) → s ≢ r → when b s ≡ Some r → ⊥
not_when true s r ne e = ne (inside s r e)
  where
    inside : (x y : Refusal) → Some x ≡ Some y → x ≡ y
    inside x y same = cc
not_when false s r ne e = absurd (cc)

not_map : (f : ℕ → Refusal) (o : Option ℕ) (r : Refusal) → ((n : ℕ) → f n ≢ r) → option_map f o ≡ Some r → ⊥
not_map f None r ne e = absurd (cc)
not_map f (Some n) r ne e = ne n (inside (f n) r e)
  where
    inside : (x y : Refusal) → Some x ≡ Some y → x ≡ y
    inside x y same = cc

-- what none of the first entries is
pub record IsLate (r : Refusal) : Type 0 where
  pub unknown : why.Unknown ≢ r
  pub busy : why.Busy ≢ r
  pub spent : why.Spent ≢ r
  pub closed : (n : ℕ) → why.Closed n ≢ r
  pub dry : why.Dry ≢ r
  pub short : (n : ℕ) → why.Short n ≢ r
  pub full : (n : ℕ) → why.Full n ≢ r

late_stopped : IsLate why.Stopped
late_stopped = record {
  unknown = λ e. absurd (cc);
  busy = λ e. absurd (cc);
  spent = λ e. absurd (cc);
  closed = λ n e. absurd (cc);
  dry = λ e. absurd (cc);
  short = λ n e. absurd (cc);
  full = λ n e. absurd (cc);
}

late_cells : IsLate why.NoCells
late_cells = record {
  unknown = λ e. absurd (cc);
  busy = λ e. absurd (cc);
  spent = λ e. absurd (cc);
  closed = λ n e. absurd (cc);
  dry = λ e. absurd (cc);
  short = λ n e. absurd (cc);
  full = λ n e. absurd (cc);
}

last_two : (plan : Plan) (p : Present) (a : ℕ) (r : Refusal) → IsLate r → refusal plan p (Begin a) ≡ Some r
    → first_of (when (is_stopped plan p) why.Stopped ∷ when (lacks_cells plan p a) why.NoCells ∷ []) ≡ Some r
last_two plan p a r late e =
    let k : ℕ = count p a in
    let t8 : List (Option Refusal) = when (is_stopped plan p) why.Stopped ∷ when (lacks_cells plan p a) why.NoCells ∷ [] in
    let t7 : List (Option Refusal) = option_map why.Full (first (is_full a k) plan.channels p.tokens) ∷ t8 in
    let t6 : List (Option Refusal) = option_map why.Short (first (is_short a k) plan.channels p.tokens) ∷ t7 in
    let t5 : List (Option Refusal) = when (is_dry plan p a) why.Dry ∷ t6 in
    let t4 : List (Option Refusal) = option_map why.Closed (first (is_closed a) plan.channels p.opens) ∷ t5 in
    let t3 : List (Option Refusal) = when (is_spent plan p a) why.Spent ∷ t4 in
    let t2 : List (Option Refusal) = when (not (is_stage (stage p a) Idle)) why.Busy ∷ t3 in
    let e2 = passed (when (not (exists plan a)) why.Unknown) t2 r (not_when _ why.Unknown r late.unknown) e in
    let e3 = passed (when (not (is_stage (stage p a) Idle)) why.Busy) t3 r (not_when _ why.Busy r late.busy) e2 in
    let e4 = passed (when (is_spent plan p a) why.Spent) t4 r (not_when _ why.Spent r late.spent) e3 in
    let e5 = passed (option_map why.Closed (first (is_closed a) plan.channels p.opens)) t5 r (not_map why.Closed _ r late.closed) e4 in
    let e6 = passed (when (is_dry plan p a) why.Dry) t6 r (not_when _ why.Dry r late.dry) e5 in
    let e7 = passed (option_map why.Short (first (is_short a k) plan.channels p.tokens)) t7 r (not_map why.Short _ r late.short) e6 in
    passed (option_map why.Full (first (is_full a k) plan.channels p.tokens)) t8 r (not_map why.Full _ r late.full) e7

is_first : (b c : Bool) → first_of (when b why.Stopped ∷ when c why.NoCells ∷ []) ≡ Some why.Stopped → b ≡ true
is_first true c e = refl
is_first false true e = absurd (cc)
is_first false false e = absurd (cc)

is_second : (b c : Bool) → first_of (when b why.Stopped ∷ when c why.NoCells ∷ []) ≡ Some why.NoCells → b ≡ false
is_second true c e = absurd (cc)
is_second false c e = refl

-- no state has both
pub not_both : (plan : Plan) (p : Present) → SomeRefused plan p why.Stopped → SomeRefused plan p why.NoCells → ⊥
not_both plan p one two =
    let t : is_stopped plan p ≡ true = is_first _ _ (last_two plan p one.0 why.Stopped late_stopped one.2) in
    let f : is_stopped plan p ≡ false = is_second _ _ (last_two plan p two.0 why.NoCells late_cells two.2) in
    absurd (cc)

pub one_ending : OneEnding
one_ending plan p Complete Complete e f = refl
one_ending plan p Complete Stopped e f = absurd (f.0 e)
one_ending plan p Complete Starved e f = absurd (f.0 e)
one_ending plan p Complete Dry e f = absurd (f.0 e)
one_ending plan p Stopped Complete e f = absurd (e.0 f)
one_ending plan p Stopped Stopped e f = refl
one_ending plan p Stopped Starved e f = absurd (not_both plan p e.1 f.1)
one_ending plan p Stopped Dry e f = absurd (f.1 e.1)
one_ending plan p Starved Complete e f = absurd (e.0 f)
one_ending plan p Starved Stopped e f = absurd (not_both plan p f.1 e.1)
one_ending plan p Starved Starved e f = refl
one_ending plan p Starved Dry e f = absurd (f.2 e.1)
one_ending plan p Dry Complete e f = absurd (e.0 f)
one_ending plan p Dry Stopped e f = absurd (e.1 f.1)
one_ending plan p Dry Starved e f = absurd (e.2 f.1)
one_ending plan p Dry Dry e f = refl

pub ends_by_ending : EndsByEnding
ends_by_ending w journal actors Complete h p quiet e = ends_as_sequential w journal actors h p (quiet_is_exhausted w journal h quiet (inl e))
ends_by_ending w journal actors Dry h p quiet e =
    ends_as_sequential w journal actors h p (quiet_is_exhausted w journal h quiet (inr (λ a lt. ((λ is. e.1 (a, lt, is)), (λ is. e.2 (a, lt, is))))))
ends_by_ending w journal actors Stopped h p quiet e = stays_within w journal actors h p
ends_by_ending w journal actors Starved h p quiet e = stays_within w journal actors h p
