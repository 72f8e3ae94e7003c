-- A whole firing at one go, from a state in which every actor is idle to one like it.
use Rattle.std.proofs.Common.{◌≡◌, ℕ, ◌+◌, ◌<◌, ◌==◌, cond, List, [], ◌∷◌, length, get_or, set, map, filter, refl, ap, sym, ◌∙◌}
use Rattle.std.proofs.Common.{arith, Bool, true, false, length-set}
use Rattle.std.specs.Prelude.{ℤ, sum}
use Rattle.std.proofs.lemmas.List.Sums.{sum_by-cons}
use Rattle.std.proofs.lemmas.List.{get_or-set_same}
use Rattle.csdf_model.specs.Rates.{rate}
use Rattle.csdf_model.specs.declared.parts.Kernel.TheVariants.{Sink}
use Rattle.csdf_kernel.proofs.ValueLemmas.{length_of_value}
use Rattle.csdf_core.specs.declared.stage.Stage.TheVariants.{Idle, Begun, Fetched, Written}
use Rattle.csdf_core.specs.Moves.{Begin, Read, Write}
use Rattle.csdf_core.specs.Plan.{Channel, gives_of}
use Rattle.csdf_core.specs.Rows.{gift}
use Rattle.csdf_core.specs.State.{State, present, opening}
use Rattle.csdf_core.specs.Step.{count, stage, answer, accepted}
use Rattle.csdf_core.proofs.Accepting.{AllIdle, idle_again}
use Rattle.csdf_core.proofs.Opening.{alike}
use Rattle.csdf_floor.specs.Journal.{Program, value, inputs, output_counts, no_reads}
use Rattle.csdf_core.specs.Going.{CanGo}
use Rattle.csdf_floor.specs.Sequential.{fired, IsSequentialFrom, IsStuck, state_from}
use Rattle.csdf_floor.proofs.Faithful.{IsFaithful, faithful_begun, faithful_read, faithful_written, faithful_finished, faithful_opening}

-- ---- a value has as many tokens as the firing gives

kept_if : (b : Bool) (x : ℕ) (a k : ℕ) (c : Channel) (cs : List Channel) → (c.from == a) ≡ b
    → sum (map (gives_of a k) (filter (λ (d : Channel). d.from == a) cs)) ≡ gift a k cs
    → sum (map (gives_of a k) (cond b (c ∷ filter (λ (d : Channel). d.from == a) cs) (filter (λ (d : Channel). d.from == a) cs))) ≡ gives_of a k c + gift a k cs
kept_if true x a k c cs is rest = omega (
  arith,
  sum_by-cons (λ (n : ℕ). n) (gives_of a k c) (map (gives_of a k) (filter (λ (d : Channel). d.from == a) cs)),
  rest,
)
kept_if false x a k c cs is rest = let none : gives_of a k c ≡ 0 = ap (λ b. cond b (rate c.produce k) 0) is in omega arith

pub sum_of_counts : (a k : ℕ) (cs : List Channel) → sum (map (gives_of a k) (filter (λ (d : Channel). d.from == a) cs)) ≡ gift a k cs
sum_of_counts a k [] = refl
sum_of_counts a k (c ∷ cs) = kept_if (c.from == a) 0 a k c cs refl (sum_of_counts a k cs) ∙ sym (sum_by-cons (gives_of a k) c cs)

pub length_value : (w : Program) (a k : ℕ) (read : List ℤ) → length (value w a k read) ≡ gift a k w.plan.channels
unfolding value
length_value w a k read = length_of_value (get_or w.kernels a Sink) (output_counts w a k) (inputs w a k read) ∙ sum_of_counts a k w.plan.channels

-- ---- the states on the way

abbrev pub after_begin : Program → State → ℕ → State
after_begin w s a = accepted w.plan s (Begin a)

abbrev pub after_read : Program → State → ℕ → State
after_read w s a = accepted w.plan (after_begin w s a) (Read a)

abbrev pub written_value : Program → State → ℕ → List ℤ
written_value w s a = value w a (count (present s) a) (answer w.plan (present s) (Read a))

abbrev pub after_write : Program → State → ℕ → State
after_write w s a = accepted w.plan (after_read w s a) (Write a (written_value w s a))

-- the last reads after it
abbrev pub kept_by : Program → State → List (List ℤ) → ℕ → List (List ℤ)
kept_by w s kept a = set kept a (answer w.plan (present s) (Read a))

-- what is known of the whole firing
pub record Goes (w : Program) (s : State) (kept : List (List ℤ)) (a : ℕ) : Type 0 where
  pub there : a < length w.plan.sources
  pub begun : stage (present (after_begin w s a)) a ≡ Begun
  pub read : stage (present (after_read w s a)) a ≡ Fetched
  pub written : stage (present (after_write w s a)) a ≡ Written
  pub holds : get_or (kept_by w s kept a) a [] ≡ answer w.plan (present s) (Read a)
  pub first : IsFaithful w (after_begin w s a) kept
  pub second : IsFaithful w (after_read w s a) (kept_by w s kept a)
  pub third : IsFaithful w (after_write w s a) (kept_by w s kept a)
  pub last : IsFaithful w (fired w s a) (kept_by w s kept a)

pub goes : (w : Program) (s : State) (kept : List (List ℤ)) (a : ℕ) → IsFaithful w s kept → CanGo w.plan (present s) a → Goes w s kept a
goes w s kept a f can =
    let there : a < length w.plan.sources = can.exists in
    let lt : a < length s.stages = (let staged = f.booked.staged in omega arith) in
    let ltk : a < length kept = (let each = f.each in omega arith) in
    let k : ℕ = count (present s) a in
    let at1 : stage (present (after_begin w s a)) a ≡ Begun = get_or-set_same s.stages a Begun Idle lt in
    let f1 = faithful_begun w s kept a f can in
    let f2 = faithful_read w (after_begin w s a) kept a f1 there at1 in
    let lt1 : a < length (set s.stages a Begun) = (let e = length-set s.stages a Begun in omega arith) in
    let at2 : stage (present (after_read w s a)) a ≡ Fetched = get_or-set_same (set s.stages a Begun) a Fetched Idle lt1 in
    let read : List ℤ = answer w.plan (present s) (Read a) in
    let keeps : get_or (set kept a read) a [] ≡ read = get_or-set_same kept a read [] ltk in
    let f3 = faithful_written w (after_read w s a) (set kept a read) a (written_value w s a) f2 there at2 (length_value w a k read)
    (ap (value w a k) (sym keeps)) in
    let lt2 : a < length (set (set s.stages a Begun) a Fetched) = (let e = length-set (set s.stages a Begun) a Fetched in omega arith) in
    let at3 : stage (present (after_write w s a)) a ≡ Written = get_or-set_same (set (set s.stages a Begun) a Fetched) a Written Idle lt2 in
    record {
      there = there;
      begun = at1;
      read = at2;
      written = at3;
      holds = keeps;
      first = f1;
      second = f2;
      third = f3;
      last = faithful_finished w (after_write w s a) (set kept a read) a f3 there at3;
    }

pub idle_fired : (w : Program) (s : State) (a : ℕ) → AllIdle s → AllIdle (fired w s a)
idle_fired w s a idle = idle_again w.plan s a (written_value w s a) idle

-- ---- the sequential run

-- a state at rest
pub record IsAtRest (w : Program) (s : State) : Type 0 where
  pub kept : List (List ℤ)
  pub faithful : IsFaithful w s kept
  pub idle : AllIdle s

pub rest_opening : (w : Program) → IsAtRest w (opening w.plan)
rest_opening w = record { kept = no_reads w.plan; faithful = faithful_opening w; idle = λ a. alike (length w.plan.sources) a Idle }

pub rest_fired : (w : Program) (s : State) (a : ℕ) → IsAtRest w s → CanGo w.plan (present s) a → IsAtRest w (fired w s a)
rest_fired w s a r can = let g = goes w s r.kept a r.faithful can in record { kept = kept_by w s r.kept a; faithful = g.last; idle = idle_fired w s a r.idle }

pub rest_all : (w : Program) (s : State) (actors : List ℕ) → IsAtRest w s → IsSequentialFrom w s actors → IsAtRest w (state_from w s actors)
rest_all w s [] r p = r
rest_all w s (a ∷ actors) r p = rest_all w (fired w s a) actors (rest_fired w s a r p.0.can_go) p.1

pub stuck_all : (w : Program) (s : State) (actors : List ℕ) → IsSequentialFrom w s actors → IsStuck w.plan (present (state_from w s actors))
stuck_all w s [] p = p
stuck_all w s (a ∷ actors) p = stuck_all w (fired w s a) actors p.1
