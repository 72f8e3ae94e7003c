-- The schedule's journal with the kernels' own values.
use Rattle.std.proofs.Common.{◌≡◌, ℕ, zero, suc, ◌*◌, ◌≤◌, List, [], ◌∷◌, length, get_or, set, map, refl, ap, sym, subst, ◌∙◌, arith, Option, Some, None}
use Rattle.std.proofs.Common.{length-set}
use Rattle.std.specs.Prelude.{ℤ, IfSome, sum}
use Rattle.std.specs.List.{AllByRecursion}
use Rattle.std.proofs.lemmas.List.{length-replicate, get_or-set_same}
use Rattle.csdf_analysis.specs.Acceptance.{Accepted}
use Rattle.csdf_core.specs.declared.refusal.Refusal.{Refusal}
use Rattle.csdf_core.specs.Moves.{Move}
use Rattle.csdf_core.specs.Moves.{Begin, Read, Write, Finish}
use Rattle.csdf_core.specs.Plan.{Plan}
use Rattle.csdf_core.specs.State.{State, present, opening}
use Rattle.csdf_core.specs.Step.{Reply, count, refusal, answer, accepted, given, refused, reply_by, replies_of}
use Rattle.csdf_core.proofs.Kept.{reads}
use Rattle.csdf_floor.specs.Journal.{Program, program_for, value, no_reads, IsHonestFrom, IsHonestMove, reads_after}
use Rattle.csdf_floor.specs.Sequential.{fired, moves_from, sequential_moves}
use Rattle.csdf_floor.specs.Laws.{AreAmple}
use Rattle.csdf_core.specs.Ever.{AreFirings, repeated, Allows}
use Rattle.csdf_floor.specs.Periods.{RunsHonestly}
use Rattle.csdf_floor.proofs.Sequential.{after_begin, after_read, after_write, written_value, length_value}
use Rattle.csdf_floor.proofs.Bounds.{after_is}
use Rattle.csdf_floor.proofs.Periods.{get_mul}
use Rattle.csdf_core.proofs.Ever.{runs_for_ever}

abbrev AreOk : List Reply → Type 0
AreOk replies = AllByRecursion (λ (r : Reply). refused r ≡ None) replies

not_refused : (o : Option Refusal) (xs : List ℤ) → refused (reply_by o xs) ≡ None → o ≡ None
not_refused None xs e = refl
not_refused (Some r) xs e = absurd (cc)

first_ok : (plan : Plan) (s : State) (m : Move) (ms : List Move) → AreOk (replies_of plan s (m ∷ ms)) → (refusal plan (present s) m ≡ None)
    × AreOk (replies_of plan (accepted plan s m) ms)
first_ok plan s m ms all =
    let none : refusal plan (present s) m ≡ None = not_refused (refusal plan (present s) m) (answer plan (present s) m) all.0 in
    (none, subst (λ (t : State). AreOk (replies_of plan t ms)) (after_is plan s m none) all.1)

honest_cons : (w : Program) (s : State) (kept : List (List ℤ)) (m : Move) (ms : List Move) → IsHonestMove w s kept m
    → IsHonestFrom w (accepted w.plan s m) (reads_after w.plan s kept m) ms → IsHonestFrom w s kept (m ∷ ms)
honest_cons w s kept m ms h rest = (h, subst (λ (t : State). IsHonestFrom w t (reads_after w.plan s kept m) ms) (sym (after_is w.plan s m h.accepted)) rest)

-- the sequential run's moves, by any actors, are whole firings
whole : (w : Program) (s : State) (actors : List ℕ) → AreFirings w.plan s.counts actors (moves_from w s actors)
whole w s [] = refl
whole w s (a ∷ actors) = (
  moves_from w (fired w s a) actors,
  record { tokens = written_value w s a; whole = length_value w a (count (present s) a) (answer w.plan (present s) (Read a)); four = refl },
  whole w (fired w s a) actors,
)

honest_from : (w : Program) (s : State) (kept : List (List ℤ)) (actors : List ℕ) → length kept ≡ length w.plan.sources
    → AreOk (replies_of w.plan s (moves_from w s actors)) → IsHonestFrom w s kept (moves_from w s actors)
honest_from w s kept [] len ok = tt
honest_from w s kept (a ∷ actors) len ok =
    let read : List ℤ = answer w.plan (present s) (Read a) in
    let k : ℕ = count (present s) a in
    let v : List ℤ = written_value w s a in
    let s1 : State = after_begin w s a in
    let s2 : State = after_read w s a in
    let s3 : State = after_write w s a in
    let ms : List Move = moves_from w (fired w s a) actors in
    let o1 = first_ok w.plan s (Begin a) (Read a ∷ Write a v ∷ Finish a ∷ ms) ok in
    let o2 = first_ok w.plan s1 (Read a) (Write a v ∷ Finish a ∷ ms) o1.1 in
    let o3 = first_ok w.plan s2 (Write a v) (Finish a ∷ ms) o2.1 in
    let o4 = first_ok w.plan s3 (Finish a) ms o3.1 in
    let there = (reads w.plan (present s1) a o2.0).there in
    let kept2 : List (List ℤ) = set kept a read in
    let holds : get_or kept2 a [] ≡ read = get_or-set_same kept a read [] (omega (arith, there, len)) in
    honest_cons w s kept (Begin a) (Read a ∷ Write a v ∷ Finish a ∷ ms) (record { accepted = o1.0; just = tt })
    (honest_cons w s1 kept (Read a) (Write a v ∷ Finish a ∷ ms) (record { accepted = o2.0; just = tt })
    (honest_cons w s2 kept2 (Write a v) (Finish a ∷ ms) (record { accepted = o3.0; just = ap (value w a k) (sym holds) })
    (honest_cons w s3 kept2 (Finish a) ms (record { accepted = o4.0; just = tt })
    (honest_from w (fired w s a) kept2 actors (length-set kept a read ∙ len) o4.1))))

pub get_length : (feeds : List (List ℤ)) (i : ℕ) → get_or (map length feeds) i 0 ≡ length (get_or feeds i [])
get_length [] i = refl
get_length (x ∷ feeds) zero = refl
get_length (x ∷ feeds) (suc i) = get_length feeds i

-- the limit on all firings doesn't matter
same_given : (a : Accepted) (feeds : List (List ℤ)) (periods : ℕ) (firings : Option ℕ) (x n : ℕ)
    → given (program_for a feeds periods firings).plan x n ≡ given (program_for a feeds periods None).plan x n
unfolding given
same_given a feeds periods firings x n = refl

allows_program : (a : Accepted) (feeds : List (List ℤ)) (periods : ℕ) (firings : Option ℕ) → AreAmple a feeds periods
    → IfSome firings (λ most. periods * sum a.q ≤ most) → Allows (program_for a feeds periods firings).plan a.q periods
allows_program a feeds periods firings ample few = record {
  limits = λ b. (let e = get_mul periods a.q b in omega arith);
  supplies = λ b source.
      (let enough = ample b source in
      let file : get_or (map length feeds) b 0 ≡ length (get_or feeds b []) = get_length feeds b in
      let same = same_given a feeds periods firings b (periods * get_or a.q b 0) in
      omega arith);
  firings = few;
}

pub runs_honestly : RunsHonestly
runs_honestly a feeds periods firings schedule ok is cells ample few =
    let w : Program = program_for a feeds periods firings in
    let moves : List Move = sequential_moves w (repeated periods schedule) in
    let runs = runs_for_ever a schedule ok is w.plan.limits w.plan.supplies firings periods moves cells (allows_program a feeds periods firings ample few)
    (whole w (opening w.plan) (repeated periods schedule)) in
    record {
      honest = honest_from w (opening w.plan) (no_reads w.plan) (repeated periods schedule) (length-replicate (length w.plan.sources) []) runs.accepted;
      runs = runs;
    }
