-- Counts over all places, read place by place.
use Rattle.std.proofs.Common.{◌≡◌, ◌≢◌, ℕ, zero, suc, ◌+◌, ◌/◌, ◌%◌, ◌<◌, ◌≤◌, List, [], ◌∷◌, sym, refl, ap, ◌∙◌, arith}
use mathlib.Core.Logic.{dite}
use mathlib.Core.Option.{some, some-injective, some-ne-none}
use native.Mathlib.Decide.{ℕ_discrete, dec_lt}
use lib.ListN.{get_elem?}
use Rattle.csdf_claims.specs.declared.rule.View.{View}
use Rattle.csdf_claims.specs.Board.{track_of, times, total, word_of}
use Rattle.csdf_claims.specs.Laws.{OneHolds, OneFinished, FinishedOnce, FinishedBelow}
use Rattle.csdf_claims.proofs.Totals.{total_at, times_one_same}
use Rattle.csdf_claims.proofs.Lawful.{holder}

two_at : (f : View → ℕ) (places : List View) (i j : ℕ) (v w : View) → i ≢ j → get_elem? places i ≡ some v → get_elem? places j ≡ some w
    → f v + f w ≤ total f places
two_at f [] i j v w ne e e' = absurd (some-ne-none v (sym e))
two_at f (x ∷ xs) zero zero v w ne e e' = absurd (ne refl)
two_at f (x ∷ xs) zero (suc j) v w ne e e' = let is : f x ≡ f v = ap f (some-injective x v e) in let r = total_at f xs j w e' in omega arith
two_at f (x ∷ xs) (suc i) zero v w ne e e' = let is : f x ≡ f w = ap f (some-injective x w e') in let r = total_at f xs i v e in omega arith
two_at f (x ∷ xs) (suc i) (suc j) v w ne e e' = let r = two_at f xs i j v w (λ q. ne (ap suc q)) e e' in omega arith

some_at : (f : View → ℕ) (places : List View) → 0 < total f places → (i : ℕ) × (v : View) × (get_elem? places i ≡ some v) × (0 < f v)
some_at f [] h = absurd (omega arith)
some_at f (x ∷ xs) h = dite (dec_lt 0 (f x))
    (λ here. (0, x, refl, here))
    (λ none. let r = some_at f xs (omega arith) in (suc r.0, r.1, r.2, r.3))

pub one_holds : OneHolds
one_holds actors words places L a lt i j v w e e' hv hw = dite (ℕ_discrete i j) (λ same. same)
    (λ ne.
    let l = L.each a lt in let n : ℕ = word_of words a in
    let p = holder places i v v e a hv.0 (n / 2) (n % 2) l (omega arith) hv.1 in
    let q = holder places j w w e' a hw.0 (n / 2) (n % 2) l (omega arith) hw.1 in
    let pv : times (n / 2) (track_of v a).held ≡ 1 = ap (times (n / 2)) hv.1 ∙ times_one_same (n / 2) hv.0 p.0 in
    let qw : times (n / 2) (track_of w a).held ≡ 1 = ap (times (n / 2)) hw.1 ∙ times_one_same (n / 2) hw.0 q.0 in
    let two = two_at (λ u. times (n / 2) (track_of u a).held) places i j v w ne e e' in
    let h = l.held in absurd (omega arith))

pub one_finished : OneFinished
one_finished actors words places L a x lt i j v w e e' hv hw = dite (ℕ_discrete i j) (λ same. same)
    (λ ne.
    let l = L.each a lt in let n : ℕ = word_of words a in
    let two = two_at (λ u. times x (track_of u a).finished) places i j v w ne e e' in
    dite (dec_lt x (n / 2)) (λ h. let o = l.finished x h in absurd (omega arith)) (λ h. let o = l.unfinished x (omega arith) in absurd (omega arith)))

pub finished_once : FinishedOnce
finished_once actors words places L a x lt i v e =
    let l = L.each a lt in let n : ℕ = word_of words a in
    let m = total_at (λ u. times x (track_of u a).finished) places i v e in
    dite (dec_lt x (n / 2)) (λ h. let o = l.finished x h in omega arith) (λ h. let o = l.unfinished x (omega arith) in omega arith)

pub finished_below : FinishedBelow
finished_below actors words places L a x lt =
    let l = L.each a lt in let n : ℕ = word_of words a in (
      (λ h. let o = l.finished x h in some_at (λ u. times x (track_of u a).finished) places (omega arith)),
      (λ i v e has. let m = total_at (λ u. times x (track_of u a).finished) places i v e in
          dite (dec_lt x (n / 2)) (λ h. h) (λ h. let o = l.unfinished x (omega arith) in absurd (omega arith))),
    )
