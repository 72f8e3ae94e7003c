-- A small board that is lawful, and some that are not.
use Rattle.std.proofs.Common.{◌≡◌, ℕ, zero, suc, ◌/◌, ◌%◌, ◌≤◌, List, [], ◌∷◌, sym, refl, subst, arith}
use mathlib.Core.Option.{some, some-injective, some-ne-none}
use lib.ListN.{get_elem?}
use Rattle.csdf_claims.specs.declared.rule.View.{View}
use Rattle.csdf_claims.specs.Board.{track_of, finishes, word_of, IsLawfulAt, IsLawful}
use Rattle.csdf_claims.specs.Laws.{first_done, second_held}
use Rattle.csdf_claims.proofs.Totals.{times_one_other}

abbrev two : List View
two = first_done ∷ second_held ∷ []

seen_one : (seat : ℕ) (v : View) → get_elem? two seat ≡ some v → (track_of v 0).seen ≤ 1
seen_one zero v e = subst (λ (z : View). (track_of z 0).seen ≤ 1) (some-injective first_done v e) (omega arith)
seen_one (suc zero) v e = subst (λ (z : View). (track_of z 0).seen ≤ 1) (some-injective second_held v e) (omega arith)
seen_one (suc (suc n)) v e = absurd (some-ne-none v (sym e))

at_one : IsLawfulAt two 0 1 1
at_one = record {
  held = refl;
  held_elsewhere = λ x ne. let t = times_one_other x 1 ne in omega arith;
  finished = λ x h. let z : x ≡ 0 = omega arith in subst (λ (y : ℕ). finishes two 0 y ≡ 1) (sym z) refl;
  unfinished = λ x h. let t = times_one_other x 0 (λ e. absurd (omega arith)) in omega arith;
  seen = seen_one;
}

pub is_lawful : IsLawful 1 (0 ∷ 3 ∷ []) two
is_lawful = record {
  count = refl;
  spare = refl;
  within = λ a h. let z : 0 ≡ a = omega arith in subst (λ (b : ℕ). word_of (0 ∷ 3 ∷ []) b ≤ 32768002) z (omega arith);
  each = λ a h. let z : 0 ≡ a = omega arith in subst (λ (b : ℕ). IsLawfulAt two b (word_of (0 ∷ 3 ∷ []) b / 2) (word_of (0 ∷ 3 ∷ []) b % 2)) z at_one;
}

pub no_idle_word : IsLawful 1 (0 ∷ 2 ∷ []) two → ⊥
no_idle_word L = let h : ◌≡◌ {A = ℕ} 1 0 = (L.each 0 (omega arith)).held in absurd (omega arith)

pub no_second_holder : IsLawful 1 (0 ∷ 3 ∷ []) (first_done ∷ second_held ∷ second_held ∷ []) → ⊥
no_second_holder L = let h : ◌≡◌ {A = ℕ} 2 1 = (L.each 0 (omega arith)).held in absurd (omega arith)

pub no_undone_firing : IsLawful 1 (0 ∷ 3 ∷ []) (second_held ∷ []) → ⊥
no_undone_firing L = let h : ◌≡◌ {A = ℕ} 0 1 = (L.each 0 (omega arith)).finished 0 (omega arith) in absurd (omega arith)
