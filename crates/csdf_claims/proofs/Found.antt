-- What follows for a place from the word of a lawful board at which it sits.
use Rattle.std.proofs.Common.{◌≡◌, ℕ, zero, suc, ◌+◌, ◌*◌, ◌/◌, ◌%◌, ◌<◌, ◌≤◌, List, [], ◌∷◌, length, set, sym, refl, ◌∙◌, subst, arith, get_or-set_same}
use mathlib.Core.Logic.{dite}
use mathlib.Core.Option.{some, some-ne-none}
use native.Mathlib.Decide.{dec_lt, ℕ_discrete}
use lib.ListN.{get_elem?}
use Rattle.csdf_claims.specs.declared.rule.View.{View}
use Rattle.csdf_claims.specs.Board.{track_of, times, claims, finishes, word_of, IsLawfulAt, IsLawful, SitsAt, Finds, Holds}
use Rattle.csdf_claims.proofs.Totals.{total_at}
use Rattle.csdf_claims.proofs.Counting.{no_more_than, all_of_them}
use Rattle.csdf_claims.proofs.Lawful.{holder}

pub set_at : (l : List View) (i : ℕ) (v u : View) → get_elem? l i ≡ some v → get_elem? (set l i u) i ≡ some u
set_at [] i v u e = absurd (some-ne-none v (sym e))
set_at (x ∷ xs) zero v u e = refl
set_at (x ∷ xs) (suc i) v u e = set_at xs i v u e

-- before a step
pub finds_before : (actors : ℕ) (words : List ℕ) (places : List View) (i : ℕ) (v : View) (a : ℕ) → IsLawful actors words places → get_elem? places i ≡ some v
    → length v.tracks ≡ actors → Finds v a (word_of words a)
finds_before actors words places i v a L at n =
    (words, places, record { lawful = subst (λ (k : ℕ). IsLawful k words places) (sym n) L; seat = i; here = at }, refl)

-- after a step on the word of actor a
pub finds_after : (actors : ℕ) (words : List ℕ) (places : List View) (i : ℕ) (v u : View) (a m : ℕ) → IsLawful actors (set words (a + 1) m) (set places i u)
    → get_elem? places i ≡ some v → length u.tracks ≡ actors → a + 1 < length words → Finds u a m
finds_after actors words places i v u a m L at n room = (
  set words (a + 1) m,
  set places i u,
  record {
    lawful = subst (λ (k : ℕ). IsLawful k (set words (a + 1) m) (set places i u)) (sym n) L;
    seat = i;
    here = set_at places i v u at;
  },
  get_or-set_same words (a + 1) m 0 room,
)

module _ (v : View) (words : List ℕ) (places : List View) (S : SitsAt v words places) (a : ℕ) (lt : a < length v.tracks) where
  abbrev w : ℕ
  w = word_of words a

  abbrev F : List ℕ
  F = (track_of v a).finished

  mine : IsLawfulAt places a (w / 2) (w % 2)
  mine = S.lawful.each a lt

  pub sits_within : w ≤ 32768002
  sits_within = S.lawful.within a lt

  pub sits_seen : (track_of v a).seen ≤ w / 2
  sits_seen = mine.seen S.seat v S.here

  pub sits_held : (k : ℕ) → Holds v a k → w ≡ 2 * k + 1
  sits_held k h = let t = holder places S.seat v v S.here a k (w / 2) (w % 2) mine (omega arith) h in let p = t.0 in let q = t.1 in omega arith

  -- a claim that the place has is at the word's firing, and there is one at most
  pub sits_claim : (x : ℕ) → times x (track_of v a).held ≤ 1
  sits_claim x = let m = total_at (λ (u : View). times x (track_of u a).held) places S.seat v S.here in
      dite (ℕ_discrete x (w / 2))
      (λ e. let h : claims places a x ≡ w % 2 = subst (λ (z : ℕ). claims places a z ≡ w % 2) (sym e) mine.held in omega arith)
      (λ ne. let h = mine.held_elsewhere x ne in omega arith)

  pub sits_claim_at : (x : ℕ) → 0 < times x (track_of v a).held → x ≡ w / 2
  sits_claim_at x some_claim = let m = total_at (λ (u : View). times x (track_of u a).held) places S.seat v S.here in
      dite (ℕ_discrete x (w / 2)) (λ e. e) (λ ne. let h = mine.held_elsewhere x ne in absurd (omega arith))

  sits_counts : (x : ℕ) → times x F ≤ finishes places a x
  sits_counts x = total_at (λ (u : View). times x (track_of u a).finished) places S.seat v S.here

  -- no firing was finished twice
  pub sits_once : (x : ℕ) → times x F ≤ 1
  sits_once x = let m = sits_counts x in dite (dec_lt x (w / 2)) (λ h. let e = mine.finished x h in omega arith)
      (λ h. let e = mine.unfinished x (omega arith) in omega arith)

  pub sits_none : (x : ℕ) → w / 2 ≤ x → times x F ≡ 0
  sits_none x h = let m = sits_counts x in let e = mine.unfinished x h in omega arith

  pub sits_count : length F ≤ w / 2
  sits_count = no_more_than (w / 2) F sits_once sits_none

  -- where the place finished as many firings as the word says, it finished each of them
  pub sits_all : length F ≡ w / 2 → (x : ℕ) → x < w / 2 → times x F ≡ 1
  sits_all full = all_of_them (w / 2) F sits_once sits_none full

module _ (v : View) (a w : ℕ) (found : Finds v a w) (lt : a < length v.tracks) where
  pub found_within : w ≤ 32768002
  found_within = let e = found.3 in let h = sits_within v found.0 found.1 found.2 a lt in omega arith

  pub found_seen : (track_of v a).seen ≤ w / 2
  found_seen = subst (λ (z : ℕ). (track_of v a).seen ≤ z / 2) found.3 (sits_seen v found.0 found.1 found.2 a lt)

  pub found_held : (k : ℕ) → Holds v a k → w ≡ 2 * k + 1
  found_held k h = sym found.3 ∙ sits_held v found.0 found.1 found.2 a lt k h

  pub found_once : (x : ℕ) → times x (track_of v a).finished ≤ 1
  found_once x = sits_once v found.0 found.1 found.2 a lt x

  pub found_count : length (track_of v a).finished ≤ w / 2
  found_count = subst (λ (z : ℕ). length (track_of v a).finished ≤ z / 2) found.3 (sits_count v found.0 found.1 found.2 a lt)
