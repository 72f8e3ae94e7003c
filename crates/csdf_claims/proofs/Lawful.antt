-- Each kind of step keeps the board lawful.
use Rattle.std.proofs.Common.{◌≡◌, ◌≢◌, ℕ, ◌+◌, ◌/◌, ◌%◌, ◌<◌, ◌≤◌, List, [], ◌∷◌, ◌++◌, length, set, sym, refl, ap, ◌∙◌, subst, arith, get_or-set_same}
use Rattle.std.proofs.Common.{get_or-set_other, length-set, ⊎_elim}
use mathlib.Core.Logic.{dite}
use mathlib.Core.Option.{some}
use native.Mathlib.Decide.{ℕ_discrete, dec_lt}
use Rattle.std.specs.List.{range_with_len}
use lib.ListN.{get_elem?}
use Rattle.atomic_table.proofs.Lists.{at_set}
use Rattle.csdf_claims.specs.declared.rule.Track.{Track}
use Rattle.csdf_claims.specs.declared.rule.View.{View}
use Rattle.csdf_claims.specs.Board.{track_of, times, claims, finishes, word_of, IsLawfulAt, IsLawful}
use Rattle.csdf_claims.proofs.Totals.{times-append, times_one_same, times_one_other, times_before, times_beyond, times_within, total_set, total_at}

-- One place i, with the view v, gets the view u. Of actor a that changes the claims and the finished firings as said
module _ (places : List View) (i : ℕ) (v u : View) (at : get_elem? places i ≡ some v) (a : ℕ) where
  abbrev H : View → List ℕ
  H w = (track_of w a).held

  abbrev F : View → List ℕ
  F w = (track_of w a).finished

  abbrev Ps : List View
  Ps = set places i u

  claims_change : (x : ℕ) → claims Ps a x + times x (H v) ≡ claims places a x + times x (H u)
  claims_change x = total_set (λ w. times x (track_of w a).held) places i v u at

  finishes_change : (x : ℕ) → finishes Ps a x + times x (F v) ≡ finishes places a x + times x (F u)
  finishes_change x = total_set (λ w. times x (track_of w a).finished) places i v u at

  seen_change : (k : ℕ) → ((seat : ℕ) (w : View) → get_elem? places seat ≡ some w → (track_of w a).seen ≤ k) → (track_of u a).seen ≤ k
      → (seat : ℕ) (w : View) → get_elem? Ps seat ≡ some w → (track_of w a).seen ≤ k
  seen_change k old new seat w e = ⊎_elim (λ t. subst (λ (z : View). (track_of z a).seen ≤ k) t.1 new) (λ t. old seat w t.1) (at_set places i seat u w e)

  -- the same claims and finished firings
  pub kept : (k b : ℕ) → IsLawfulAt places a k b → H u ≡ H v → F u ≡ F v → (track_of u a).seen ≤ k → IsLawfulAt Ps a k b
  kept k b L eh ef s = record {
    held = let c = claims_change k in let e : times k (H u) ≡ times k (H v) = ap (times k) eh in let h = L.held in omega arith;
    held_elsewhere = λ x ne. let c = claims_change x in let e : times x (H u) ≡ times x (H v) = ap (times x) eh in let h = L.held_elsewhere x ne in omega arith;
    finished = λ x lt. let c = finishes_change x in let e : times x (F u) ≡ times x (F v) = ap (times x) ef in let h = L.finished x lt in omega arith;
    unfinished = λ x le. let c = finishes_change x in let e : times x (F u) ≡ times x (F v) = ap (times x) ef in let h = L.unfinished x le in omega arith;
    seen = seen_change k L.seen s;
  }

  -- a claim on an idle actor
  pub won : (k : ℕ) → IsLawfulAt places a k 0 → H u ≡ k ∷ [] → F u ≡ F v → (track_of u a).seen ≤ k → IsLawfulAt Ps a k 1
  won k L eh ef s = record {
    held = let c = claims_change k in let e : times k (H u) ≡ 1 = ap (times k) eh ∙ times_one_same k k refl in let h = L.held in
        let m = total_at (λ w. times k (track_of w a).held) places i v at in omega arith;
    held_elsewhere = λ x ne. let c = claims_change x in let e : times x (H u) ≡ 0 = ap (times x) eh ∙ times_one_other x k ne in
        let h = L.held_elsewhere x ne in omega arith;
    finished = λ x lt. let c = finishes_change x in let e : times x (F u) ≡ times x (F v) = ap (times x) ef in let h = L.finished x lt in omega arith;
    unfinished = λ x le. let c = finishes_change x in let e : times x (F u) ≡ times x (F v) = ap (times x) ef in let h = L.unfinished x le in omega arith;
    seen = seen_change k L.seen s;
  }

  -- who holds an actor at k holds it where its word says
  pub holder : (k j b : ℕ) → IsLawfulAt places a j b → b < 2 → H v ≡ k ∷ [] → (j ≡ k) × (b ≡ 1)
  holder k j b L low eh =
      let one : times k (H v) ≡ 1 = ap (times k) eh ∙ times_one_same k k refl in
      let m = total_at (λ w. times k (track_of w a).held) places i v at in
      dite (ℕ_discrete k j)
      (λ e. (sym e, let h : claims places a k ≡ b = subst (λ (z : ℕ). claims places a z ≡ b) (sym e) L.held in omega arith))
      (λ ne. let h = L.held_elsewhere k ne in absurd (omega arith))

  -- the firing that was held is finished, and those that follow it, n in all
  pub ended : (k n : ℕ) → 1 ≤ n → IsLawfulAt places a k 1 → H v ≡ k ∷ [] → H u ≡ [] → F u ≡ F v ++ range_with_len k n → (track_of u a).seen ≤ k + n
      → IsLawfulAt Ps a (k + n) 0
  ended k n some_firing L hv eh ef s = record {
    held = let c = claims_change (k + n) in let e : times (k + n) (H u) ≡ 0 = ap (times (k + n)) eh in
        let h = L.held_elsewhere (k + n) (λ q. absurd (omega arith)) in omega arith;
    held_elsewhere = λ x _. let c = claims_change x in let e : times x (H u) ≡ 0 = ap (times x) eh in dite (ℕ_discrete x k)
        (λ q. let h : claims places a x ≡ 1 = subst (λ (z : ℕ). claims places a z ≡ 1) (sym q) L.held in
        let o : times x (H v) ≡ 1 = ap (times x) hv ∙ times_one_same x k q in omega arith)
        (λ ne. let h = L.held_elsewhere x ne in omega arith);
    finished = λ x lt. let c = finishes_change x in
        let e : times x (F u) ≡ times x (F v) + times x (range_with_len k n) = ap (times x) ef ∙ times-append x (F v) (range_with_len k n) in dite (dec_lt x k)
        (λ low. let h = L.finished x low in let o = times_before x k n low in omega arith)
        (λ high. let h = L.unfinished x (omega arith) in let o = times_within x k n (omega arith) lt in omega arith);
    unfinished = λ x le. let c = finishes_change x in
        let e : times x (F u) ≡ times x (F v) + times x (range_with_len k n) = ap (times x) ef ∙ times-append x (F v) (range_with_len k n) in
        let h = L.unfinished x (omega arith) in let o = times_beyond x k n le in omega arith;
    seen = seen_change (k + n) (λ seat w e. let h = L.seen seat w e in omega arith) s;
  }

  -- the claim is given up
  pub given_up : (k : ℕ) → IsLawfulAt places a k 1 → H v ≡ k ∷ [] → H u ≡ [] → F u ≡ F v → (track_of u a).seen ≤ k → IsLawfulAt Ps a k 0
  given_up k L hv eh ef s = record {
    held = let c = claims_change k in let e : times k (H u) ≡ 0 = ap (times k) eh in let h = L.held in
        let o : times k (H v) ≡ 1 = ap (times k) hv ∙ times_one_same k k refl in omega arith;
    held_elsewhere = λ x ne. let c = claims_change x in let e : times x (H u) ≡ 0 = ap (times x) eh in let h = L.held_elsewhere x ne in omega arith;
    finished = λ x lt. let c = finishes_change x in let e : times x (F u) ≡ times x (F v) = ap (times x) ef in let h = L.finished x lt in omega arith;
    unfinished = λ x le. let c = finishes_change x in let e : times x (F u) ≡ times x (F v) = ap (times x) ef in let h = L.unfinished x le in omega arith;
    seen = seen_change k L.seen s;
  }

-- a step on the word of actor a, at which the place i gets the view u, keeps the board lawful where it does so for a
pub steps : (actors : ℕ) (words : List ℕ) (places : List View) (i : ℕ) (v u : View) (a m k b : ℕ) → IsLawful actors words places
    → get_elem? places i ≡ some v → a < actors
    → m ≤ 32768002 → m / 2 ≡ k → m % 2 ≡ b → IsLawfulAt (set places i u) a k b → ((c : ℕ) → c ≢ a → track_of u c ≡ track_of v c)
    → IsLawful actors (set words (a + 1) m) (set places i u)
steps actors words places i v u a m k b L at lt most ek eb La other =
    let room : a + 1 < length words = (let n = L.count in omega arith) in
    let same : word_of (set words (a + 1) m) a ≡ m = get_or-set_same words (a + 1) m 0 room in
    let apart : (c : ℕ) → c ≢ a → word_of (set words (a + 1) m) c ≡ word_of words c =
    λ c ne. get_or-set_other words (a + 1) (c + 1) m 0 (λ e. ne (omega arith)) in
    record {
      count = length-set words (a + 1) m ∙ L.count;
      spare = get_or-set_other words (a + 1) 0 m 0 (λ e. absurd (omega arith)) ∙ L.spare;
      within = λ c h. dite (ℕ_discrete c a)
          (λ e. let is : word_of (set words (a + 1) m) c ≡ m = ap (word_of (set words (a + 1) m)) e ∙ same in omega arith)
          (λ ne. let is = apart c ne in let w = L.within c h in omega arith);
      each = λ c h. dite (ℕ_discrete c a)
          (λ e. let is : word_of (set words (a + 1) m) c ≡ m = ap (word_of (set words (a + 1) m)) e ∙ same in
          let Q : ℕ × (ℕ × ℕ) → Type 0 = λ z. IsLawfulAt (set places i u) z.0 z.1.0 z.1.1 in
          subst Q (λ j. (sym e j, (sym (ap (λ (z : ℕ). z / 2) is ∙ ek) j, sym (ap (λ (z : ℕ). z % 2) is ∙ eb) j))) La)
          (λ ne. let is = apart c ne in let t = other c ne in let old = L.each c h in
          let Q : ℕ × ℕ → Type 0 = λ z. IsLawfulAt (set places i u) c z.0 z.1 in
          subst Q (λ j. (sym (ap (λ (z : ℕ). z / 2) is) j, sym (ap (λ (z : ℕ). z % 2) is) j))
          (kept places i v u at c _ _ old (ap (λ (t' : Track). t'.held) t) (ap (λ (t' : Track). t'.finished) t)
          (let s = old.seen i v at in let e = ap (λ (t' : Track). t'.seen) t in omega arith)));
    }
