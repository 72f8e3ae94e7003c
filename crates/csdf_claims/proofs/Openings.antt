-- A new board is lawful, and it stays so when a place is made beside another or joined into another.
use Rattle.std.proofs.Common.{◌≡◌, ℕ, zero, suc, ◌+◌, ◌/◌, ◌%◌, ◌≤◌, List, [], ◌∷◌, ◌++◌, length, get_or, set, replicate, refl, sym, ap, ◌∙◌, subst, arith}
use Rattle.std.proofs.Common.{⊎_elim, None}
use Rattle.std.proofs.lemmas.List.{get_or-replicate}
use Rattle.std.proofs.Math.ListN.{length-replicate}
use mathlib.Core.Logic.{dite}
use Rattle.std.specs.Prelude.{option_to_list}
use mathlib.Core.Option.{some, some-injective, some-ne-none}
use native.Mathlib.Decide.{dec_lt}
use lib.ListN.{get_elem?}
use Rattle.atomic_table.specs.Seated.{TableId}
use Rattle.atomic_table.proofs.Lists.{set_again, at_snoc}
use Rattle.csdf_claims.specs.declared.rule.Track.{Track}
use Rattle.csdf_claims.specs.declared.rule.View.{View}
use Rattle.csdf_claims.specs.declared.place.Entry.{Entry}
use Rattle.csdf_claims.specs.Board.{blank, track_of, times, claims, finishes, word_of, IsLawfulAt, IsLawful, IsNew, opening_view, newcomer_view}
use Rattle.csdf_claims.specs.Steps.{Seated}
use Rattle.csdf_claims.specs.Face.{IsRecordOf}
use Rattle.csdf_claims.proofs.Totals.{total_snoc}
use Rattle.csdf_claims.proofs.Tracks.{track_of-newcomer, track_of-opening}
use Rattle.csdf_claims.proofs.Moves.{Board, Law}

module _ (places : List View) (u : View) (a k b : ℕ) (L : IsLawfulAt places a k b) (eh : (track_of u a).held ≡ []) (ef : (track_of u a).finished ≡ [])
    (es : (track_of u a).seen ≤ k) where
  more_claims : (x : ℕ) → claims (places ++ u ∷ []) a x ≡ claims places a x
  more_claims x = let c = total_snoc (λ w. times x (track_of w a).held) places u in let z : times x (track_of u a).held ≡ 0 = ap (times x) eh in omega arith

  more_finishes : (x : ℕ) → finishes (places ++ u ∷ []) a x ≡ finishes places a x
  more_finishes x = let c = total_snoc (λ w. times x (track_of w a).finished) places u in let z : times x (track_of u a).finished ≡ 0 = ap (times x) ef in
      omega arith

  -- one more place, which holds and has finished nothing
  pub added : IsLawfulAt (places ++ u ∷ []) a k b
  added = record {
    held = more_claims k ∙ L.held;
    held_elsewhere = λ x ne. more_claims x ∙ L.held_elsewhere x ne;
    finished = λ x h. more_finishes x ∙ L.finished x h;
    unfinished = λ x h. more_finishes x ∙ L.unfinished x h;
    seen = λ seat w e. ⊎_elim (λ old. L.seen seat w old) (λ is. subst (λ (z : View). (track_of z a).seen ≤ k) is es) (at_snoc places u w seat e);
  }

pub splits : (actors id : ℕ) (v : View) (s : Board) → Law actors s → get_elem? s.views id ≡ some v
    → IsLawful actors s.words (set s.views id v ++ newcomer_view v ∷ [])
splits actors id v s L at =
    subst (λ (ps : List View). IsLawful actors s.words (ps ++ newcomer_view v ∷ [])) (sym (set_again s.views id v at)) (record {
      count = L.count;
      spare = L.spare;
      within = L.within;
      each = λ a h. let t = track_of-newcomer v.tracks a in let old = L.each a h in
          added s.views (newcomer_view v) a (word_of s.words a / 2) (word_of s.words a % 2) old (ap (λ (z : Track). z.held) t)
          (ap (λ (z : Track). z.finished) t)
          (let q = old.seen id v at in let e = ap (λ (z : Track). z.seen) t in omega arith);
    })

module _ (actors a : ℕ) where
  abbrev u : View
  u = opening_view actors

  no_claim : (x : ℕ) → claims (u ∷ []) a x ≡ 0
  no_claim x = let z : times x (track_of u a).held ≡ 0 = ap (λ (t : Track). times x t.held) (track_of-opening actors a) in omega arith

  no_finish : (x : ℕ) → finishes (u ∷ []) a x ≡ 0
  no_finish x = let z : times x (track_of u a).finished ≡ 0 = ap (λ (t : Track). times x t.finished) (track_of-opening actors a) in omega arith

  none_seen : (seat : ℕ) (v : View) → get_elem? (u ∷ []) seat ≡ some v → (track_of v a).seen ≤ 0
  none_seen zero v e = let z : (track_of v a).seen ≡ 0 =
      ap (λ (w : View). (track_of w a).seen) (sym (some-injective u v e)) ∙ ap (λ (t : Track). t.seen) (track_of-opening actors a) in omega arith
  none_seen (suc i) v e = absurd (some-ne-none v (sym e))

  alone : IsLawfulAt (u ∷ []) a 0 0
  alone = record {
    held = no_claim 0;
    held_elsewhere = λ x _. no_claim x;
    finished = λ x h. absurd (omega arith);
    unfinished = λ x _. no_finish x;
    seen = none_seen;
  }

-- the first place at a board whose words are 0
pub opens : (actors : ℕ) (words : List ℕ) → length words ≡ actors + 1 → ((i : ℕ) → get_or words i 0 ≡ 0) → IsLawful actors words (opening_view actors ∷ [])
opens actors words n zeros = record {
  count = n;
  spare = zeros 0;
  within = λ a h. let z = zeros (a + 1) in omega arith;
  each = λ a h. let z = zeros (a + 1) in
      let P : ℕ × ℕ → Type 0 = λ p. IsLawfulAt (opening_view actors ∷ []) a p.0 p.1 in
      let half : 0 ≡ word_of words a / 2 = omega arith in let even : 0 ≡ word_of words a % 2 = omega arith in
      subst P (λ i. (half i, even i)) (alone actors a);
}

all_zero : (n i : ℕ) → get_or (replicate {A = ℕ} n 0) i 0 ≡ 0
all_zero zero i = refl
all_zero (suc n) zero = refl
all_zero (suc n) (suc i) = all_zero n i

-- alone at a board and having finished and held nothing, the place finds each word 0
pub is_new : (actors : ℕ) → IsNew (opening_view actors)
is_new actors a h =
    let size : length (opening_view actors).tracks ≡ actors = length-replicate actors blank in
    let zeros : List ℕ = replicate {A = ℕ} (actors + 1) 0 in
    let lawful = opens actors zeros (length-replicate (actors + 1) 0) (all_zero (actors + 1)) in (
      (zeros, subst (λ (n : ℕ). IsLawful n zeros (opening_view actors ∷ [])) (sym size) lawful, all_zero (actors + 1) (a + 1)),
      (λ w found.
          let words : List ℕ = found.0 in let l = found.1.each a h in let n : ℕ = word_of words a in
          let even : n % 2 ≡ 0 = sym l.held ∙ no_claim actors a (n / 2) in
          let none : n ≡ 0 = dite (dec_lt 0 (n / 2))
          (λ some_firing. let one = l.finished 0 some_firing in let none = no_finish actors a 0 in absurd (omega arith))
          (λ no_firing. omega arith) in
          sym found.2 ∙ none),
    )

-- the record of a place that holds and has finished nothing
pub record_blank : (es : List Entry) (me : Seated) (id : TableId) (n : ℕ) → es ≡ replicate n (record { finished = 0; held = None }) → me.1 ≡ []
    → length me.0.tracks ≡ n → n + 1 ≡ id.words
    → ((a : ℕ) → ((track_of me.0 a).held ≡ []) × ((track_of me.0 a).finished ≡ [])) → IsRecordOf es me id
record_blank es me id n is none len words idle = record {
  no_slot = none;
  tracks = omega arith;
  entry_count = ap length is ∙ length-replicate n (record { finished = 0; held = None }) ∙ sym len;
  each = λ a d h. let l : length es ≡ n = ap length is ∙ length-replicate n (record { finished = 0; held = None }) in
      let e : get_or es a d ≡ record { finished = 0; held = None } =
      ap (λ (xs : List Entry). get_or xs a d) is ∙ get_or-replicate n a (record { finished = 0; held = None }) d (omega arith) in
      record { finished = ap (λ (z : Entry). z.finished) e ∙ sym (ap length (idle a).1); held = ap (λ (z : Entry). option_to_list z.held) e ∙ sym (idle a).0 };
}

pub idle_newcomer : (v : View) (a : ℕ) → ((track_of (newcomer_view v) a).held ≡ []) × ((track_of (newcomer_view v) a).finished ≡ [])
idle_newcomer v a = let t = track_of-newcomer v.tracks a in (ap (λ (z : Track). z.held) t, ap (λ (z : Track). z.finished) t)

pub idle_opening : (actors a : ℕ) → ((track_of (opening_view actors) a).held ≡ []) × ((track_of (opening_view actors) a).finished ≡ [])
idle_opening actors a = let t = track_of-opening actors a in (ap (λ (z : Track). z.held) t, ap (λ (z : Track). z.finished) t)

-- a record read at equal values
pub carried_over : (es : List Entry) (me me' : Seated) (id id' : TableId) → me' ≡ me → id' ≡ id → IsRecordOf es me id → IsRecordOf es me' id'
carried_over es me me' id id' e f r = let P : Seated × TableId → Type 0 = λ z. IsRecordOf es z.0 z.1 in subst P (λ i. (sym e i, sym f i)) r
