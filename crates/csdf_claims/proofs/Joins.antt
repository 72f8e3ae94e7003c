-- Two places made one: the board stays lawful, and the two had nothing in common.
use Rattle.std.proofs.Common.{◌≡◌, ◌≢◌, ℕ, zero, suc, ◌+◌, ◌/◌, ◌%◌, ◌<◌, ◌≤◌, List, [], ◌∷◌, ◌++◌, length, get_or, set, take, sym, refl, ap, ◌∙◌, subst}
use Rattle.std.proofs.Common.{arith, ⊎_elim, length-append, None, Some}
use mathlib.Core.Option.{none, some}
use lib.ListN.{get_elem?}
use Rattle.std.specs.Prelude.{option_to_list, Option}
use Rattle.std.proofs.lemmas.List.{set-get_or}
use Rattle.atomic_table.specs.Table.{step, keeps, Allows}
use Rattle.atomic_table.specs.Seated.{TableId}
use Rattle.atomic_table.proofs.Lists.{at_set, set_again, set_else}
use Rattle.csdf_claims.specs.declared.rule.Track.{Track}
use Rattle.csdf_claims.specs.declared.rule.View.{View}
use Rattle.csdf_claims.specs.declared.place.Entry.{Entry}
use Rattle.csdf_claims.specs.Board.{track_of, times, claims, finishes, word_of, IsLawfulAt, IsLawful, SitsAt, Holds, HasFinished, IsHolding, joined_view}
use Rattle.csdf_claims.specs.Board.{joined_track, spent_view}
use Rattle.csdf_claims.specs.Steps.{Seated, StandTells}
use Rattle.csdf_claims.specs.Face.{IsEntryOf, IsRecordOf, joined_entry, first_of_two}
use Rattle.csdf_claims.proofs.Totals.{times-append, times_one_same, total_set}
use Rattle.csdf_claims.proofs.Tracks.{track_of-joined, length-joined}
use Rattle.csdf_claims.proofs.Moves.{Board, Law}
use Rattle.csdf_claims.proofs.Found.{sits_once, sits_claim, sits_claim_at, sits_count, sits_within}

module _ (places : List View) (i j : ℕ) (v w : View) (at : get_elem? places i ≡ some v) (apart : j ≢ i)
    (other : get_elem? (set places i (joined_view v w)) j ≡ some w)
    (a : ℕ) (both : track_of (joined_view v w) a ≡ joined_track (track_of v a) (track_of w a)) where
  abbrev Ps : List View
  Ps = set (set places i (joined_view v w)) j spent_view

  same_claims : (x : ℕ) → claims Ps a x ≡ claims places a x
  same_claims x =
      let f : View → ℕ = λ u. times x (track_of u a).held in
      let one = total_set f places i v (joined_view v w) at in
      let two = total_set f (set places i (joined_view v w)) j w spent_view other in
      let e : times x (track_of (joined_view v w) a).held ≡ times x (track_of v a).held + times x (track_of w a).held =
      ap (λ (t : Track). times x t.held) both ∙ times-append x (track_of v a).held (track_of w a).held in
      omega arith

  same_finishes : (x : ℕ) → finishes Ps a x ≡ finishes places a x
  same_finishes x =
      let f : View → ℕ = λ u. times x (track_of u a).finished in
      let one = total_set f places i v (joined_view v w) at in
      let two = total_set f (set places i (joined_view v w)) j w spent_view other in
      let e : times x (track_of (joined_view v w) a).finished ≡ times x (track_of v a).finished + times x (track_of w a).finished =
      ap (λ (t : Track). times x t.finished) both ∙ times-append x (track_of v a).finished (track_of w a).finished in
      omega arith

  seen_after : (k : ℕ) → ((seat : ℕ) (u : View) → get_elem? places seat ≡ some u → (track_of u a).seen ≤ k) → (seat : ℕ) (u : View)
      → get_elem? Ps seat ≡ some u → (track_of u a).seen ≤ k
  seen_after k old seat u e =
      let mine = old i v at in
      let theirs = old j w (sym (set_else places i j (joined_view v w) apart) ∙ other) in
      let top : (track_of (joined_view v w) a).seen ≤ k = (let m = ap (λ (t : Track). t.seen) both in omega arith) in
      ⊎_elim (λ t. subst (λ (z : View). (track_of z a).seen ≤ k) t.1 (omega arith))
      (λ t. ⊎_elim (λ t'. subst (λ (z : View). (track_of z a).seen ≤ k) t'.1 top) (λ t'. old seat u t'.1) (at_set places i seat (joined_view v w) u t.1))
      (at_set (set places i (joined_view v w)) j seat spent_view u e)

  joined_at : (k b : ℕ) → IsLawfulAt places a k b → IsLawfulAt Ps a k b
  joined_at k b L = record {
    held = same_claims k ∙ L.held;
    held_elsewhere = λ x ne. same_claims x ∙ L.held_elsewhere x ne;
    finished = λ x h. same_finishes x ∙ L.finished x h;
    unfinished = λ x h. same_finishes x ∙ L.unfinished x h;
    seen = seen_after k L.seen;
  }

pub joins : (actors i j : ℕ) (v w : View) → length v.tracks ≡ actors → length w.tracks ≡ actors → (s : Board) → Law actors s → get_elem? s.views i ≡ some v
    → j ≢ i
    → get_elem? (set s.views i (joined_view v w)) j ≡ some w → IsLawful actors s.words (set (set s.views i (joined_view v w)) j spent_view)
joins actors i j v w lv lw s L at apart other = record {
  count = L.count;
  spare = L.spare;
  within = L.within;
  each = λ a h. joined_at s.views i j v w at apart other a (track_of-joined v.tracks w.tracks a (omega arith) (lw ∙ sym lv)) (word_of s.words a / 2)
      (word_of s.words a % 2) (L.each a h);
}

pub stands : (actors slots id : ℕ) (me : Seated) → length me.0.tracks ≡ actors
    → Allows (Law actors) slots id me 0 (λ n. n) (StandTells (step slots 0 0 0 none) me)
stands actors slots id me n s L _ at _ = (
  me.0,
  keeps,
  tt,
  subst (λ (z : List ℕ × List View). IsLawful actors z.0 z.1) (λ k. (sym (set-get_or s.words 0 0) k, sym (set_again s.views id me.0 at) k)) L,
  (refl, (s.words, s.views, record { lawful = subst (λ (k : ℕ). IsLawful k s.words s.views) (sym n) L; seat = id; here = at })),
)

-- what the joined place says of the two that it was made of
module _ (v w : View) (lens : length w.tracks ≡ length v.tracks) (words : List ℕ) (places : List View) (S : SitsAt (joined_view v w) words places) (a : ℕ)
    (lt : a < length v.tracks) where
  abbrev u : View
  u = joined_view v w

  inside : a < length u.tracks
  inside = let n = length-joined v.tracks w.tracks lens in omega arith

  both : track_of u a ≡ joined_track (track_of v a) (track_of w a)
  both = track_of-joined v.tracks w.tracks a lt lens

  pub no_common_firing : (x : ℕ) → HasFinished v a x → HasFinished w a x → ⊥
  no_common_firing x hv hw =
      let e : times x (track_of u a).finished ≡ times x (track_of v a).finished + times x (track_of w a).finished =
      ap (λ (t : Track). times x t.finished) both ∙ times-append x (track_of v a).finished (track_of w a).finished in
      let o = sits_once u words places S a inside x in absurd (omega arith)

  held_split : (x : ℕ) → times x (track_of u a).held ≡ times x (track_of v a).held + times x (track_of w a).held
  held_split x = ap (λ (t : Track). times x t.held) both ∙ times-append x (track_of v a).held (track_of w a).held

  one_time : (z : View) (k : ℕ) → Holds z a k → times k (track_of z a).held ≡ 1
  one_time z k h = ap (times k) h ∙ times_one_same k k refl

  pub no_common_claim : IsHolding v a → IsHolding w a → ⊥
  no_common_claim hv hw =
      let k : ℕ = hv.0 in let j : ℕ = hw.0 in
      let ek = held_split k in let ej = held_split j in
      let ok = one_time v k hv.1 in let oj = one_time w j hw.1 in
      let pk = sits_claim_at u words places S a inside k (omega arith) in let pj = sits_claim_at u words places S a inside j (omega arith) in
      let same : j ≡ k = omega arith in
      let oj' : times k (track_of w a).held ≡ 1 = subst (λ (z : ℕ). times z (track_of w a).held ≡ 1) same oj in
      let o = sits_claim u words places S a inside k in absurd (omega arith)

  pub few_firings : length (track_of v a).finished + length (track_of w a).finished ≤ 16384001
  few_firings =
      let e : length (track_of u a).finished ≡ length (track_of v a).finished + length (track_of w a).finished =
      ap (λ (t : Track). length t.finished) both ∙ length-append (track_of v a).finished (track_of w a).finished in
      let n = sits_count u words places S a inside in let m = sits_within u words places S a inside in omega arith

-- the entry of the two
held_by_one : (x y : Option ℕ) → ((k j : ℕ) → x ≡ Some k → y ≡ Some j → ⊥) → option_to_list (first_of_two x y) ≡ option_to_list x ++ option_to_list y
held_by_one None y apart = refl
held_by_one (Some k) None apart = refl
held_by_one (Some k) (Some j) apart = absurd (apart k j refl refl)

module _ (es fs new : List Entry) (me ou : Seated) (id id₂ : TableId) (r : IsRecordOf es me id) (q : IsRecordOf fs ou id₂)
    (lens : length ou.0.tracks ≡ length me.0.tracks)
    (size : length new ≡ length es) (sums : (i : ℕ) (d : Entry) → i < length fs → get_or new i d ≡ joined_entry (get_or es i d) (get_or fs i d))
    (apart : (a : ℕ) → a < length me.0.tracks → IsHolding me.0 a → IsHolding ou.0 a → ⊥) where
  both_entries : (a : ℕ) (d : Entry) → a < length es
      → IsEntryOf (joined_entry (get_or es a d) (get_or fs a d)) (joined_track (track_of me.0 a) (track_of ou.0 a))
  both_entries a d h =
      let n = r.entry_count in let m = q.entry_count in
      let e = r.each a d h in let f = q.each a d (omega arith) in
      let x : Option ℕ = (get_or es a d).held in let y : Option ℕ = (get_or fs a d).held in
      let H : List ℕ → List ℕ → List ℕ = λ xs ys. xs ++ ys in
      record {
        finished = omega (arith, length-append (track_of me.0 a).finished (track_of ou.0 a).finished, e.finished, f.finished);
        held = held_by_one x y (λ k j ek ej. apart a (omega arith) (k, sym e.held ∙ ap option_to_list ek) (j, sym f.held ∙ ap option_to_list ej))
            ∙ (λ i. H (e.held i) (f.held i));
      }

  pub record_joined : IsRecordOf new (joined_view me.0 ou.0, me.1) id
  record_joined = record {
    no_slot = r.no_slot;
    tracks = (let n = r.tracks in let l = length-joined me.0.tracks ou.0.tracks lens in omega arith);
    entry_count = size ∙ r.entry_count ∙ sym (length-joined me.0.tracks ou.0.tracks lens);
    each = λ a d h. let n = r.entry_count in let m = q.entry_count in
        let t = track_of-joined me.0.tracks ou.0.tracks a (omega arith) lens in
        subst (λ (z : Track). IsEntryOf (get_or new a d) z) (sym t)
        (subst (λ (z : Entry). IsEntryOf z (joined_track (track_of me.0 a) (track_of ou.0 a))) (sym (sums a d (omega arith))) (both_entries a d (omega arith)));
  }

pub take_front : {A : Type 0} (xs ys : List A) (n : ℕ) → n ≡ length xs → take n (xs ++ ys) ≡ xs
take_front [] ys zero e = refl
take_front [] ys (suc n) e = absurd (omega arith)
take_front (x ∷ xs) ys zero e = absurd (omega arith)
take_front (x ∷ xs) ys (suc n) e = ap (λ zs. x ∷ zs) (take_front xs ys n (omega arith))

-- the steps of a join, put together
pub sits_joined : (me me' me'' : Seated) (u : View) → ◌≡◌ {A = Seated} me' (u, me.1)
    → (me'' ≡ me') × ((words : List ℕ) × (places : List View) × SitsAt me'.0 words places)
    → (◌≡◌ {A = Seated} me'' (u, me.1)) × ((words : List ℕ) × (places : List View) × SitsAt u words places)
sits_joined me me' me'' u e t = let s = t.1 in (t.0 ∙ e, (s.0, s.1, subst (λ (z : Seated). SitsAt z.0 s.0 s.1) e s.2))

-- what the two steps of a join told: the place has both views, and sits with them at a lawful board
pub record Joined (me ou me' : Seated) (actors : ℕ) : Type 0 where
  pub here : length me.0.tracks ≡ actors
  pub there : length ou.0.tracks ≡ actors
  pub lens : length ou.0.tracks ≡ length me.0.tracks
  pub now : ◌≡◌ {A = Seated} me' (joined_view me.0 ou.0, me.1)
  pub sits : (words : List ℕ) × (places : List View) × SitsAt (joined_view me.0 ou.0) words places

-- the sums of the two records fit
pub sums_fit : (es fs : List Entry) (me ou : Seated) (id id₂ : TableId) → IsRecordOf es me id → IsRecordOf fs ou id₂ → length ou.0.tracks ≡ length me.0.tracks
    → (words : List ℕ) (places : List View) → SitsAt (joined_view me.0 ou.0) words places → (i : ℕ) (d : Entry) → i < length fs
    → (get_or es i d).finished + (get_or fs i d).finished < 4294967296
sums_fit es fs me ou id id₂ r q lens words places S i d h =
    let n = r.entry_count in let m = q.entry_count in
    let e = (r.each i d (omega arith)).finished in let f = (q.each i d h).finished in
    let few = few_firings me.0 ou.0 lens words places S i (omega arith) in omega arith
