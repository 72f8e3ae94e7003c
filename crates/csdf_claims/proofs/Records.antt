-- The record of a place says what its view says, before a step and after it.
use Rattle.std.proofs.Common.{◌≡◌, ℕ, ◌+◌, ◌*◌, ◌/◌, ◌%◌, ◌<◌, Bool, true, eqb, cond, List, [], length, get_or, set, sym, ap, ◌∙◌, subst, arith, eq-eqb}
use Rattle.std.proofs.Common.{ne_eqb, get_or-set_same, get_or-set_other, length-set}
use mathlib.Core.Logic.{dite}
use native.Mathlib.Decide.{ℕ_discrete}
use Rattle.std.specs.Prelude.{option_to_list, Some, None}
use Rattle.atomic_table.specs.Seated.{TableId}
use Rattle.csdf_claims.specs.declared.rule.Track.{Track}
use Rattle.csdf_claims.specs.declared.rule.View.{View}
use Rattle.csdf_claims.specs.declared.place.Entry.{Entry}
use Rattle.csdf_claims.specs.Board.{track_of, Holds}
use Rattle.csdf_claims.specs.Steps.{Seated}
use Rattle.csdf_claims.specs.Face.{BoardFace, PlaceFace, IsEntryOf, IsRecordOf}
use Rattle.csdf_claims.specs.declared.place.Place.TheInside as Place
use Rattle.csdf_claims.specs.declared.board.Board.TheInside as Board
use Rattle.csdf_claims.proofs.Moves.{changed, track_here, track_there}

-- a place has as many tracks as its board has actors
pub size_of : (es : List Entry) (me : Seated) (id board : TableId) (actors : ℕ) → IsRecordOf es me id → id ≡ board → board.words ≡ actors + 1
    → length me.0.tracks ≡ actors
size_of es me id board actors r e w = let t = r.tracks in let s : id.words ≡ board.words = ap (λ (z : TableId). z.words) e in omega arith

-- what a call knows of its board and place
pub seated : (p : Place.Inside) (b : Board.Inside) (P : PlaceFace) (B : BoardFace)
    → ◌≡◌ {A = PlaceFace} (record { board = p.seat.table_id; view = p.seat.me.0 }) P
    → ◌≡◌ {A = BoardFace} (record { id = b.table.shared.table_id; actors = b.table.shared.key }) B
    → IsRecordOf p.entries.items p.seat.me p.seat.table_id → b.table.shared.table_id.words ≡ b.table.shared.key + 1 → P.board ≡ B.id
    → (p.seat.table_id ≡ b.table.shared.table_id) × (length p.seat.me.0.tracks ≡ b.table.shared.key) × (0 < b.table.shared.table_id.words)
seated p b P B pv bv r w e =
    let same : p.seat.table_id ≡ b.table.shared.table_id = ap (λ (z : PlaceFace). z.board) pv ∙ e ∙ sym (ap (λ (z : BoardFace). z.id) bv) in
    (same, size_of p.entries.items p.seat.me p.seat.table_id b.table.shared.table_id b.table.shared.key r same w, omega arith)

-- what a call on actor a knows of its board and place, by its conditions and their types
pub record Ready (me : Seated) (id board : TableId) (actors a : ℕ) : Type 0 where
  pub same : id ≡ board
  pub size : length me.0.tracks ≡ actors
  pub actor : a < actors
  pub track : a < length me.0.tracks
  pub word : a + 1 < board.words

pub ready : (p : Place.Inside) (b : Board.Inside) (P : PlaceFace) (B : BoardFace) (a : ℕ)
    → ◌≡◌ {A = PlaceFace} (record { board = p.seat.table_id; view = p.seat.me.0 }) P
    → ◌≡◌ {A = BoardFace} (record { id = b.table.shared.table_id; actors = b.table.shared.key }) B
    → IsRecordOf p.entries.items p.seat.me p.seat.table_id → b.table.shared.table_id.words ≡ b.table.shared.key + 1
    → P.board ≡ B.id → a < B.actors → Ready p.seat.me p.seat.table_id b.table.shared.table_id b.table.shared.key a
ready p b P B a pv bv r w e h =
    let same : p.seat.table_id ≡ b.table.shared.table_id = ap (λ (z : PlaceFace). z.board) pv ∙ e ∙ sym (ap (λ (z : BoardFace). z.id) bv) in
    let size : length p.seat.me.0.tracks ≡ b.table.shared.key =
    size_of p.entries.items p.seat.me p.seat.table_id b.table.shared.table_id b.table.shared.key r same w in
    let acts : b.table.shared.key ≡ B.actors = ap (λ (z : BoardFace). z.actors) bv in
    record { same = same; size = size; actor = omega arith; track = omega arith; word = omega arith }

-- the record's entry says which firing is held
pub entry_held : (es : List Entry) (me : Seated) (id : TableId) (a k : ℕ) (e : Entry) → IsRecordOf es me id → a < length me.0.tracks → e ≡ get_or es a e
    → e.held ≡ Some k → Holds me.0 a k
entry_held es me id a k e r lt is held = let n = r.entry_count in
    sym (r.each a e (omega arith)).held ∙ ap (λ (z : Entry). option_to_list z.held) (sym is) ∙ ap option_to_list held

pub entry_none : (es : List Entry) (me : Seated) (id : TableId) (a : ℕ) (e : Entry) → IsRecordOf es me id → a < length me.0.tracks → e ≡ get_or es a e
    → e.held ≡ None → (track_of me.0 a).held ≡ []
entry_none es me id a e r lt is held = let n = r.entry_count in
    sym (r.each a e (omega arith)).held ∙ ap (λ (z : Entry). option_to_list z.held) (sym is) ∙ ap option_to_list held

pub entry_finished : (es : List Entry) (me : Seated) (id : TableId) (a : ℕ) (e : Entry) → IsRecordOf es me id → a < length me.0.tracks → e ≡ get_or es a e
    → e.finished ≡ length (track_of me.0 a).finished
entry_finished es me id a e r lt is = let n = r.entry_count in ap (λ (z : Entry). z.finished) is ∙ (r.each a e (omega arith)).finished

module _ (es : List Entry) (me me' : Seated) (id id' : TableId) (a : ℕ) (t : Track) (found : ℕ)
    (r : IsRecordOf es me id) (lt : a < length me.0.tracks) (now : ◌≡◌ {A = Seated} me' (changed me.0 a t found, me.1)) (same : id' ≡ id) where
  abbrev u : View
  u = changed me.0 a t found

  -- the step changes nothing that the record has
  kept_at : length t.finished ≡ length (track_of me.0 a).finished → t.held ≡ (track_of me.0 a).held → IsRecordOf es (u, me.1) id
  kept_at ef eh = record {
    no_slot = r.no_slot;
    tracks = let n = r.tracks in let l = length-set me.0.tracks a t in omega arith;
    entry_count = r.entry_count ∙ sym (length-set me.0.tracks a t);
    each = λ c d h. let old = r.each c d h in dite (ℕ_discrete c a)
        (λ e. let P : ℕ → Type 0 = λ b. IsEntryOf (get_or es b d) (track_of u b) in
        let o : IsEntryOf (get_or es a d) (track_of me.0 a) = subst (λ (b : ℕ). IsEntryOf (get_or es b d) (track_of me.0 b)) e old in
        let is = track_here me.0 a t found lt in
        subst P (sym e) (subst (λ (z : Track). IsEntryOf (get_or es a d) z) (sym is) (record { finished = o.finished ∙ sym ef; held = o.held ∙ sym eh })))
        (λ ne. subst (λ (z : Track). IsEntryOf (get_or es c d) z) (sym (track_there me.0 a t found c ne)) old);
  }

  -- the record gets the new entry
  set_at : (e : Entry) → IsEntryOf e t → IsRecordOf (set es a e) (u, me.1) id
  set_at e is_of = record {
    no_slot = r.no_slot;
    tracks = let n = r.tracks in let l = length-set me.0.tracks a t in omega arith;
    entry_count = length-set es a e ∙ (r.entry_count ∙ sym (length-set me.0.tracks a t));
    each = λ c d h. dite (ℕ_discrete c a)
        (λ q. let n = r.entry_count in let room : a < length es = omega arith in
        let P : ℕ → Type 0 = λ b. IsEntryOf (get_or (set es a e) b d) (track_of u b) in
        subst P (sym q) (subst (λ (z : Track). IsEntryOf (get_or (set es a e) a d) z) (sym (track_here me.0 a t found lt))
        (subst (λ (z : Entry). IsEntryOf z t) (sym (get_or-set_same es a e d room)) is_of)))
        (λ ne. let l = length-set es a e in let old = r.each c d (omega arith) in
        subst (λ (z : Track). IsEntryOf (get_or (set es a e) c d) z) (sym (track_there me.0 a t found c ne))
        (subst (λ (z : Entry). IsEntryOf z (track_of me.0 c)) (sym (get_or-set_other es a c e d ne)) old));
  }

  moved_to : (fs : List Entry) → IsRecordOf fs (u, me.1) id → IsRecordOf fs me' id'
  moved_to fs k = let P : Seated × TableId → Type 0 = λ z. IsRecordOf fs z.0 z.1 in subst P (λ i. (sym now i, sym same i)) k

  pub record_kept : length t.finished ≡ length (track_of me.0 a).finished → t.held ≡ (track_of me.0 a).held → IsRecordOf es me' id'
  record_kept ef eh = moved_to es (kept_at ef eh)

  pub record_set : (e : Entry) → IsEntryOf e t → IsRecordOf (set es a e) me' id'
  record_set e is_of = moved_to (set es a e) (set_at e is_of)

pub parity : (n : ℕ) → n ≡ 2 * (n / 2) + cond (eqb (n % 2) 1) 1 0
parity n = dite (ℕ_discrete (n % 2) 1)
    (λ e. let odd : n ≡ 2 * (n / 2) + 1 = omega arith in odd ∙ ap (λ (b : Bool). 2 * (n / 2) + cond b 1 0) (sym (eq-eqb (n % 2) 1 e)))
    (λ ne. let even : n ≡ 2 * (n / 2) + 0 = omega arith in even ∙ ap (λ (b : Bool). 2 * (n / 2) + cond b 1 0) (sym (ne_eqb (n % 2) 1 ne)))

-- the answer of a look at a word that is held at k
pub held_answer : (n k : ℕ) → n ≡ 2 * k + 1 → ◌≡◌ {A = ℕ × Bool} (n / 2, eqb (n % 2) 1) (k, true)
held_answer n k e = let h : n / 2 ≡ k = omega arith in let b : eqb (n % 2) 1 ≡ true = eq-eqb (n % 2) 1 (omega arith) in λ i. (h i, b i)
