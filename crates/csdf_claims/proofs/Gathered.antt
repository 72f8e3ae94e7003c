-- What a place has finished, at the end of the board.
use Rattle.std.proofs.Common.{◌≡◌, ◌≢◌, ℕ, ◌/◌, ◌<◌, List, length, get_or, sym, ◌∙◌, subst, arith, None}
use Rattle.atomic_table.specs.Seated.{TableId}
use Rattle.csdf_claims.specs.declared.rule.View.{View}
use Rattle.csdf_claims.specs.declared.place.Entry.{Entry}
use Rattle.csdf_claims.specs.Board.{track_of, word_of, SitsAt, AreAllBelow, Gathers, Lacks}
use Rattle.csdf_claims.specs.Steps.{Seated}
use Rattle.csdf_claims.specs.Face.{IsRecordOf}
use Rattle.csdf_claims.proofs.Found.{sits_count, sits_all, sits_none}

abbrev any_entry : Entry
any_entry = record { finished = 0; held = None }

module _ (es : List Entry) (me : Seated) (id : TableId) (r : IsRecordOf es me id) (words : List ℕ) (places : List View) (S : SitsAt me.0 words places) where
  -- where the record counts what the word says, each firing below it was finished here
  all_below : (a : ℕ) → a < length me.0.tracks → ((d : Entry) → (get_or es a d).finished ≡ word_of words a / 2)
      → AreAllBelow (word_of words a / 2) (track_of me.0 a).finished
  all_below a lt is =
      let n = r.entry_count in
      let full : length (track_of me.0 a).finished ≡ word_of words a / 2 = sym (r.each a any_entry (omega arith)).finished ∙ is any_entry in
      (sits_all me.0 words places S a lt full, sits_none me.0 words places S a lt)

  pub gathers : (totals : List ℕ) → ((i : ℕ) (d : Entry) → i < length es → (get_or es i d).finished ≡ word_of words i / 2)
      → ((i : ℕ) (d : Entry) → i < length es → get_or totals i 0 ≡ (get_or es i d).finished) → Gathers me.0 totals
  gathers totals is writes = (
    words,
    places,
    S,
    λ a h.
        let n = r.entry_count in
        let e : word_of words a / 2 ≡ get_or totals a 0 = sym (writes a any_entry (omega arith) ∙ is a any_entry (omega arith)) in
        (e, subst (λ (k : ℕ). AreAllBelow k (track_of me.0 a).finished) e (all_below a h (λ d. is a d (omega arith)))),
  )

  pub lacks : (a n : ℕ) → a < length es → n ≡ word_of words a / 2 → ((d : Entry) → (get_or es a d).finished ≢ n)
      → ((i : ℕ) (d : Entry) → i < a → (get_or es i d).finished ≡ word_of words i / 2) → Lacks me.0 a n
  lacks a n h is ne first =
      let m = r.entry_count in
      let e = (r.each a any_entry h).finished in
      let few = sits_count me.0 words places S a (omega arith) in
      let other : length (track_of me.0 a).finished ≢ n = λ q. ne any_entry (e ∙ q) in
      (words, places, S, omega arith, sym is, omega arith, λ b lt. all_below b (omega arith) (λ d. first b d lt))
