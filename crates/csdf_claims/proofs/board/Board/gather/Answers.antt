use Rattle.std.proofs.Common.{◌≡◌, ◌≢◌, ℕ, ◌/◌, ◌<◌, List, length, get_or, sym, subst}
use Rattle.std.specs.Mem.Slots.{slots_items}
use Rattle.csdf_claims.specs.declared.place.Entry.{Entry}
use Rattle.csdf_claims.specs.Board.{word_of, IsLawful, SitsAt, Gathers, Lacks}
use Rattle.csdf_claims.specs.Face.{PlaceFace}
use Rattle.csdf_claims.proofs.Records.{seated}
use Rattle.csdf_claims.proofs.Gathered.{gathers, lacks}
use Rattle.csdf_claims.proofs.board.Board.gather.Goals as goal

pub returns-in-Some-clause-missing : goal.returns-in-Some-clause-missing
returns-in-Some-clause-missing c = let s =
    seated c.place.inside c.self.inside _ _ c.place.view_is c.self.view_is c.place.invariant c.self.invariant.0 c.requires.place in
    let f = c.close_with-closed.ensures.values.2 in
    let ws : List ℕ = slots_items c.close_with-closed.result.words in
    let S : SitsAt c.place.inside.seat.me.0 ws f.0.views =
    record { lawful = subst (λ (z : ℕ × List ℕ). IsLawful z.0 z.1 f.0.views) (λ k. (sym s.1 k, f.2 k)) f.1.0; seat = c.place.inside.seat.id; here = f.1.1 } in
    let es : List Entry = c.place.inside.entries.items in
    let some = c.in-Some.ensures.some in
    let P : List Entry → Type 0 = λ z. (c.in-Some.missing.0 < length z) × ((d : Entry) → (get_or z c.in-Some.missing.0 d).finished ≢ c.in-Some.missing.1)
    × ((i : ℕ) (d : Entry) → i < c.in-Some.missing.0 → (get_or z i d).finished ≡ word_of ws i / 2) in
    let facts : P es = subst P c.as_slice.ensures.value (some.0, some.2, c.in-Some.ensures.first) in
    subst (λ (z : PlaceFace). Lacks z.view c.in-Some.missing.0 c.in-Some.missing.1) c.place.view_is
    (lacks es c.place.inside.seat.me _ c.place.invariant ws f.0.views S c.in-Some.missing.0 c.in-Some.missing.1 facts.0 some.1 facts.1 facts.2)

pub returns-clause-all : goal.returns-clause-all
returns-clause-all c = let s = seated c.place.inside c.self.inside _ _ c.place.view_is c.self.view_is c.place.invariant c.self.invariant.0 c.requires.place in
    let f = c.close_with-closed.ensures.values.2 in
    let ws : List ℕ = slots_items c.close_with-closed.result.words in
    let S : SitsAt c.place.inside.seat.me.0 ws f.0.views =
    record { lawful = subst (λ (z : ℕ × List ℕ). IsLawful z.0 z.1 f.0.views) (λ k. (sym s.1 k, f.2 k)) f.1.0; seat = c.place.inside.seat.id; here = f.1.1 } in
    let es : List Entry = c.place.inside.entries.items in
    let is : (i : ℕ) (d : Entry) → i < length es → (get_or es i d).finished ≡ word_of ws i / 2 =
    subst (λ (z : List Entry). (i : ℕ) (d : Entry) → i < length z → (get_or z i d).finished
    ≡ word_of ws i / 2) c.as_slice.ensures.value c.in_default.ensures.none in
    let writes : (i : ℕ) (d : Entry) → i < length es → get_or c.write_totals.new.totals i 0 ≡ (get_or es i d).finished =
    subst (λ (z : List Entry). (i : ℕ) (d : Entry) → i < length z → get_or c.write_totals.new.totals i 0 ≡
    (get_or z i d).finished) c.as_slice-2.ensures.value c.write_totals.ensures in
    subst (λ (z : PlaceFace). Gathers z.view c.write_totals.new.totals) c.place.view_is
    (gathers es c.place.inside.seat.me _ c.place.invariant ws f.0.views S c.write_totals.new.totals is writes)
