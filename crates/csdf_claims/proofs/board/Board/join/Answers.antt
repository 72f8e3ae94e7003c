use Rattle.std.proofs.Common.{◌≡◌, ℕ, ◌+◌, ◌<◌, List, length, get_or, drop, ap, sym, ◌∙◌, arith, subst}
use Rattle.csdf_claims.specs.declared.place.Entry.{Entry}
use Rattle.csdf_claims.specs.Board.{HasFinished, IsHolding, joined_view}
use Rattle.csdf_claims.specs.Steps.{Seated}
use Rattle.csdf_claims.specs.Face.{BoardFace, PlaceFace, IsRecordOf, joined_entry}
use Rattle.csdf_claims.proofs.Records.{seated}
use Rattle.csdf_claims.proofs.Tracks.{length-joined}
use Rattle.csdf_claims.proofs.Openings.{carried_over}
use Rattle.csdf_claims.proofs.Joins.{Joined, joins, stands, sits_joined, sums_fit, record_joined, take_front, no_common_firing, no_common_claim}
use Rattle.csdf_claims.proofs.board.Board.join.Goals as goal

pub join_seat-requires : goal.join_seat-requires
join_seat-requires c =
    let s = seated c.place.inside c.self.inside _ _ c.place.view_is c.self.view_is c.place.invariant c.self.invariant.0 c.requires.place in
    let o = seated c.other.inside c.self.inside _ _ c.other.view_is c.self.view_is c.other.invariant c.self.invariant.0 c.requires.other in
    (s.0, o.0, c.other.invariant.no_slot, s.2, λ st L at ne at'. joins _ _ _ _ _ s.1 o.1 st L at ne at')

pub load-requires : goal.load-requires
load-requires c =
    let s = seated c.place.inside c.self.inside _ _ c.place.view_is c.self.view_is c.place.invariant c.self.invariant.0 c.requires.place in
    let o = seated c.other.inside c.self.inside _ _ c.other.view_is c.self.view_is c.other.invariant c.self.invariant.0 c.requires.other in
    let n : length (joined_view c.place.inside.seat.me.0 c.other.inside.seat.me.0).tracks ≡ c.self.inside.table.shared.key =
    length-joined c.place.inside.seat.me.0.tracks c.other.inside.seat.me.0.tracks (o.1 ∙ sym s.1) ∙ s.1 in
    let size = ap (λ (z : Seated). length z.0.tracks) c.join_seat.ensures.2 ∙ n in
    (c.join_seat.ensures.0 ∙ s.0, s.2, stands _ _ _ c.join_seat.new.seat.me size)

-- what the two steps told, before the records are added
loaded : (c : goal.After-as_slice) → Joined c.place.inside.seat.me c.other.inside.seat.me c.load.new.seat.me c.self.inside.table.shared.key
loaded c =
    let s = seated c.place.inside c.self.inside _ _ c.place.view_is c.self.view_is c.place.invariant c.self.invariant.0 c.requires.place in
    let o = seated c.other.inside c.self.inside _ _ c.other.view_is c.self.view_is c.other.invariant c.self.invariant.0 c.requires.other in
    let t = sits_joined c.place.inside.seat.me c.join_seat.new.seat.me c.load.new.seat.me
    (joined_view c.place.inside.seat.me.0 c.other.inside.seat.me.0) c.join_seat.ensures.2
    c.load.ensures.2 in
    record { here = s.1; there = o.1; lens = o.1 ∙ sym s.1; now = t.0; sits = t.1 }

-- and after it
told : (c : goal.After-drop-entries) → Joined c.place.inside.seat.me c.other.inside.seat.me c.load.new.seat.me c.self.inside.table.shared.key
told c =
    let s = seated c.place.inside c.self.inside _ _ c.place.view_is c.self.view_is c.place.invariant c.self.invariant.0 c.requires.place in
    let o = seated c.other.inside c.self.inside _ _ c.other.view_is c.self.view_is c.other.invariant c.self.invariant.0 c.requires.other in
    let t = sits_joined c.place.inside.seat.me c.join_seat.new.seat.me c.load.new.seat.me
    (joined_view c.place.inside.seat.me.0 c.other.inside.seat.me.0) c.join_seat.ensures.2
    c.load.ensures.2 in
    record { here = s.1; there = o.1; lens = o.1 ∙ sym s.1; now = t.0; sits = t.1 }

pub add_entries-requires-clause-fits : goal.add_entries-requires-clause-fits
add_entries-requires-clause-fits c = let t = loaded c in
    let P : List Entry × List Entry → Type 0 =
    λ z. (i : ℕ) (d : Entry) → i < length z.1 → (get_or z.0 i d).finished + (get_or z.1 i d).finished < 4294967296 in
    subst P (λ k. (sym c.as_mut_slice.ensures.value k, sym c.as_slice.ensures.value k))
    (sums_fit _ _ c.place.inside.seat.me c.other.inside.seat.me _ _ c.place.invariant c.other.invariant t.lens t.sits.0 t.sits.1 t.sits.2)

pub invariant_of-place : goal.invariant_of-place
invariant_of-place c = let t = told c in
    let old : List Entry = c.place.inside.entries.items in
    let new : List Entry = c.add_entries.new.entries in
    let same : length new ≡ length old = c.add_entries.auto.entries ∙ ap length c.as_mut_slice.ensures.value in
    let P : List Entry × List Entry → Type 0 =
    λ z. (i : ℕ) (d : Entry) → i < length z.1 → get_or new i d ≡ joined_entry (get_or z.0 i d) (get_or z.1 i d) in
    let sums : P (old, c.other.inside.entries.items) =
    subst P (λ k. (c.as_mut_slice.ensures.value k, c.as_slice.ensures.value k)) c.add_entries.ensures in
    let r = record_joined _ _ new c.place.inside.seat.me c.other.inside.seat.me _ _ c.place.invariant c.other.invariant t.lens same sums
    (λ a h. no_common_claim c.place.inside.seat.me.0 c.other.inside.seat.me.0 t.lens t.sits.0 t.sits.1 t.sits.2 a h) in
    let room = c.place.inside.entries.ok.0 in
    let front = take_front new (drop (length new) old) c.place.inside.entries.len (omega arith) in
    carried_over _ _ _ _ _ t.now (c.load.ensures.0 ∙ c.join_seat.ensures.0)
    (subst (λ (es : List Entry). IsRecordOf es
    (joined_view c.place.inside.seat.me.0 c.other.inside.seat.me.0, c.place.inside.seat.me.1) c.place.inside.seat.table_id) (sym front) r)

pub returns-clause-firings : goal.returns-clause-firings
returns-clause-firings c a x h hv hw = let t = told c in
    let inside : a < length c.place.inside.seat.me.0.tracks = (let k = ap (λ (z : BoardFace). z.actors) c.self.view_is in let n = t.here in omega arith) in
    let mine = subst (λ (z : PlaceFace). HasFinished z.view a x) (sym c.place.view_is) hv in
    let theirs = subst (λ (z : PlaceFace). HasFinished z.view a x) (sym c.other.view_is) hw in
    no_common_firing c.place.inside.seat.me.0 c.other.inside.seat.me.0 t.lens t.sits.0 t.sits.1 t.sits.2 a inside x mine theirs

pub returns-clause-claims : goal.returns-clause-claims
returns-clause-claims c a h hv hw = let t = told c in
    let inside : a < length c.place.inside.seat.me.0.tracks = (let k = ap (λ (z : BoardFace). z.actors) c.self.view_is in let n = t.here in omega arith) in
    let mine = subst (λ (z : PlaceFace). IsHolding z.view a) (sym c.place.view_is) hv in
    let theirs = subst (λ (z : PlaceFace). IsHolding z.view a) (sym c.other.view_is) hw in
    no_common_claim c.place.inside.seat.me.0 c.other.inside.seat.me.0 t.lens t.sits.0 t.sits.1 t.sits.2 a inside mine theirs
