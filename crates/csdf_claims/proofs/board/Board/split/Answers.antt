use Rattle.std.proofs.Common.{◌≡◌, length, ap, sym, ◌∙◌, arith, refl, []}
use Rattle.csdf_claims.specs.Face.{BoardFace, PlaceFace}
use Rattle.csdf_claims.proofs.Tracks.{fresh}
use Rattle.csdf_claims.proofs.Openings.{splits, record_blank, idle_newcomer, carried_over}
use Rattle.std.proofs.lemmas.List.{length-map}
use Rattle.csdf_claims.specs.Board.{newcomer_view}
use Rattle.csdf_claims.specs.Steps.{Seated}
use Rattle.csdf_claims.proofs.Keeps.{newcomer_blank}
use Rattle.csdf_claims.proofs.board.Board.split.Goals as goal

pub split_seat-seat-requires : goal.split_seat-seat-requires
split_seat-seat-requires c =
    let same = ap (λ (z : PlaceFace). z.board) c.place.view_is ∙ c.requires ∙ sym (ap (λ (z : BoardFace). z.id) c.self.view_is) in
    let w = c.self.invariant.0 in
    (same, omega arith, λ s L at. splits _ _ _ s L at)

pub invariant_of-result : goal.invariant_of-result
invariant_of-result c =
    let old = c.place.invariant in
    let n = c.len.ensures in
    let m : length (newcomer_view c.place.inside.seat.me.0).tracks ≡ length c.place.inside.seat.me.0.tracks =
    length-map c.place.inside.seat.me.0.tracks fresh in
    let k = old.tracks in let l = old.entry_count in let o = c.place.inside.entries.ok.0 in
    carried_over _ (newcomer_view c.place.inside.seat.me.0, []) _ c.place.inside.seat.table_id _ c.split_seat-seat.ensures.4 c.split_seat-seat.ensures.3
    (record_blank _ _ _ c.len.result c.in_ok-entries.ensures refl (omega arith) (omega arith) (idle_newcomer c.place.inside.seat.me.0))

pub returns-clause-blank : goal.returns-clause-blank
returns-clause-blank c = newcomer_blank c.place.inside.seat.me.0 _ (ap (λ (z : Seated). z.0) c.split_seat-seat.ensures.4)
