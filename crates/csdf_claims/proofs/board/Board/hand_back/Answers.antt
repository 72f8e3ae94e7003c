use Rattle.std.proofs.Common.{◌≡◌, ℕ, ◌*◌, sym, ◌∙◌, arith, refl, subst}
use Rattle.csdf_claims.specs.Board.{Finds, Holds, handed_back}
use Rattle.csdf_claims.specs.Face.{PlaceFace}
use Rattle.csdf_claims.proofs.Records.{ready, record_set, entry_held, entry_finished}
use Rattle.csdf_claims.proofs.Claims.{Ended}
use Rattle.csdf_claims.proofs.Moves.{gives_up, head_of}
use Rattle.csdf_claims.proofs.board.Board.hand_back.Goals as goal

pub overflow_mul-back : goal.overflow_mul-back
overflow_mul-back c = omega arith

pub store-requires : goal.store-requires
store-requires c =
    let r = ready c.place.inside c.self.inside _ _ c.args.actor c.place.view_is c.self.view_is c.place.invariant c.self.invariant.0
    c.requires.place c.requires.actor in
    let h = entry_held c.place.inside.entries.items c.place.inside.seat.me c.place.inside.seat.table_id c.args.actor c.in-Some.firing c.index.result.now
    c.place.invariant r.track c.index.ensures c.in-Some.is in
    (r.same, r.word, gives_up _ _ _ _ _ r.size r.actor c.in-Some.firing h)

-- what the store told
told : (c : goal.After-place-1)
    → Ended c.place.inside.seat.me c.store.new.seat.me c.args.actor c.in-Some.firing (2 * c.in-Some.firing) (handed_back c.place.inside.seat.me.0 c.args.actor)
told c =
    let r = ready c.place.inside c.self.inside _ _ c.args.actor c.place.view_is c.self.view_is c.place.invariant c.self.invariant.0
    c.requires.place c.requires.actor in
    let h = entry_held c.place.inside.entries.items c.place.inside.seat.me c.place.inside.seat.table_id c.args.actor c.in-Some.firing c.index.result.now
    c.place.invariant r.track c.index.ensures c.in-Some.is in
    let t = c.store.ensures.2 c.args.actor c.in-Some.firing refl r.track h in
    record { track = r.track; held = h; now = t.0; after = t.1 }

pub invariant_of-place : goal.invariant_of-place
invariant_of-place c = let t = told c in
    let n = entry_finished _ _ _ _ c.index_mut.result.now c.place.invariant t.track c.index_mut.ensures.value in
    record_set _ _ _ _ _ c.args.actor _ _ c.place.invariant t.track t.now c.store.ensures.0 _
    (record { finished = n; held = refl })

pub returns-clause-left : goal.returns-clause-left
returns-clause-left c k has = let t = told c in
    let e : c.in-Some.firing ≡ k = head_of (sym t.held ∙ subst (λ (z : PlaceFace). Holds z.view c.args.actor k) (sym c.place.view_is) has) in
    subst (λ (z : ℕ). Finds c.store.new.seat.me.0 c.args.actor (2 * z)) e t.after
