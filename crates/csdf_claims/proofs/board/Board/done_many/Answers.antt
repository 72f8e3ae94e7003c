use Rattle.std.proofs.Common.{◌≡◌, ℕ, ◌+◌, ◌*◌, ◌<◌, ◌≤◌, sym, ◌∙◌, arith, refl, subst, length-append}
use Rattle.std.proofs.lemmas.List.FromFn.{length-range_with_len}
use Rattle.std.specs.List.{range_with_len}
use Rattle.csdf_claims.specs.Board.{Finds, Holds, track_of, finished_block}
use Rattle.csdf_claims.specs.Face.{PlaceFace}
use Rattle.csdf_claims.proofs.Records.{ready, record_set, entry_held, entry_finished}
use Rattle.csdf_claims.proofs.Claims.{Ended, count_before, each_once}
use Rattle.csdf_claims.proofs.Moves.{finishes_firings, head_of}
use Rattle.csdf_claims.proofs.board.Board.done_many.Goals as goal

pub overflow_mul-next : goal.overflow_mul-next
overflow_mul-next c = omega arith

pub overflow_add-next : goal.overflow_add-next
overflow_add-next c = omega arith

pub store-requires : goal.store-requires
store-requires c =
    let r = ready c.place.inside c.self.inside _ _ c.args.actor c.place.view_is c.self.view_is c.place.invariant c.self.invariant.0
    c.requires.place c.requires.actor in
    let h = entry_held c.place.inside.entries.items c.place.inside.seat.me c.place.inside.seat.table_id c.args.actor c.in-Some.firing c.index.result.now
    c.place.invariant r.track c.index.ensures c.in-Some.is in
    let outside = subst (λ (z : PlaceFace). Holds z.view c.args.actor c.in-Some.firing) c.place.view_is h in
    let fits : 1 < c.args.count → c.in-Some.firing + c.args.count ≤ 16384001 = λ several. c.requires.fits c.in-Some.firing several outside in
    (r.same, r.word, finishes_firings _ _ _ _ _ r.size r.actor c.in-Some.firing c.args.count h c.requires.count fits)

pub overflow_add-entry : goal.overflow_add-entry
overflow_add-entry c =
    let r = ready c.place.inside c.self.inside _ _ c.args.actor c.place.view_is c.self.view_is c.place.invariant c.self.invariant.0
    c.requires.place c.requires.actor in
    let h = entry_held c.place.inside.entries.items c.place.inside.seat.me c.place.inside.seat.table_id c.args.actor c.in-Some.firing c.index.result.now
    c.place.invariant r.track c.index.ensures c.in-Some.is in
    let t = c.store.ensures.2 c.args.actor c.in-Some.firing c.args.count refl r.track refl h in
    let n = entry_finished _ _ _ _ c.index_mut-entry.result.now c.place.invariant r.track c.index_mut-entry.ensures.value in
    let m = count_before c.place.inside.seat.me c.store.new.seat.me c.args.actor c.in-Some.firing c.args.count t.0 r.track t.1 in
    omega arith

-- what the store told
told : (c : goal.After-place-1)
    → Ended c.place.inside.seat.me c.store.new.seat.me c.args.actor c.in-Some.firing (2 * (c.in-Some.firing + c.args.count))
    (finished_block c.place.inside.seat.me.0 c.args.actor c.in-Some.firing c.args.count)
told c =
    let r = ready c.place.inside c.self.inside _ _ c.args.actor c.place.view_is c.self.view_is c.place.invariant c.self.invariant.0
    c.requires.place c.requires.actor in
    let h = entry_held c.place.inside.entries.items c.place.inside.seat.me c.place.inside.seat.table_id c.args.actor c.in-Some.firing c.index.result.now
    c.place.invariant r.track c.index.ensures c.in-Some.is in
    let t = c.store.ensures.2 c.args.actor c.in-Some.firing c.args.count refl r.track refl h in
    record { track = r.track; held = h; now = t.0; after = t.1 }

pub invariant_of-place : goal.invariant_of-place
invariant_of-place c = let t = told c in
    let n = entry_finished _ _ _ _ c.index_mut-entry.result.now c.place.invariant t.track c.index_mut-entry.ensures.value in
    record_set _ _ _ _ _ c.args.actor _ _ c.place.invariant t.track t.now c.store.ensures.0 _
    (record {
      finished = omega (
        arith,
        length-append (track_of c.place.inside.seat.me.0 c.args.actor).finished (range_with_len c.in-Some.firing c.args.count),
        length-range_with_len c.in-Some.firing c.args.count,
      );
      held = refl;
    })

-- the firing of the caller's clause is the one of the record
is_held : (c : goal.After-place-1) (k : ℕ) → Holds c.args.place.now.view c.args.actor k → c.in-Some.firing ≡ k
is_held c k has = head_of (sym (told c).held ∙ subst (λ (z : PlaceFace). Holds z.view c.args.actor k) (sym c.place.view_is) has)

pub returns-clause-left : goal.returns-clause-left
returns-clause-left c k has =
    subst (λ (z : ℕ). Finds c.store.new.seat.me.0 c.args.actor (2 * (z + c.args.count))) (is_held c k has) (told c).after

pub returns-clause-each : goal.returns-clause-each
returns-clause-each c k x has low high = let t = told c in let e = is_held c k has in
    each_once c.place.inside.seat.me c.store.new.seat.me c.args.actor c.in-Some.firing c.args.count t.now t.track t.after x (omega arith) (omega arith)
