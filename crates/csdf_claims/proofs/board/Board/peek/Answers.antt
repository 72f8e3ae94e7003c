use Rattle.std.proofs.Common.{ℕ, ap, sym, ◌∙◌, arith, refl, subst}
use Rattle.csdf_claims.specs.declared.rule.View.{View}
use Rattle.csdf_claims.specs.Board.{Finds, Holds, KeepsAll, KeepsJust}
use Rattle.csdf_claims.specs.Steps.{Seated}
use Rattle.csdf_claims.specs.Face.{PlaceFace}
use Rattle.csdf_claims.proofs.Found.{found_within, found_held}
use Rattle.csdf_claims.proofs.Records.{ready, record_kept, parity, held_answer}
use Rattle.csdf_claims.proofs.Moves.{looks}
use Rattle.csdf_claims.proofs.Claims.{Looked}
use Rattle.csdf_claims.proofs.Keeps.{just_keeps, looked_just}
use Rattle.csdf_claims.proofs.board.Board.peek.Goals as goal

pub load-found-requires : goal.load-found-requires
load-found-requires c =
    let r = ready c.place.inside c.self.inside _ _ c.args.actor c.place.view_is c.self.view_is c.place.invariant c.self.invariant.0
    c.requires.place c.requires.actor in
    (r.same, r.word, looks _ _ _ _ _ r.size r.actor)

-- what the load told
told : (c : goal.After-load-found) → Looked c.place.inside.seat.me c.load-found.new.seat.me c.args.actor c.load-found.result
told c =
    let r = ready c.place.inside c.self.inside _ _ c.args.actor c.place.view_is c.self.view_is c.place.invariant c.self.invariant.0
    c.requires.place c.requires.actor in
    let t = c.load-found.ensures.2 c.args.actor refl r.track in
    record { track = r.track; before = t.0; now = t.1; after = t.2 }

pub overflow_cast-result : goal.overflow_cast-result
overflow_cast-result c = let t = told c in omega (arith, found_within _ _ _ t.before t.track)

pub invariant_of-place : goal.invariant_of-place
invariant_of-place c = let t = told c in
    record_kept _ _ _ _ _ c.args.actor _ _ c.place.invariant t.track t.now c.load-found.ensures.0 refl refl

pub returns-clause-answer : goal.returns-clause-answer
returns-clause-answer c = ap (λ (z : Seated). z.0.found) (told c).now ∙ parity c.load-found.result

pub returns-clause-found : goal.returns-clause-found
returns-clause-found c = let t = told c in
    let P : View × ℕ → Type 0 = λ z. Finds z.0 c.args.actor z.1 in
    subst P (λ i. (ap (λ (z : PlaceFace). z.view) c.place.view_is i, ap (λ (z : Seated). z.0.found) (sym t.now) i)) t.before

pub returns-clause-own : goal.returns-clause-own
returns-clause-own c k has = let t = told c in
    let mine = subst (λ (z : PlaceFace). Holds z.view c.args.actor k) (sym c.place.view_is) has in
    held_answer _ k (found_held _ _ _ t.before t.track k mine)

pub returns-clause-left : goal.returns-clause-left
returns-clause-left c = let t = told c in
    subst (Finds c.load-found.new.seat.me.0 c.args.actor) (ap (λ (z : Seated). z.0.found) (sym t.now)) t.after

-- a look changes neither held nor finished firings
just : (c : goal.After-load-found) → KeepsJust c.place.inside.seat.me.0 c.load-found.new.seat.me.0
just c = looked_just c.place.inside.seat.me.0 _ c.args.actor _ (ap (λ (z : Seated). z.0) (told c).now)

pub returns-clause-keeps : goal.returns-clause-keeps
returns-clause-keeps c =
    subst (λ (z : PlaceFace). KeepsAll z.view c.load-found.new.seat.me.0) c.place.view_is
    (just_keeps c.place.inside.seat.me.0 c.load-found.new.seat.me.0 (just c))

pub returns-clause-no_more : goal.returns-clause-no_more
returns-clause-no_more c = subst (λ (z : PlaceFace). KeepsJust z.view c.load-found.new.seat.me.0) c.place.view_is (just c)
