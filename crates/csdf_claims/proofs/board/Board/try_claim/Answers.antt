use Rattle.std.proofs.Common.{◌≡◌, ℕ, ◌/◌, ◌≤◌, ap, sym, ◌∙◌, arith, refl, subst}
use Rattle.csdf_claims.specs.declared.rule.View.{View}
use Rattle.csdf_claims.specs.Board.{Finds, KeepsAll, KeepsJust, track_of, looked, claimed, word_after_claim}
use Rattle.csdf_claims.specs.declared.place.Entry.{Entry}
use Rattle.csdf_claims.specs.Steps.{Seated}
use Rattle.csdf_claims.specs.Face.{PlaceFace, LostBy}
use Rattle.csdf_claims.proofs.Found.{found_within, found_seen}
use Rattle.csdf_claims.proofs.Records.{ready, record_kept, record_set}
use Rattle.csdf_claims.proofs.Claims.{Tried, won_now, lost_now, found_now, holds_now}
use Rattle.csdf_claims.proofs.Moves.{claims_firing}
use Rattle.csdf_claims.proofs.Keeps.{just_keeps, looked_just, claimed_keeps}
use Rattle.csdf_claims.proofs.board.Board.try_claim.Goals as goal

pub compare_exchange-found-requires : goal.compare_exchange-found-requires
compare_exchange-found-requires c =
    let r = ready c.place.inside c.self.inside _ _ c.args.actor c.place.view_is c.self.view_is c.place.invariant c.self.invariant.0
    c.requires.place c.requires.actor in
    (r.same, r.word, claims_firing _ _ _ _ _ r.size r.actor c.args.firing c.requires.firing)

pub lost_by-requires : goal.lost_by-requires
lost_by-requires c =
    let r = ready c.place.inside c.self.inside _ _ c.args.actor c.place.view_is c.self.view_is c.place.invariant c.self.invariant.0
    c.requires.place c.requires.actor in
    found_within _ _ _ (c.compare_exchange-found.ensures.2 c.args.actor c.args.firing refl r.track refl).0 r.track

-- what the compare-exchange told, where the claim was lost
lost_told : (c : goal.After-lost_by)
    → Tried c.place.inside.seat.me c.compare_exchange-found.new.seat.me c.args.actor c.args.firing c.compare_exchange-found.result
lost_told c =
    let r = ready c.place.inside c.self.inside _ _ c.args.actor c.place.view_is c.self.view_is c.place.invariant c.self.invariant.0
    c.requires.place c.requires.actor in
    let t = c.compare_exchange-found.ensures.2 c.args.actor c.args.firing refl r.track refl in
    let f = found_now c.place.inside.seat.me c.compare_exchange-found.new.seat.me c.args.actor c.args.firing c.compare_exchange-found.result t.1 in
    record { track = r.track; before = t.0; now = t.1; after = t.2; found = f }

-- and where it was won
won_told : (c : goal.After-place-1)
    → Tried c.place.inside.seat.me c.compare_exchange-found.new.seat.me c.args.actor c.args.firing c.compare_exchange-found.result
won_told c =
    let r = ready c.place.inside c.self.inside _ _ c.args.actor c.place.view_is c.self.view_is c.place.invariant c.self.invariant.0
    c.requires.place c.requires.actor in
    let t = c.compare_exchange-found.ensures.2 c.args.actor c.args.firing refl r.track refl in
    let f = found_now c.place.inside.seat.me c.compare_exchange-found.new.seat.me c.args.actor c.args.firing c.compare_exchange-found.result t.1 in
    record { track = r.track; before = t.0; now = t.1; after = t.2; found = f }

-- a lost claim is a look, and a won one gives the place the firing
is_look : (c : goal.After-lost_by)
    → ◌≡◌ {A = Seated} c.compare_exchange-found.new.seat.me
    (looked c.place.inside.seat.me.0 c.args.actor c.compare_exchange-found.result, c.place.inside.seat.me.1)
is_look c = lost_now c.place.inside.seat.me c.compare_exchange-found.new.seat.me c.args.actor c.args.firing c.compare_exchange-found.result
    (lost_told c).now c.if-found-idle.true

is_claim : (c : goal.After-place-1)
    → ◌≡◌ {A = Seated} c.compare_exchange-found.new.seat.me (claimed c.place.inside.seat.me.0 c.args.actor c.args.firing, c.place.inside.seat.me.1)
is_claim c = won_now c.place.inside.seat.me c.compare_exchange-found.new.seat.me c.args.actor c.args.firing c.compare_exchange-found.result
    (won_told c).now c.if-found-idle.false

pub invariant_of-place : goal.invariant_of-place
invariant_of-place c =
    record_kept _ _ _ _ _ c.args.actor _ _ c.place.invariant (lost_told c).track (is_look c) c.compare_exchange-found.ensures.0 refl refl

pub returns-then-found-idle-clause-answer : goal.returns-then-found-idle-clause-answer
returns-then-found-idle-clause-answer c =
    subst (λ (z : ℕ). LostBy c.args.firing z c.lost_by.result) (sym (lost_told c).found) (c.lost_by.ensures c.args.firing c.if-found-idle.true)

pub returns-then-found-idle-clause-lost : goal.returns-then-found-idle-clause-lost
returns-then-found-idle-clause-lost c =
    let P : View × ℕ → Type 0 = λ z. c.compare_exchange-found.new.seat.me.0 ≡ looked z.0 c.args.actor z.1 in
    let now = ap (λ (z : Seated). z.0) (is_look c) in
    subst P (λ i. (ap (λ (z : PlaceFace). z.view) c.place.view_is i, sym (lost_told c).found i)) now

-- a look changes neither held nor finished firings
just : (c : goal.After-lost_by) → KeepsJust c.place.inside.seat.me.0 c.compare_exchange-found.new.seat.me.0
just c = looked_just c.place.inside.seat.me.0 _ c.args.actor _ (ap (λ (z : Seated). z.0) (is_look c))

pub returns-then-found-idle-clause-keeps : goal.returns-then-found-idle-clause-keeps
returns-then-found-idle-clause-keeps c =
    subst (λ (z : PlaceFace). KeepsAll z.view c.compare_exchange-found.new.seat.me.0) c.place.view_is
    (just_keeps c.place.inside.seat.me.0 c.compare_exchange-found.new.seat.me.0 (just c))

pub returns-then-found-idle-clause-no_more : goal.returns-then-found-idle-clause-no_more
returns-then-found-idle-clause-no_more c = subst (λ (z : PlaceFace). KeepsJust z.view c.compare_exchange-found.new.seat.me.0) c.place.view_is (just c)

pub invariant_of-place-2 : goal.invariant_of-place-2
invariant_of-place-2 c = let t = won_told c in let e : Entry = c.index_mut.result.now in
    let old = c.place.invariant.each c.args.actor e (let n = c.place.invariant.entry_count in let l = t.track in omega arith) in
    record_set _ _ _ _ _ c.args.actor _ _ c.place.invariant t.track (is_claim c) c.compare_exchange-found.ensures.0 _
    (record { finished = ap (λ (z : Entry). z.finished) c.index_mut.ensures.value ∙ old.finished; held = refl })

pub returns-clause-answer : goal.returns-clause-answer
returns-clause-answer c = (won_told c).found ∙ c.if-found-idle.false

pub returns-clause-holds : goal.returns-clause-holds
returns-clause-holds c = let t = won_told c in
    holds_now c.place.inside.seat.me c.compare_exchange-found.new.seat.me c.args.actor c.args.firing c.compare_exchange-found.result
    t.now c.if-found-idle.false t.track

pub returns-clause-keeps : goal.returns-clause-keeps
returns-clause-keeps c = let t = won_told c in
    let free = subst (Finds c.place.inside.seat.me.0 c.args.actor) c.if-found-idle.false t.before in
    subst (λ (z : PlaceFace). KeepsAll z.view c.compare_exchange-found.new.seat.me.0) c.place.view_is
    (claimed_keeps c.place.inside.seat.me.0 _ c.args.actor c.args.firing (ap (λ (z : Seated). z.0) (is_claim c)) free t.track)

pub returns-then-found-idle-clause-found : goal.returns-then-found-idle-clause-found
returns-then-found-idle-clause-found c = let t = lost_told c in
    let P : View × ℕ → Type 0 = λ z. Finds z.0 c.args.actor z.1 in
    subst P (λ i. (ap (λ (z : PlaceFace). z.view) c.place.view_is i, sym t.found i)) t.before

pub returns-then-found-idle-clause-left : goal.returns-then-found-idle-clause-left
returns-then-found-idle-clause-left c = let t = lost_told c in
    let P : ℕ → Type 0 = λ z. Finds c.compare_exchange-found.new.seat.me.0 c.args.actor (word_after_claim c.args.firing z) in
    subst P (sym t.found) t.after

pub returns-then-found-idle-clause-seen : goal.returns-then-found-idle-clause-seen
returns-then-found-idle-clause-seen c = let t = lost_told c in
    let P : View × ℕ → Type 0 = λ z. (track_of z.0 c.args.actor).seen ≤ z.1 / 2 in
    subst P (λ i. (ap (λ (z : PlaceFace). z.view) c.place.view_is i, sym t.found i)) (found_seen _ _ _ t.before t.track)

pub returns-clause-found : goal.returns-clause-found
returns-clause-found c = let t = won_told c in
    let P : View × ℕ → Type 0 = λ z. Finds z.0 c.args.actor z.1 in
    subst P (λ i. (ap (λ (z : PlaceFace). z.view) c.place.view_is i, sym t.found i)) t.before

pub returns-clause-left : goal.returns-clause-left
returns-clause-left c = let t = won_told c in
    let P : ℕ → Type 0 = λ z. Finds c.compare_exchange-found.new.seat.me.0 c.args.actor (word_after_claim c.args.firing z) in
    subst P (sym t.found) t.after

pub returns-clause-seen : goal.returns-clause-seen
returns-clause-seen c = let t = won_told c in
    let P : View × ℕ → Type 0 = λ z. (track_of z.0 c.args.actor).seen ≤ z.1 / 2 in
    subst P (λ i. (ap (λ (z : PlaceFace). z.view) c.place.view_is i, sym t.found i)) (found_seen _ _ _ t.before t.track)
