-- What a place holds after a claim, after a refused start, and after a firing.
use Rattle.std.proofs.Common.{◌≡◌, ◌≢◌, ℕ, zero, suc, ◌+◌, ◌*◌, ◌<◌, ◌≤◌, List, [], ◌∷◌, ◌++◌, Option, Some, None, get_or, set, length, refl, sym, ap, subst, ◌∙◌, arith, eq-eqb}
use Rattle.std.specs.List.{range_with_len}
use Rattle.csdf_claims.specs.declared.rule.Track.{Track}
use Rattle.csdf_claims.specs.declared.rule.View.{View}
use Rattle.csdf_claims.specs.Board.{blank, track_of, times, one_if, Holds, Finds, HasFinished, IsHolding, KeepsAll, KeepsJust, claimed, finished_block, finished_view, handed_back}
use Rattle.csdf_claims.specs.Board.{newcomer_view, opening_view}
use Rattle.csdf_claims.proofs.Found.{found_held}
use Rattle.csdf_claims.proofs.Tracks.{track_of-newcomer, track_of-opening}
use Rattle.csdf_crew.specs.declared.claims.Claim.{Claim}
use Rattle.csdf_crew.specs.Workers.{HoldsNothing, HasClaim, AreApart, HoldsJust, HasMade, CanEnd}

-- another track was changed
set_held : (ts : List Track) (a b : ℕ) (t : Track) → b ≢ a → (get_or (set ts a t) b blank).held ≡ (get_or ts b blank).held
set_held [] a b t ne = refl
set_held (x ∷ xs) zero zero t ne = absurd (ne refl)
set_held (x ∷ xs) zero (suc b) t ne = refl
set_held (x ∷ xs) (suc a) zero t ne = refl
set_held (x ∷ xs) (suc a) (suc b) t ne = set_held xs a b t (λ e. ne (ap suc e))

-- a track that holds nothing was put in
cleared : (ts : List Track) (a b : ℕ) (t : Track) → t.held ≡ [] → (b ≢ a → (get_or ts b blank).held ≡ []) → (get_or (set ts a t) b blank).held ≡ []
cleared [] a b t none others = refl
cleared (x ∷ xs) zero zero t none others = none
cleared (x ∷ xs) zero (suc b) t none others = others (λ e. cc)
cleared (x ∷ xs) (suc a) zero t none others = others (λ e. cc)
cleared (x ∷ xs) (suc a) (suc b) t none others = cleared xs a b t none (λ ne. others (λ e. ne (omega arith)))

-- x stands in a list that ends with it
ends_with : (x : ℕ) (ys : List ℕ) → 0 < times x (ys ++ x ∷ [])
ends_with x [] = let e = ap one_if (eq-eqb x x refl) in omega arith
ends_with x (y ∷ ys) = let h = ends_with x ys in omega arith

-- the actor that is held has a track
finished_at : (ts : List Track) (a k : ℕ) (t : Track) → (get_or ts a blank).held ≡ k ∷ [] → 0 < times k t.finished
    → 0 < times k (get_or (set ts a t) a blank).finished
finished_at [] a k t held h = absurd (let e : ◌≡◌ {A = List ℕ} [] (k ∷ []) = held in cc)
finished_at (x ∷ xs) zero k t held h = h
finished_at (x ∷ xs) (suc a) k t held h = finished_at xs a k t held h

held_within : (ts : List Track) (a k : ℕ) → (get_or ts a blank).held ≡ k ∷ [] → a < length ts
held_within [] a k held = absurd (let e : ◌≡◌ {A = List ℕ} [] (k ∷ []) = held in cc)
held_within (x ∷ xs) zero k held = omega arith
held_within (x ∷ xs) (suc a) k held = let h = held_within xs a k held in omega arith

-- a track was changed in what it holds alone
same_finished : (ts : List Track) (a b : ℕ) (t : Track) → t.finished ≡ (get_or ts a blank).finished → (get_or (set ts a t) b blank).finished ≡ (get_or ts b blank).finished
same_finished [] a b t e = refl
same_finished (x ∷ xs) zero zero t e = e
same_finished (x ∷ xs) zero (suc b) t e = refl
same_finished (x ∷ xs) (suc a) zero t e = refl
same_finished (x ∷ xs) (suc a) (suc b) t e = same_finished xs a b t e

pub nothing_just : (v : View) → HoldsNothing v → HoldsJust v None None
nothing_just v none = record { first = tt; second = tt; apart = tt; no_more = λ b _ _. none b }

pub just_nothing : (v : View) → HoldsJust v None None → HoldsNothing v
just_nothing v h b = h.no_more b tt tt

pub swapped : (v : View) (c : Option Claim) → HoldsJust v None c → HoldsJust v c None
swapped v None h = h
swapped v (Some c) h = record { first = h.second; second = tt; apart = tt; no_more = λ b p q. h.no_more b q p }

-- what is held stays so where nothing that is held changes
has_same : (v w : View) (c : Option Claim) → KeepsJust v w → HasClaim v c → HasClaim w c
has_same v w None just h = tt
has_same v w (Some c) just h = (just c.actor).0 ∙ h

pub keeps_just : (v w : View) (c d : Option Claim) → KeepsJust v w → HoldsJust v c d → HoldsJust w c d
keeps_just v w c d just h = record {
  first = has_same v w c just h.first;
  second = has_same v w d just h.second;
  apart = h.apart;
  no_more = λ b p q. (just b).0 ∙ h.no_more b p q;
}

keeps_claim : (v w : View) (c : Option Claim) → KeepsAll v w → HasClaim v c → HasClaim w c
keeps_claim v w None keeps h = tt
keeps_claim v w (Some c) keeps h = (keeps c.actor c.firing).0 h

-- a claim was won of an actor whose word was even, so the place did not hold it
odd_apart : (v : View) (c : Option Claim) (d : Claim) → HasClaim v c → Finds v d.actor (2 * d.firing) → AreApart c (Some d)
odd_apart v None d has found = tt
odd_apart v (Some c) d has found =
    λ e. let h : Holds v d.actor c.firing = subst (λ (a : ℕ). Holds v a c.firing) e has in
    let odd = found_held v d.actor (2 * d.firing) found (held_within v.tracks d.actor c.firing h) c.firing h in absurd (omega arith)

-- a claim was won beside what was held
pub won_just : (v w : View) (c : Option Claim) (d : Claim) → HoldsJust v c None → w ≡ claimed v d.actor d.firing → KeepsAll v w → Holds w d.actor d.firing
    → Finds v d.actor (2 * d.firing) → HoldsJust w c (Some d)
won_just v w c d h is keeps holds found =
    let t : Track = record (track_of v d.actor) { held = d.firing ∷ []; seen = d.firing } in
    record {
      first = keeps_claim v w c keeps h.first;
      second = holds;
      apart = odd_apart v c d h.first found;
      no_more = λ b p ne. ap (λ (z : View). (track_of z b).held) is ∙ (set_held v.tracks d.actor b t ne ∙ h.no_more b p tt);
    }

other_claim : (v : View) (c : Claim) (d : Option Claim) (t : Track) (w : View) → w.tracks ≡ set v.tracks c.actor t → AreApart (Some c) d → HasClaim v d → HasClaim w d
other_claim v c None t w is apart h = tt
other_claim v c (Some d) t w is apart h =
    ap (λ (ts : List Track). (get_or ts d.actor blank).held) is ∙ (set_held v.tracks c.actor d.actor t (λ e. apart (sym e)) ∙ h)

-- the first claim has ended in its being finished
pub done_just : (v w : View) (c : Claim) (d : Option Claim) → HoldsJust v (Some c) d → w ≡ finished_view v c.actor c.firing → HoldsJust w None d
done_just v w c d h is =
    let t : Track = record { held = []; finished = (track_of v c.actor).finished ++ c.firing ∷ []; seen = c.firing + 1 } in
    let ts : w.tracks ≡ set v.tracks c.actor t = ap (λ (z : View). z.tracks) is in
    record {
      first = tt;
      second = other_claim v c d t w ts h.apart h.second;
      apart = tt;
      no_more =
          λ b p q. ap (λ (xs : List Track). (get_or xs b blank).held) ts ∙ cleared v.tracks c.actor b t refl (λ ne. h.no_more b ne q);
    }

pub done_made : (v w : View) (c : Claim) (d : Option Claim) → HoldsJust v (Some c) d → w ≡ finished_view v c.actor c.firing → HasMade w (Some c)
done_made v w c d h is =
    let t : Track = record { held = []; finished = (track_of v c.actor).finished ++ c.firing ∷ []; seen = c.firing + 1 } in
    subst (λ (z : View). HasFinished z c.actor c.firing) (sym is)
    (finished_at v.tracks c.actor c.firing t h.first (ends_with c.firing (track_of v c.actor).finished))

-- the first claim was given up
pub given_up_just : (v w : View) (c : Claim) (d : Option Claim) → HoldsJust v (Some c) d → w ≡ handed_back v c.actor → HoldsJust w None d
given_up_just v w c d h is =
    let t : Track = record (track_of v c.actor) { held = [] } in
    let ts : w.tracks ≡ set v.tracks c.actor t = ap (λ (z : View). z.tracks) is in
    record {
      first = tt;
      second = other_claim v c d t w ts h.apart h.second;
      apart = tt;
      no_more =
          λ b p q. ap (λ (xs : List Track). (get_or xs b blank).held) ts ∙ cleared v.tracks c.actor b t refl (λ ne. h.no_more b ne q);
    }

pub given_up_finished : (v w : View) (a : ℕ) → w ≡ handed_back v a → (b k : ℕ) → HasFinished v b k → HasFinished w b k
given_up_finished v w a is b k h =
    let t : Track = record (track_of v a) { held = [] } in
    subst (λ (z : View). HasFinished z b k) (sym is) (subst (λ (xs : List ℕ). 0 < times k xs) (sym (same_finished v.tracks a b t refl)) h)

pub keeps_finished : (v w : View) → KeepsJust v w → (a k : ℕ) → HasFinished v a k → HasFinished w a k
keeps_finished v w just a k h = subst (λ (xs : List ℕ). 0 < times k xs) (sym (just a).1) h

pub keeps_made : (v w : View) (c : Option Claim) → ((a k : ℕ) → HasFinished v a k → HasFinished w a k) → HasMade v c → HasMade w c
keeps_made v w None keeps h = tt
keeps_made v w (Some c) keeps h = keeps c.actor c.firing h

pub newcomer_nothing : (v w : View) → w ≡ newcomer_view v → HoldsNothing w
newcomer_nothing v w is = subst HoldsNothing (sym is) (λ a. ap (λ (t : Track). t.held) (track_of-newcomer v.tracks a))

pub opening_nothing : (n : ℕ) (w : View) → w ≡ opening_view n → HoldsNothing w
opening_nothing n w is = subst HoldsNothing (sym is) (λ a. ap (λ (t : Track). t.held) (track_of-opening n a))

-- one number is held at most
held_once : (v : View) (a j k : ℕ) → Holds v a j → Holds v a k → j ≡ k
held_once v a j k one other = cc

-- d is the claim that is held beside e, and n firings from it on are finished
module _ (v : View) (c d : Claim) (e : Option Claim) (n m : ℕ) (h : HoldsJust v (Some c) e) (same : d ≡ c) (as_many : m ≡ n) where
  held_first : Holds v d.actor c.firing
  held_first = subst (λ (x : Claim). Holds v x.actor c.firing) (sym same) h.first

  pub block_held : IsHolding v d.actor
  block_held = (c.firing, held_first)

  pub block_fits : CanEnd c n → (k : ℕ) → 1 < m → Holds v d.actor k → k + m ≤ 16384001
  block_fits ends k several held =
      let one = held_once v d.actor k c.firing held held_first in
      let within = ends (subst (λ (x : ℕ). 1 < x) as_many several) in omega arith

  module _ (w : View) (is : (k : ℕ) → Holds v d.actor k → w ≡ finished_block v d.actor k m) where
    pub block_just : HoldsJust w None e
    block_just =
        let t : Track = record { held = []; finished = (track_of v d.actor).finished ++ range_with_len c.firing m; seen = c.firing + m } in
        let ts : w.tracks ≡ set v.tracks d.actor t = ap (λ (z : View). z.tracks) (is c.firing held_first) in
        record {
          first = tt;
          second = other_claim v d e t w ts (subst (λ (x : Claim). AreApart (Some x) e) (sym same) h.apart) h.second;
          apart = tt;
          no_more = λ b p q. ap (λ (xs : List Track). (get_or xs b blank).held) ts
              ∙ cleared v.tracks d.actor b t refl (λ ne. h.no_more b (λ x. ne (x ∙ ap (λ (y : Claim). y.actor) (sym same))) q);
        }

  pub block_made : (w : View) → ((k x : ℕ) → Holds v d.actor k → k ≤ x → x < k + m → times x (track_of w d.actor).finished ≡ 1)
      → (x : ℕ) → c.firing ≤ x → x < c.firing + n → HasFinished w c.actor x
  block_made w each x from to =
      let once = each c.firing x held_first from (subst (λ (y : ℕ). x < c.firing + y) (sym as_many) to) in
      subst (λ (y : Claim). 0 < times x (track_of w y.actor).finished) same (omega arith)
