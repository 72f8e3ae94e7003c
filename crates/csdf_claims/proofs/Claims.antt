-- What a claim's step tells, where it was won and where it was lost, and what the end of a claim tells.
use Rattle.std.proofs.Common.{◌≡◌, ◌≢◌, ℕ, ◌+◌, ◌*◌, ◌<◌, ◌≤◌, Bool, cond, [], ◌∷◌, ◌++◌, length, sym, ap, ◌∙◌, arith, eq-eqb, ne_eqb, length-set}
use Rattle.std.proofs.Common.{length-append}
use Rattle.std.proofs.lemmas.List.FromFn.{length-range_with_len}
use Rattle.std.specs.List.{range_with_len}
use mathlib.Core.Logic.{dite}
use native.Mathlib.Decide.{ℕ_discrete}
use Rattle.csdf_claims.specs.declared.rule.Track.{Track}
use Rattle.csdf_claims.specs.declared.rule.View.{View}
use Rattle.csdf_claims.specs.Board.{track_of, times, Holds, Finds, word_after_claim, looked, claimed, finished_block}
use Rattle.csdf_claims.specs.Steps.{Seated, after_claim}
use Rattle.csdf_claims.proofs.Moves.{track_here}
use Rattle.csdf_claims.proofs.Totals.{times-append, times_within}
use Rattle.csdf_claims.proofs.Found.{found_count, found_within, found_once}

module _ (me me' : Seated) (a k n : ℕ) (now : ◌≡◌ {A = Seated} me' (after_claim me.0 a k n, me.1)) where
  pub won_now : n ≡ 2 * k → ◌≡◌ {A = Seated} me' (claimed me.0 a k, me.1)
  won_now hit = now ∙ ap (λ (b : Bool). (cond b (claimed me.0 a k) (looked me.0 a n), me.1)) (eq-eqb n (2 * k) hit)

  pub lost_now : n ≢ 2 * k → ◌≡◌ {A = Seated} me' (looked me.0 a n, me.1)
  lost_now miss = now ∙ ap (λ (b : Bool). (cond b (claimed me.0 a k) (looked me.0 a n), me.1)) (ne_eqb n (2 * k) miss)

  pub found_now : me'.0.found ≡ n
  found_now = dite (ℕ_discrete n (2 * k)) (λ hit. ap (λ (z : Seated). z.0.found) (won_now hit) ∙ sym hit)
      (λ miss. ap (λ (z : Seated). z.0.found) (lost_now miss))

  pub holds_now : n ≡ 2 * k → a < length me.0.tracks → Holds me'.0 a k
  holds_now hit lt = ap (λ (z : Seated). (track_of z.0 a).held) (won_now hit)
      ∙ ap (λ (t : Track). t.held) (track_here me.0 a (record (track_of me.0 a) { held = k ∷ []; seen = k }) (2 * k) lt)

-- a block of firings from k on is finished
module _ (me me' : Seated) (a k n : ℕ) (now : ◌≡◌ {A = Seated} me' (finished_block me.0 a k n, me.1)) (lt : a < length me.0.tracks)
    (f : Finds me'.0 a (2 * (k + n))) where
  abbrev over : Track
  over = record { held = []; finished = (track_of me.0 a).finished ++ range_with_len k n; seen = k + n }

  inside : a < length me'.0.tracks
  inside = let len : length me'.0.tracks ≡ length me.0.tracks = ap (λ (z : Seated). length z.0.tracks) now ∙ length-set me.0.tracks a over in omega arith

  more : (track_of me'.0 a).finished ≡ (track_of me.0 a).finished ++ range_with_len k n
  more = ap (λ (z : Seated). (track_of z.0 a).finished) now ∙ ap (λ (z : Track). z.finished) (track_here me.0 a over me.0.found lt)

  -- the place finished at most k firings before
  pub count_before : (length (track_of me.0 a).finished ≤ k) × (2 * (k + n) ≤ 32768002)
  count_before = let e = ap length more in (
    omega (arith, length-append (track_of me.0 a).finished (range_with_len k n), length-range_with_len k n, found_count me'.0 a (2 * (k + n)) f inside),
    found_within me'.0 a (2 * (k + n)) f inside,
  )

  pub each_once : (x : ℕ) → k ≤ x → x < k + n → times x (track_of me'.0 a).finished ≡ 1
  each_once x low high =
      let e : times x (track_of me'.0 a).finished ≡ times x (track_of me.0 a).finished + times x (range_with_len k n) =
      ap (times x) more ∙ times-append x (track_of me.0 a).finished (range_with_len k n) in
      let o = times_within x k n low high in let m = found_once me'.0 a (2 * (k + n)) f inside x in omega arith

-- what a load of the word of actor a told the place, which found n
pub record Looked (me me' : Seated) (a n : ℕ) : Type 0 where
  pub track : a < length me.0.tracks
  pub before : Finds me.0 a n
  pub now : ◌≡◌ {A = Seated} me' (looked me.0 a n, me.1)
  pub after : Finds me'.0 a n

-- what a compare-exchange for firing k of actor a told the place, which found n
pub record Tried (me me' : Seated) (a k n : ℕ) : Type 0 where
  pub track : a < length me.0.tracks
  pub before : Finds me.0 a n
  pub now : ◌≡◌ {A = Seated} me' (after_claim me.0 a k n, me.1)
  pub after : Finds me'.0 a (word_after_claim k n)
  pub found : me'.0.found ≡ n

-- what the store that ends the claim on firing k of actor a told the place
pub record Ended (me me' : Seated) (a k w : ℕ) (v : View) : Type 0 where
  pub track : a < length me.0.tracks
  pub held : Holds me.0 a k
  pub now : ◌≡◌ {A = Seated} me' (v, me.1)
  pub after : Finds me'.0 a w
