-- An actor that can make some firings begins the first, and can make fewer.
use Rattle.std.proofs.Common.{◌≡◌, ℕ, zero, suc, ◌+◌, ◌-◌, ◌<◌, ◌≤◌, List, ◌∷◌, ◌++◌, length, take, drop, replicate, ap, subst, arith, None}
use Rattle.std.specs.Prelude.{ℤ, pos}
use Rattle.std.proofs.lemmas.List.{take-append-le, drop-append-le, length-append, length-drop, length-replicate}
use Rattle.csdf_core.specs.Blocks.{gifts_of, firings_of, AreAccepted}
use Rattle.csdf_core.specs.Engine.{CanFire}
use Rattle.csdf_core.specs.Moves.{Begin, Read, Write, Finish}
use Rattle.csdf_core.specs.Plan.{Plan}
use Rattle.csdf_core.specs.Rows.{gift}
use Rattle.csdf_core.specs.State.{Present}
use Rattle.csdf_core.specs.Step.{count, refusal}
use Rattle.csdf_core.proofs.Cycles.{gifts_sums, sums_add}
use Rattle.csdf_core.proofs.Fired.{first_begins}

module _ (plan : Plan) (a : ℕ) where
  fewer_accepted : (n j : ℕ) (p : Present) (k : ℕ) (v w : List ℤ) → length v ≡ gifts_of plan.channels a k n
      → AreAccepted plan p (firings_of plan.channels a k (n + j) (v ++ w)) → AreAccepted plan p (firings_of plan.channels a k n v)
  fewer_accepted zero j p k v w len acc = tt
  fewer_accepted (suc n) j p k v w len acc =
      let g : ℕ = gift a k plan.channels in
      let one : AreAccepted plan p (firings_of plan.channels a k (suc (n + j)) (v ++ w)) =
      subst (λ (x : ℕ). AreAccepted plan p (firings_of plan.channels a k x (v ++ w))) (let e : suc n + j ≡ suc (n + j) = omega arith in e) acc in
      let le : g ≤ length v = omega (arith, len) in
      let same : AreAccepted plan p (Begin a ∷ Read a ∷ Write a (take g v) ∷ Finish a ∷ firings_of plan.channels a (suc k) (n + j) (drop g v ++ w)) =
      subst (λ (d : List ℤ). AreAccepted plan p (Begin a ∷ Read a ∷ Write a (take g v) ∷ Finish a ∷ firings_of plan.channels a (suc k) (n + j) d))
      (drop-append-le g v w le)
      (subst (λ (u : List ℤ). AreAccepted plan p (Begin a ∷ Read a ∷ Write a u ∷ Finish a ∷ firings_of plan.channels a (suc k) (n + j) (drop g (v ++ w))))
      (take-append-le g v w le) one) in (
        same.0,
        (
          same.1.0,
          (
            same.1.1.0,
            (
              same.1.1.1.0,
              fewer_accepted n j _ (suc k) (drop g v) w (let d = length-drop g v in omega (arith, d, len)) same.1.1.1.1,
            ),
          ),
        ),
      )

  pub can_fewer : (p : Present) (m n : ℕ) → m ≤ n → CanFire plan p a n → CanFire plan p a m
  can_fewer p m n le can v len =
      let k : ℕ = count p a in
      let j : ℕ = n - m in
      let whole : n ≡ m + j = omega (arith, le) in
      let more : List ℤ = replicate (gifts_of plan.channels a (k + m) j) (pos 0) in
      let size : length more ≡ gifts_of plan.channels a (k + m) j = length-replicate _ _ in
      let all : length (v ++ more) ≡ gifts_of plan.channels a k n =
      omega (
        arith,
        length-append v more,
        size,
        len,
        gifts_sums plan.channels a k m,
        gifts_sums plan.channels a (k + m) j,
        gifts_sums plan.channels a k (m + j),
        sums_add (λ i. gift a i plan.channels) k m j,
        ap (gifts_of plan.channels a k) whole,
      ) in
      fewer_accepted m j p k v more len
      (subst (λ (x : ℕ). AreAccepted plan p (firings_of plan.channels a k x (v ++ more))) whole (can (v ++ more) all))

  pub can_begin : (p : Present) (n : ℕ) → 0 < n → CanFire plan p a n → refusal plan p (Begin a) ≡ None
  can_begin p n some can =
      let v : List ℤ = replicate (gifts_of plan.channels a (count p a) n) (pos 0) in
      let len : length v ≡ gifts_of plan.channels a (count p a) n = length-replicate _ _ in
      first_begins plan p a (count p a) n v some (can v len)
