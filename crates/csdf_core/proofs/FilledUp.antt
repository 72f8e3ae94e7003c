-- Tokens, and 0 where there are no more.
use Rattle.std.proofs.Common.{◌≡◌, ℕ, zero, suc, ◌+◌, ◌<◌, ◌≤◌, List, [], ◌∷◌, ◌++◌, length, get_or, set, take, drop, refl, ap, ap₂, ◌∙◌, sym, arith}
use Rattle.std.specs.Prelude.{ℤ, pos}
use Rattle.std.proofs.Math.Seq.{drop-nil, take-suc-set}
use Rattle.csdf_core.specs.Engine.{filled}

pub length-filled : (m : ℕ) (t : List ℤ) → length (filled m t) ≡ m
length-filled zero t = refl
length-filled (suc m) t = ap suc (length-filled m (drop 1 t))

drop_later : (i : ℕ) (t : List ℤ) → drop i (drop 1 t) ≡ drop (suc i) t
drop_later i [] = drop-nil i
drop_later i (x ∷ t) = refl

pub drop-filled : (i m : ℕ) (t : List ℤ) → drop i (filled (i + m) t) ≡ filled m (drop i t)
drop-filled zero m t = ap (λ (j : ℕ). filled j t) (let e : 0 + m ≡ m = omega arith in e)
drop-filled (suc i) m t =
    ap (λ (j : ℕ). drop (suc i) (filled j t)) (let e : suc i + m ≡ suc (i + m) = omega arith in e)
    ∙ drop-filled i m (drop 1 t) ∙ ap (filled m) (drop_later i t)

pub take-filled : (i m : ℕ) (t : List ℤ) → take i (filled (i + m) t) ≡ filled i t
take-filled zero m t = refl
take-filled (suc i) m t =
    ap (λ (j : ℕ). take (suc i) (filled j t)) (let e : suc i + m ≡ suc (i + m) = omega arith in e)
    ∙ ap (λ (u : List ℤ). get_or t 0 (pos 0) ∷ u) (take-filled i m (drop 1 t))

pub filled_more : (i : ℕ) (t : List ℤ) → filled (suc i) t ≡ filled i t ++ get_or (drop i t) 0 (pos 0) ∷ []
filled_more zero t = refl
filled_more (suc i) t =
    ap (λ (u : List ℤ). get_or t 0 (pos 0) ∷ u)
    (filled_more i (drop 1 t) ∙ ap (λ (u : List ℤ). filled i (drop 1 t) ++ get_or u 0 (pos 0) ∷ []) (drop_later i t))

-- where there are enough, they are the first ones
pub filled_enough : (m : ℕ) (t : List ℤ) → m ≤ length t → filled m t ≡ take m t
filled_enough zero t le = refl
filled_enough (suc m) [] le = absurd (omega arith)
filled_enough (suc m) (x ∷ t) le = ap (λ (u : List ℤ). x ∷ u) (filled_enough m t (omega arith))

-- one place more
pub fill_step : (i : ℕ) (into : List ℤ) (x : ℤ) (old tokens : List ℤ) → i < length into → take i into ≡ filled i old → tokens ≡ drop i old
    → x ≡ get_or tokens 0 (pos 0) → take (i + 1) (set into i x) ≡ filled (i + 1) old
fill_step i into x old tokens lt so_far left is =
    let next : i + 1 ≡ suc i = omega arith in
    ap (λ (j : ℕ). take j (set into i x)) next ∙ take-suc-set into i x lt
    ∙ ap₂ (λ (u : List ℤ) (y : ℤ). u ++ y ∷ []) so_far (is ∙ ap (λ (u : List ℤ). get_or u 0 (pos 0)) left)
    ∙ sym (filled_more i old) ∙ ap (λ (j : ℕ). filled j old) (sym next)
