-- Lists that a loop makes element by element.
use Rattle.std.proofs.Common.{◌≡◌, ℕ, zero, suc, ◌+◌, ◌<◌, ◌≤◌, List, [], ◌∷◌, ◌++◌, length, map, get_or, drop, refl, ap, sym, ◌∙◌, arith, take, append_assoc}
use Rattle.std.proofs.Common.{append-nil}
use Rattle.std.proofs.lemmas.List.{take_more, take_all}

drop_at : {A : Type 0} (xs : List A) (i : ℕ) (d : A) → i < length xs → drop i xs ≡ get_or xs i d ∷ drop (i + 1) xs
drop_at [] i d lt = absurd (omega arith)
drop_at (x ∷ xs) zero d lt = refl
drop_at {A = A} (x ∷ xs) (suc i) d lt =
    let e : suc i + 1 ≡ suc (i + 1) = omega arith in
    drop_at xs i d (omega arith) ∙ ap (λ n. get_or xs i d ∷ drop n (x ∷ xs)) (sym e)

drop_past : {A : Type 0} (xs : List A) (i : ℕ) → length xs ≤ i → drop i xs ≡ []
drop_past [] zero le = refl
drop_past [] (suc i) le = refl
drop_past (x ∷ xs) zero le = absurd (omega arith)
drop_past (x ∷ xs) (suc i) le = drop_past xs i (omega arith)

-- one more element is done
pub one_more : {A K : Type 0} (f : A → K) (xs : List A) (i : ℕ) (done : List K) (d : A) → i < length xs → done ++ map f (drop i xs) ≡ map f xs
    → (done ++ f (get_or xs i d) ∷ []) ++ map f (drop (i + 1) xs) ≡ map f xs
one_more {A = A} f xs i done d lt h =
    append_assoc done (f (get_or xs i d) ∷ []) (map f (drop (i + 1) xs)) ∙ ap (λ (zs : List A). done ++ map f zs) (sym (drop_at xs i d lt)) ∙ h

-- all are done
pub all_done : {A K : Type 0} (f : A → K) (xs : List A) (i : ℕ) (done : List K) → length xs ≤ i → done ++ map f (drop i xs) ≡ map f xs → done ≡ map f xs
all_done {A = A} f xs i done le h = sym (append-nil done) ∙ ap (λ (zs : List A). done ++ map f zs) (sym (drop_past xs i le)) ∙ h

-- two lists that are the same so far, and at one place more
pub same_more : {A : Type 0} (xs ys : List A) (i : ℕ) (d : A) → i < length xs → i < length ys → take i xs ≡ take i ys → get_or xs i d ≡ get_or ys i d
    → take (i + 1) xs ≡ take (i + 1) ys
same_more {A = A} xs ys i d lx ly front here =
    take_more xs i d lx ∙ ap (λ (zs : List A). zs ++ get_or xs i d ∷ []) front ∙ ap (λ (z : A). take i ys ++ z ∷ []) here ∙ sym (take_more ys i d ly)

pub same_whole : {A : Type 0} (xs ys : List A) (i : ℕ) → length xs ≡ length ys → length ys ≤ i → take i xs ≡ take i ys → xs ≡ ys
same_whole xs ys i len le front = sym (take_all i xs (omega arith)) ∙ front ∙ take_all i ys le
