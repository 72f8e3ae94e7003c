-- What a pass that went through says of the elements.
use Rattle.std.proofs.Common.{◌≡◌, ℕ, zero, suc, ◌+◌, ◌<◌, Bool, true, false, cond, List, [], ◌∷◌, length, get_or, map, Option, Some, None, Result, Ok, Err}
use Rattle.std.proofs.Common.{refl, sym, ap, subst, ◌∙◌, arith}
use Rattle.std.specs.Prelude.{option_and_then, option_map, All}
use Rattle.std.specs.List.{AllByRecursion}
use Rattle.std.proofs.lemmas.List.Elements.{All-from_recursion, recursion_from_All}
use Rattle.csdf_graph.specs.declared.fault.GraphFault.{GraphFault}
use Rattle.csdf_graph.specs.FaultPlace.{fault_place}
use Rattle.csdf_graph.specs.Passes.{◌>>=◌, or_fault, each, check}
use Rattle.csdf_graph.specs.Tree.{all_some}

pub ok_is : {A : Type 0} (x y : A) → ◌≡◌ {A = Result A GraphFault} (Ok x) (Ok y) → x ≡ y
ok_is x y e = cc

pub some_is : {A : Type 0} (x y : A) → ◌≡◌ {A = Option A} (Some x) (Some y) → x ≡ y
some_is x y e = cc

-- the value of a step that did not fail
pub bind_ok : {A B : Type 0} (r : Result A GraphFault) (f : A → Result B GraphFault) (y : B) → (r >>= f) ≡ Ok y → (x : A) × (r ≡ Ok x) × (f x ≡ Ok y)
bind_ok (Ok x) f y e = (x, refl, e)
bind_ok (Err d) f y e = absurd cc

pub or_fault_ok : {A : Type 0} (d : GraphFault) (o : Option A) (y : A) → or_fault d o ≡ Ok y → o ≡ Some y
or_fault_ok d None y e = absurd cc
or_fault_ok d (Some x) y e = cc

pub cond_ok : {A : Type 0} (b : Bool) (r : Result A GraphFault) (d : GraphFault) (y : A) → cond b r (Err d) ≡ Ok y → (b ≡ true) × (r ≡ Ok y)
cond_ok true r d y e = (refl, e)
cond_ok false r d y e = absurd cc

pub bind_some : {A B : Type 0} (o : Option A) (f : A → Option B) (y : B) → option_and_then f o ≡ Some y → (x : A) × (o ≡ Some x) × (f x ≡ Some y)
bind_some (Some x) f y e = (x, refl, e)
bind_some None f y e = absurd cc

pub map_some : {A B : Type 0} (f : A → B) (o : Option A) (y : B) → option_map f o ≡ Some y → (x : A) × (o ≡ Some x) × (f x ≡ y)
map_some f (Some x) y e = (x, refl, some_is (f x) y e)
map_some f None y e = absurd cc

pub cond_some : {A : Type 0} (b : Bool) (o : Option A) (y : A) → cond b o None ≡ Some y → (b ≡ true) × (o ≡ Some y)
cond_some true o y e = (refl, e)
cond_some false o y e = absurd cc

-- the parts of a pass over a list with an element
each_parts : {A B : Type 0} (f : ℕ → A → Result B GraphFault) (i : ℕ) (x : A) (xs : List A) (ys : List B) → each f i (x ∷ xs) ≡ Ok ys → (y : B) × (zs : List B)
    × (f i x ≡ Ok y) × (each f (suc i) xs ≡ Ok zs) × (y ∷ zs ≡ ys)
each_parts f i x xs ys e =
    let a = bind_ok (f i x) (λ y. each f (suc i) xs >>= λ zs. Ok (y ∷ zs)) ys e in
    let b = bind_ok (each f (suc i) xs) (λ zs. Ok (a.0 ∷ zs)) ys a.2 in
    (a.0, b.0, a.1, b.1, ok_is (a.0 ∷ b.0) ys b.2)

-- a pass that keeps a part of each element keeps the list of these parts
pub each_keeps : {A B K : Type 0} (f : ℕ → A → Result B GraphFault) (k : A → K) (m : B → K) → ((i : ℕ) (x : A) (y : B) → f i x ≡ Ok y → m y ≡ k x)
    → (i : ℕ) (xs : List A) (ys : List B) → each f i xs ≡ Ok ys → map m ys ≡ map k xs
each_keeps f k m keeps i [] ys e = let none : [] ≡ ys = ok_is [] ys e in ap (map m) (sym none)
each_keeps f k m keeps i (x ∷ xs) ys e =
    let p = each_parts f i x xs ys e in
    rw (← p.4, keeps i x p.0 p.2, each_keeps f k m keeps (suc i) xs p.1 p.3) refl

each_all_by : {A B : Type 0} (f : ℕ → A → Result B GraphFault) (P : A → Type 0) (Q : B → Type 0) → ((i : ℕ) (x : A) (y : B) → P x → f i x ≡ Ok y → Q y)
    → (i : ℕ) (xs : List A) (ys : List B) → AllByRecursion P xs → each f i xs ≡ Ok ys → AllByRecursion Q ys
each_all_by f P Q one i [] ys all e = let none : [] ≡ ys = ok_is [] ys e in subst (AllByRecursion Q) none tt
each_all_by f P Q one i (x ∷ xs) ys all e =
    let p = each_parts f i x xs ys e in
    subst (AllByRecursion Q) p.4 (one i x p.0 all.0 p.2, each_all_by f P Q one (suc i) xs p.1 all.1 p.3)

-- what each element has once the pass made it from one that had something
pub each_all : {A B : Type 0} (f : ℕ → A → Result B GraphFault) (P : A → Type 0) (Q : B → Type 0) → ((i : ℕ) (x : A) (y : B) → P x → f i x ≡ Ok y → Q y)
    → (i : ℕ) (xs : List A) (ys : List B) → All P xs → each f i xs ≡ Ok ys → All Q ys
each_all f P Q one i xs ys all e = All-from_recursion Q ys (each_all_by f P Q one i xs ys (recursion_from_All P xs all) e)

-- element k passed its test
pub each_at : {A B : Type 0} (f : ℕ → A → Result B GraphFault) (i : ℕ) (xs : List A) (ys : List B) → each f i xs ≡ Ok ys → (k : ℕ) (d : A) → k < length xs
    → (y : B) × (f (i + k) (get_or xs k d) ≡ Ok y)
each_at f i [] ys e k d lt = absurd (omega arith)
each_at f i (x ∷ xs) ys e zero d lt =
    let p = each_parts f i x xs ys e in
    let here : i + 0 ≡ i = omega arith in (p.0, ap (λ j. f j x) here ∙ p.2)
each_at f i (x ∷ xs) ys e (suc k) d lt =
    let p = each_parts f i x xs ys e in
    let q = each_at f (suc i) xs p.1 p.3 k d (omega arith) in
    let there : i + suc k ≡ suc i + k = omega arith in (q.0, ap (λ j. f j (get_or xs k d)) there ∙ q.1)

pub check_at : {A : Type 0} (fault : ℕ → GraphFault) (test : ℕ → A → Bool) (i : ℕ) (xs : List A) (u : Unit {0}) → check fault test i xs ≡ Ok u → (k : ℕ) (d : A)
    → k < length xs → test (i + k) (get_or xs k d) ≡ true
check_at fault test i [] u e k d lt = absurd (omega arith)
check_at fault test i (x ∷ xs) u e zero d lt =
    let p = cond_ok (test i x) (check fault test (suc i) xs) (fault (fault_place i)) u e in
    let here : i + 0 ≡ i = omega arith in ap (λ j. test j x) here ∙ p.0
check_at fault test i (x ∷ xs) u e (suc k) d lt =
    let p = cond_ok (test i x) (check fault test (suc i) xs) (fault (fault_place i)) u e in
    let there : i + suc k ≡ suc i + k = omega arith in ap (λ j. test j (get_or xs k d)) there ∙ check_at fault test (suc i) xs u p.1 k d (omega arith)

-- what was found in each
all_some_parts : {A B : Type 0} (f : A → Option B) (x : A) (xs : List A) (ys : List B) → all_some f (x ∷ xs) ≡ Some ys → (y : B) × (zs : List B)
    × (f x ≡ Some y) × (all_some f xs ≡ Some zs) × (y ∷ zs ≡ ys)
all_some_parts f x xs ys e =
    let a = bind_some (f x) (λ y. option_map (λ zs. y ∷ zs) (all_some f xs)) ys e in
    let b = map_some (λ zs. a.0 ∷ zs) (all_some f xs) ys a.2 in
    (a.0, b.0, a.1, b.1, b.2)

pub all_some_length : {A B : Type 0} (f : A → Option B) (xs : List A) (ys : List B) → all_some f xs ≡ Some ys → length ys ≡ length xs
all_some_length f [] ys e = let none : [] ≡ ys = some_is [] ys e in ap length (sym none)
all_some_length f (x ∷ xs) ys e =
    let p = all_some_parts f x xs ys e in
    rw (← p.4, all_some_length f xs p.1 p.3) refl

all_some_all_by : {A B : Type 0} (f : A → Option B) (Q : B → Type 0) → ((x : A) (y : B) → f x ≡ Some y → Q y) → (xs : List A) (ys : List B)
    → all_some f xs ≡ Some ys → AllByRecursion Q ys
all_some_all_by f Q one [] ys e = let none : [] ≡ ys = some_is [] ys e in subst (AllByRecursion Q) none tt
all_some_all_by f Q one (x ∷ xs) ys e =
    let p = all_some_parts f x xs ys e in
    subst (AllByRecursion Q) p.4 (one x p.0 p.2, all_some_all_by f Q one xs p.1 p.3)

pub all_some_all : {A B : Type 0} (f : A → Option B) (Q : B → Type 0) → ((x : A) (y : B) → f x ≡ Some y → Q y) → (xs : List A) (ys : List B)
    → all_some f xs ≡ Some ys → All Q ys
all_some_all f Q one xs ys e = All-from_recursion Q ys (all_some_all_by f Q one xs ys e)
