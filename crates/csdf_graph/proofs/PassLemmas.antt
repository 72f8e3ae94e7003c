-- Passes as loops make them.
use Rattle.std.proofs.Common.{◌≡◌, ℕ, suc, ◌+◌, ◌<◌, List, [], ◌∷◌, ◌++◌, length, map, get_or, drop, Option, None, Result, Ok, Err, refl, sym, ap, ◌∙◌, append_assoc}
use Rattle.std.proofs.Common.{append-nil, add-one, subst}
use Rattle.std.specs.Global.{Vec}
use Rattle.std.specs.Result.{result_and, IsErr}
use Rattle.std.proofs.lemmas.List.{drop_more, map_push}
use Rattle.csdf_graph.specs.declared.fault.GraphFault.{GraphFault}
use Rattle.csdf_graph.specs.declared.fault.GraphFault.TheVariants.{Memory}
use Rattle.csdf_graph.specs.declared.fault.Unfit.{Unfit}
use Rattle.csdf_graph.specs.declared.fault.Unfit.TheVariants as unfit
use Rattle.csdf_graph.specs.Passes.{◌>>=◌, each, Fails, Gives, Reads, answer_of, or_fault, one_more, itself}

-- what was made before, and what is still made
abbrev pub with_front : {B : Type 0} → List B → Result (List B) GraphFault → Result (List B) GraphFault
with_front front read = read >>= λ ys. Ok (front ++ ys)

regroup : {B : Type 0} (front : List B) (y : B) (read : Result (List B) GraphFault)
    → with_front front (read >>= λ ys. Ok (y ∷ ys)) ≡ with_front (front ++ y ∷ []) read
regroup front y (Ok ys) = ap (λ zs. Ok zs) (simp append_assoc)
regroup front y (Err f) = refl

-- the element at a place, and what is left after it
pub at_place : {A : Type 0} (xs : List A) (i : ℕ) (x : A) → i < length xs → x ≡ get_or xs i x → drop i xs ≡ x ∷ drop (i + 1) xs
at_place xs i x lt is = rw (drop_more xs i x lt, ← is) refl

-- a pass so far: what it made and what it is still to make are the whole, or the whole has the fault
abbrev pub Stands : {X Y : Type 0} → (X → Y) → Result (Vec X) GraphFault → Result (List Y) GraphFault → Result (List Y) GraphFault → Type 0
Stands view (Ok made) rest whole = with_front (map view made.items) rest ≡ whole
Stands view (Err fault) rest whole = Fails fault whole

-- one more was made
pub made_more : {A B Y : Type 0} (f : ℕ → B → Result Y GraphFault) (v : A → B) (i : ℕ) (x : A) (left right : List A) → left ≡ x ∷ right
    → (whole : Result (List Y) GraphFault) (front : List Y) (y : Y) (new : List Y) → new ≡ front ++ y ∷ [] → f i (v x) ≡ Ok y
    → with_front front (each f i (map v left)) ≡ whole → with_front new (each f (i + 1) (map v right)) ≡ whole
made_more f v i x left right taken whole front y new made ok so_far =
    let one : with_front front (each f i (map v left)) ≡ with_front new (each f (i + 1) (map v right)) =
    rw (taken, ok, made, add-one) (regroup front y (each f (suc i) (map v right))) in
    sym one ∙ so_far

module _ {A B X Y : Type 0} (f : ℕ → B → Result Y GraphFault) (v : A → B) (view : X → Y) (i : ℕ) (x : A) (left right : List A) (taken : left ≡ x ∷ right)
    (whole : Result (List Y) GraphFault) where
  -- this one has a fault
  fails : (front : List Y) (fault : GraphFault) → f i (v x) ≡ Err fault → with_front front (each f i (map v left)) ≡ whole → whole ≡ Err fault
  fails front fault wrong so_far =
      let one : with_front front (each f i (map v left)) ≡ Err fault = rw (taken, wrong) refl in
      sym so_far ∙ one

  pub stands_on : (pass : Result (Vec X) GraphFault) (next : Result X GraphFault) (after : Result (Vec X) GraphFault)
      → Stands view pass (each f i (map v left)) whole → Gives view next (f i (v x)) → Gives (λ made. made.items) after (one_more pass next)
      → Stands view after (each f (i + 1) (map v right)) whole
  stands_on (Ok made) (Ok y) (Ok after) so_far ok is =
      let grown : after.items ≡ made.items ++ y ∷ [] = cc in
      made_more f v i x left right taken whole (map view made.items) (view y) (map view after.items) (ap (map view) grown ∙ map_push view made.items y) ok so_far
  stands_on (Ok made) (Ok y) (Err fault) so_far ok is = λ other. let never : ⊥ = (let e = is other in absurd cc) in absurd never
  stands_on (Ok made) (Err d) (Ok after) so_far wrong is = absurd cc
  stands_on (Ok made) (Err d) (Err fault) so_far wrong is = λ other.
      let e = is other in
      let same : d ≡ fault = cc in
      fails (map view made.items) fault (subst (λ g. Fails g (f i (v x))) same wrong other) so_far
  stands_on (Err d) next (Ok after) so_far ok is = absurd cc
  stands_on (Err d) next (Err fault) so_far ok is = λ other.
      let e = is other in
      let same : d ≡ fault = cc in
      subst (λ g. Fails g whole) same so_far other

-- nothing is left
pub stands_still : {A B X Y : Type 0} (f : ℕ → B → Result Y GraphFault) (v : A → B) (view : X → Y) (i : ℕ) (left : List A) → left ≡ []
    → (whole : Result (List Y) GraphFault) (pass : Result (Vec X) GraphFault) → Stands view pass (each f i (map v left)) whole
    → Gives (λ made. map view made.items) pass whole
stands_still f v view i left none whole (Ok made) so_far =
    let one : with_front (map view made.items) (each f i (map v left)) ≡ Ok (map view made.items) = rw (none, append-nil (map view made.items)) refl in
    sym so_far ∙ one
stands_still f v view i left none whole (Err fault) so_far = so_far

-- the same of a pass that makes nothing
abbrev pub Checked : Result (Unit {0}) GraphFault → Result (Unit {0}) GraphFault → Result (Unit {0}) GraphFault → Type 0
Checked (Ok u) rest whole = rest ≡ whole
Checked (Err fault) rest whole = Fails fault whole

-- a test that failed
pub checked_fails : (checked after : Result (Unit {0}) GraphFault) (r fault : GraphFault) (rest whole next : Result (Unit {0}) GraphFault)
    → after ≡ result_and checked (Err r) → ((r ≡ Memory → ⊥) → r ≡ fault) → rest ≡ Err fault → Checked checked rest whole → Checked after next whole
checked_fails (Ok u) after r fault rest whole next is told wrong so_far =
    subst (λ a. Checked a next whole) (sym is) (λ other. sym so_far ∙ wrong ∙ ap Err (sym (told other)))
checked_fails (Err d) after r fault rest whole next is told wrong so_far = subst (λ a. Checked a next whole) (sym is) so_far

-- a test that was passed
pub checked_on : (checked : Result (Unit {0}) GraphFault) (rest next whole : Result (Unit {0}) GraphFault) → rest ≡ next → Checked checked rest whole
    → Checked checked next whole
checked_on (Ok u) rest next whole same so_far = sym same ∙ so_far
checked_on (Err d) rest next whole same so_far = so_far

-- an error where nothing is found
pub reads_none : {X Y : Type 0} (view : X → Y) (read : Result X Unfit) (found : Option Y) → IsErr read → found ≡ None → Reads view read found
reads_none view (Ok x) found wrong none = absurd cc
reads_none view (Err (unfit.Fault m)) found wrong none = none
reads_none view (Err unfit.Memory) found wrong none = tt

-- what a reader of one table answered, told by a pass
pub gives_read : {X Y : Type 0} (view : X → Y) (fault : GraphFault) (read : Result X Unfit) (answer : Result X GraphFault) (found : Option Y) → Reads view read found
    → Gives itself answer (answer_of fault read) → Gives view answer (or_fault fault found)
gives_read view fault (Ok x) (Ok y) found is told = let same : x ≡ y = cc in ap (or_fault fault) is ∙ ap (λ z. Ok (view z)) same
gives_read view fault (Ok x) (Err d) found is told = λ other. let e = told other in absurd cc
gives_read view fault (Err (unfit.Fault m)) (Ok y) found is told = absurd cc
gives_read view fault (Err (unfit.Fault m)) (Err d) found is told = λ other.
    let e = told other in
    let same : fault ≡ d = cc in
    ap (or_fault fault) is ∙ ap Err same
gives_read view fault (Err unfit.Memory) (Ok y) found is told = absurd cc
gives_read view fault (Err unfit.Memory) (Err d) found is told = λ other. absurd (other (let e = told other in cc))
