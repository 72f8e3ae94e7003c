-- Passes over lists, each with the first fault.
use Rattle.std.specs.Prelude.{◌≡◌, ℕ, suc, Bool, if◌then◌else◌, List, [], ◌∷◌, ◌++◌, Option, Some, None, Result, Ok, Err}
use Rattle.std.specs.Global.{Vec}
use Rattle.csdf_graph.specs.declared.fault.GraphFault.{GraphFault}
use Rattle.csdf_graph.specs.declared.fault.GraphFault.TheVariants.{Memory}
use Rattle.csdf_graph.specs.declared.fault.Unfit.{Unfit}
use Rattle.csdf_graph.specs.declared.fault.Unfit.TheVariants as unfit
use Rattle.csdf_graph.specs.FaultPlace.{fault_place}

infixl 10 ◌>>=◌
abbrev pub ◌>>=◌ : {A B : Type 0} → Result A GraphFault → (A → Result B GraphFault) → Result B GraphFault
(Ok x) >>= f = f x
(Err e) >>= f = Err e

abbrev pub or_fault : {A : Type 0} → GraphFault → Option A → Result A GraphFault
or_fault fault None = Err fault
or_fault fault (Some x) = Ok x

-- what `f` makes of each, with its place, or the fault of the first that has one
abbrev pub each : {A B : Type 0} → (ℕ → A → Result B GraphFault) → ℕ → List A → Result (List B) GraphFault
each f i [] = Ok []
each f i (x ∷ xs) = f i x >>= λ y. each f (suc i) xs >>= λ ys. Ok (y ∷ ys)

-- the fault of the first that does not pass the test
abbrev pub check : {A : Type 0} → (ℕ → GraphFault) → (ℕ → A → Bool) → ℕ → List A → Result (Unit {0}) GraphFault
check fault test i [] = Ok tt
check fault test i (x ∷ xs) = if test i x then check fault test (suc i) xs else Err (fault (fault_place i))

-- a fault that the file has, unless memory ran out
abbrev pub Fails : {Y : Type 0} → GraphFault → Result Y GraphFault → Type 0
Fails fault read = (fault ≡ Memory → ⊥) → read ≡ Err fault

-- what a function answered, seen by view, is what reading gives, unless memory ran out
abbrev pub Gives : {X Y : Type 0} → (X → Y) → Result X GraphFault → Result Y GraphFault → Type 0
Gives view (Ok x) read = read ≡ Ok (view x)
Gives view (Err fault) read = Fails fault read

-- what a reader of one table answered, as the pass over the file tells it: out of shape is this fault
abbrev pub answer_of : {X : Type 0} → GraphFault → Result X Unfit → Result X GraphFault
answer_of fault (Ok x) = Ok x
answer_of fault (Err (unfit.Fault misfit)) = Err fault
answer_of fault (Err unfit.Memory) = Err Memory

-- what a function answered, seen by view, is an answer that reading allows, unless memory ran out
abbrev pub Tells : {X Y : Type 0} → (X → Y) → Result X GraphFault → (Result Y GraphFault → Type 0) → Type 0
Tells view (Ok x) Allows = Allows (Ok (view x))
Tells view (Err fault) Allows = (fault ≡ Memory → ⊥) → Allows (Err fault)

-- what a reader of one table answered: what is found, or that the table is out of shape
abbrev pub Reads : {X Y : Type 0} → (X → Y) → Result X Unfit → Option Y → Type 0
Reads view (Ok x) found = found ≡ Some (view x)
Reads view (Err (unfit.Fault misfit)) found = found ≡ None
Reads view (Err unfit.Memory) found = Unit {0}

-- what a reader of one key answered: what is found, or what does not fit
abbrev pub Finds : {X Y E : Type 0} → (X → Y) → Result X E → Option Y → Type 0
Finds view (Ok x) found = found ≡ Some (view x)
Finds view (Err misfit) found = found ≡ None

-- what a pass made, and one more
abbrev pub one_more : {X : Type 0} → Result (Vec X) GraphFault → Result X GraphFault → Result (List X) GraphFault
one_more pass next = pass >>= λ made. next >>= λ x. Ok (made.items ++ x ∷ [])

abbrev pub itself : {A : Type 0} → A → A
itself x = x
