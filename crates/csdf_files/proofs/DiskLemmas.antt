-- What is asked of files, one thing after another.
use Rattle.std.proofs.Common.{◌≡◌, ℕ, List, [], ◌∷◌, ◌++◌, ap, sym, subst, ◌∙◌, append_assoc, Ok, Err, Option, Some, None}
use Rattle.std.specs.Prelude.{Result, IfSome, OnErr}
use Rattle.std.specs.List.{AllByRecursion}
use Rattle.std.proofs.lemmas.List.{append-nil}
use Rattle.csdf_bytes.specs.declared.intake.InputFault.{InputFault}
use Rattle.csdf_disk.specs.Acts.{Act, Asks, IsRead, OnlyReads, Read}

pub asks_none : (before : Option (List Act)) → Asks before before []
asks_none None = tt
asks_none (Some done) = ap Some (sym (append-nil done))

pub asks_more : (a b c : Option (List Act)) (xs ys : List Act) → Asks a b xs → Asks b c ys → Asks a c (xs ++ ys)
asks_more None b c xs ys p q = tt
asks_more (Some done) b c xs ys p q =
    let later : c ≡ Some ((done ++ xs) ++ ys) = subst (λ (o : Option (List Act)). IfSome o (λ d. c ≡ Some (d ++ ys))) p q in
    later ∙ ap Some (append_assoc done xs ys)

-- ---- only reads

pub both_read : (xs ys : List Act) → AllByRecursion IsRead xs → AllByRecursion IsRead ys → AllByRecursion IsRead (xs ++ ys)
both_read [] ys p q = q
both_read (x ∷ xs) ys p q = (p.0, both_read xs ys p.1 q)

pub only_none : (before : Option (List Act)) → OnlyReads before before
only_none before = ([], tt, asks_none before)

pub only_more : (a b c : Option (List Act)) → OnlyReads a b → OnlyReads b c → OnlyReads a c
only_more a b c p q = (p.0 ++ q.0, both_read p.0 q.0 p.1 q.1, asks_more a b c p.0 q.0 p.2 q.2)

pub only_read : (a b : Option (List Act)) (path : List ℕ) (came : Result (List ℕ) InputFault) → Asks a b (Read path came ∷ []) → OnlyReads a b
only_read a b path came p = (Read path came ∷ [], (tt, tt), p)

pub on_err : {X E : Type 0} (r : Result X E) (P : Type 0) → P → OnErr r P
on_err (Ok x) P p = tt
on_err (Err e) P p = p
