-- The name that stands at a number, as the code finds it.
use Rattle.std.proofs.Common.{◌≡◌, ℕ, ◌<◌, List, [], length, get_or, map, ap, ◌∙◌, sym, arith}
use Rattle.std.proofs.lemmas.List.{get_or-map, length-map}
use Rattle.csdf_model.specs.Names.{name_at}

pub named_at : {A B : Type 0} (view : A → B) (name : B → List ℕ) (xs : List A) (i : ℕ) (x : A)
    → i < length xs → x ≡ get_or xs i x → name (view x) ≡ name_at (map name (map view xs)) i
named_at view name xs i x lt is =
    let within : i < length (map view xs) = omega (arith, lt, length-map xs view) in
    let seen : get_or (map view xs) i (view x) ≡ view x = get_or-map view xs i x (view x) lt ∙ ap view (sym is) in
    sym (get_or-map name (map view xs) i (view x) [] within ∙ ap name seen)
