-- A loop that writes weights over zeros.
use Rattle.std.proofs.Common.{◌≡◌, ℕ, ℤ, pos, ◌+◌, ◌-◌, ◌<◌, ◌≤◌, List, ◌++◌, length, get_or, take, drop, set, replicate, Option, Some}
use Rattle.std.proofs.Common.{option_map, sym, ap, ◌∙◌, arith, length-set}
use Rattle.std.proofs.lemmas.List.{drop_more, take_more_set, drop-replicate, drop-drop, drop-set-lt}
use Rattle.csdf_graph.specs.Tree.{all_some}
use Rattle.csdf_graph.proofs.TreeLemmas.{regroup}

pub padded-step : (f : ℤ → Option ℤ) (weights numbers : List ℤ) (i : ℕ) (d z : ℤ) (total : Option (List ℤ)) → length weights ≡ 16 → i < length numbers
    → length numbers ≤ 16 → f (get_or numbers i d) ≡ Some z
    → drop i weights ≡ replicate (16 - i) (pos 0)
    → option_map (λ zs. take i weights ++ zs) (all_some f (drop i numbers)) ≡ total
    → (length (set weights i z) ≡ 16) × (drop (i + 1) (set weights i z) ≡ replicate (16 - (i + 1)) (pos 0))
    × (option_map (λ zs. take (i + 1) (set weights i z) ++ zs) (all_some f (drop (i + 1) numbers)) ≡ total)
padded-step f weights numbers i d z total len lt few found rest so_far =
    let within : i < length weights = omega arith in
    let tail : drop (i + 1) (set weights i z) ≡ drop (i + 1) weights = drop-set-lt (i + 1) weights i z (omega arith) in
    let again : drop (i + 1) weights ≡ replicate (16 - (i + 1)) (pos 0) =
    sym (drop-drop 1 i weights) ∙ ap (drop 1) rest ∙ drop-replicate 1 (16 - i) (pos 0) ∙ ap (λ n. replicate n (pos 0)) (omega arith) in
    let one : option_map (λ zs. take i weights ++ zs) (all_some f (drop i numbers)) ≡ option_map (λ zs. take (i + 1) (set weights i z)
    ++ zs) (all_some f (drop (i + 1) numbers)) =
    rw (drop_more numbers i d lt, found, take_more_set weights i z within) (regroup (take i weights) z (all_some f (drop (i + 1) numbers))) in
    (length-set weights i z ∙ len, tail ∙ again, sym one ∙ so_far)
