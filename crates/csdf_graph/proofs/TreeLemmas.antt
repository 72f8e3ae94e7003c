-- The tree beside the values that the code reads.
use Rattle.std.proofs.Common.{◌≡◌, ℕ, ◌+◌, ◌<◌, ◌≤◌, ◌++◌, Option, Some, None, option_map, get_or, drop, append-nil, Bool, List, [], ◌∷◌, ◌&&◌, ◌||◌, map, length}
use Rattle.std.proofs.Common.{String, Global, string_bytes, refl, sym, ap, subst, ◌∙◌, append_assoc}
use Rattle.std.proofs.lemmas.Iterator.{YieldsList}
use Rattle.std.proofs.lemmas.Iterator.Consumers.{YieldsList-from_shown}
use Rattle.std.specs.Map.Iter.{TakesFirst, deref}
use Rattle.std.specs.List.{list_any, list_all, find}
use Rattle.std.specs.Prelude.{is_none}
use Rattle.std.proofs.Common.{true, false, not, cond}
use Rattle.toml.specs.Data.{Data}
use Rattle.toml.specs.View.{items_of, members_view}
use Rattle.toml.specs.declared.value.Value.{Value}
use Rattle.std.proofs.lemmas.List.{drop_more, drop_all}
use Rattle.csdf_graph.specs.Tree.{is_among, has_only, data_of, all_some}
use Rattle.std.specs.Map.{keys_of}

pub list_any_map : {A B : Type 0} (g : A → B) (f : B → Bool) (xs : List A) → list_any f (map g xs) ≡ list_any (λ x. f (g x)) xs
list_any_map g f [] = refl
list_any_map g f (x ∷ xs) = ap (λ b. f (g x) || b) (list_any_map g f xs)

pub has_only-view : (keys : List (List ℕ)) (es : List (String Global × Value))
    → has_only keys (members_view es) ≡ list_all (λ k. is_among keys (string_bytes k)) (keys_of es)
has_only-view keys [] = refl
has_only-view keys (e ∷ es) = ap (λ b. is_among keys (string_bytes e.0) && b) (has_only-view keys es)

-- no key is found that is none of these exactly where the table has no others
pub none_unlisted : {A : Type 0} (v : A → String Global) (keys : List (List ℕ)) (es : List (String Global × Value)) (found : Option A)
    → option_map v found ≡ find (λ k. not (is_among keys (string_bytes k))) (keys_of es) → is_none found ≡ has_only keys (members_view es)
none_unlisted {A = A} v keys es found is = same_none found ∙ ap is_none is ∙ none_found (keys_of es) ∙ sym (has_only-view keys es)
  where
    same_none : (o : Option A) → is_none o ≡ is_none (option_map v o)
    same_none None = refl
    same_none (Some x) = refl

    step : (b : Bool) (k : String Global) (r : Option (String Global)) → is_none (cond (not b) (Some k) r) ≡ (b && is_none r)
    step true k r = refl
    step false k r = refl

    none_found : (ks : List (String Global)) → is_none (find (λ k. not (is_among keys (string_bytes k))) ks) ≡ list_all (λ k. is_among keys (string_bytes k)) ks
    none_found [] = refl
    none_found (k ∷ ks) = step (is_among keys (string_bytes k)) k (find (λ j. not (is_among keys (string_bytes j))) ks)
        ∙ ap (λ b. is_among keys (string_bytes k) && b) (none_found ks)

-- the list that items were made of
pub data_of_items : (ds : List Data) → data_of (items_of ds) ≡ ds
data_of_items [] = refl
data_of_items (d ∷ ds) = ap (λ t. d ∷ t) (data_of_items ds)

-- a map's keys are given in order
pub yields_keys : {K : Type 0} (s ks : List K) → s ≡ ks → YieldsList (TakesFirst (deref {X = K})) deref s ks
yields_keys s ks e = subst (YieldsList (TakesFirst deref) deref s) e (YieldsList-from_shown (TakesFirst deref) deref (λ x. x) (λ a b h. ap length h.0)
    (λ a x b h. h) s)

-- what is left of a list, as a view shows it
pub left_more : {A B : Type 0} (v : A → B) (xs : List A) (i : ℕ) (x : A) → i < length xs → x ≡ get_or xs i x
    → map v (drop i xs) ≡ v x ∷ map v (drop (i + 1) xs)
left_more v xs i x lt is = rw (drop_more xs i x lt, ← is) refl

pub left_none : {A B : Type 0} (v : A → B) (xs : List A) (i : ℕ) → length xs ≤ i → map v (drop i xs) ≡ []
left_none v xs i le = ap (map v) (drop_all i xs le)

-- a loop that takes what `f` finds in each element: the list that is left, and what was taken before
pub regroup : {C : Type 0} (front : List C) (y : C) (found : Option (List C))
    → option_map (λ ys. front ++ ys) (option_map (λ ys. y ∷ ys) found) ≡ option_map (λ ys. (front ++ y ∷ []) ++ ys) found
regroup front y None = refl
regroup front y (Some ys) = ap (λ zs. Some zs) (simp append_assoc)

module _ {B C : Type 0} (f : B → Option C) (left : List B) (front : List C) (total : Option (List C))
    (so_far : option_map (λ ys. front ++ ys) (all_some f left) ≡ total) where
  pub all_some-goes_on : (x : B) (rest : List B) (y : C) (new : List C) → left ≡ x ∷ rest → f x ≡ Some y → new ≡ front ++ y ∷ []
      → option_map (λ ys. new ++ ys) (all_some f rest) ≡ total
  all_some-goes_on x rest y new taken found made =
      let one : option_map (λ ys. front ++ ys) (all_some f left) ≡ option_map (λ ys. new ++ ys) (all_some f rest) =
      rw (taken, found, made) (regroup front y (all_some f rest)) in
      sym one ∙ so_far

  pub all_some-stops : (x : B) (rest : List B) → left ≡ x ∷ rest → f x ≡ None → None ≡ total
  all_some-stops x rest taken none =
      let one : None ≡ option_map (λ ys. front ++ ys) (all_some f left) = rw (taken, none) refl in
      one ∙ so_far

  pub all_some-ends : left ≡ [] → Some front ≡ total
  all_some-ends taken =
      let one : Some front ≡ option_map (λ ys. front ++ ys) (all_some f left) = rw (taken, append-nil front) refl in
      one ∙ so_far
