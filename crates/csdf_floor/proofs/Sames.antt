-- Lists that are compared place by place.
use Rattle.std.proofs.Common.{◌≡◌, ℕ, ◌+◌, ◌<◌, List, length, map, take, get_or, ap, sym, ◌∙◌, arith}
use Rattle.std.proofs.lemmas.List.{get_or-map, length-map, take_more_same}

module _ {A B : Type 0} (f : A → B) where
  at_place : (xs : List A) (i : ℕ) (x : A) (d : B) → i < length xs → x ≡ get_or xs i x → get_or (map f xs) i d ≡ f x
  at_place xs i x d lt is = get_or-map f xs i x d lt ∙ ap f (sym is)

  -- one place more is the same
  pub same_more : (xs ys : List A) (i : ℕ) (x y : A) → i < length xs → length xs ≡ length ys → x ≡ get_or xs i x → y ≡ get_or ys i y
      → take i (map f xs) ≡ take i (map f ys) → f x ≡ f y → take (i + 1) (map f xs) ≡ take (i + 1) (map f ys)
  same_more xs ys i x y lt each left right before same =
      let there : i < length ys = omega arith in
      take_more_same (map f xs) (map f ys) i (f x) (omega (arith, length-map xs f)) (omega (arith, length-map ys f)) before (at_place xs i x (f x) lt left
      ∙ same ∙ sym (at_place ys i y (f x) there right))

  -- the same lists have the same at each place
  pub same_item : (xs ys : List A) (i : ℕ) (x y : A) → i < length xs → i < length ys → x ≡ get_or xs i x → y ≡ get_or ys i y → map f xs ≡ map f ys → f x ≡ f y
  same_item xs ys i x y lt there left right same =
      sym (at_place xs i x (f x) lt left) ∙ ap (λ zs. get_or zs i (f x)) same ∙ at_place ys i y (f x) there right
