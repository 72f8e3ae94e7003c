-- Many puts or takes at once do what so many single ones do.
use Rattle.std.proofs.Common.{◌≡◌, ℕ, zero, suc, ◌<◌, ◌≤◌, ℤ, List, [], ◌∷◌, ◌++◌, length, get_or, take, drop, set, zip, ap, ap₂, refl, arith, ◌∙◌, sym}
use Rattle.std.proofs.Common.{append_assoc, append-nil, set-set, length-set, get_or-set_same}
use Rattle.std.proofs.lemmas.List.{set-get_or, map-append}
use Rattle.csdf_pool.specs.Pool.{Held, Shared, held_cells, after_puts, after_takes}

-- pools with equal parts are equal
pub same_pools : (a b : Shared) → a.size ≡ b.size → a.chains ≡ b.chains → a.free ≡ b.free → a ≡ b
same_pools a b size chains free = λ i. record { size = size i; chains = chains i; free = free i }

drop-more : (n : ℕ) (held : List Held) → drop n (drop 1 held) ≡ drop (suc n) held
drop-more zero [] = refl
drop-more (suc n) [] = refl
drop-more n (h ∷ held) = refl

take-more : (n : ℕ) (held : List Held) → take 1 held ++ take n (drop 1 held) ≡ take (suc n) held
take-more zero [] = refl
take-more (suc n) [] = refl
take-more n (h ∷ held) = refl

module _ (size : ℕ) (chain : ℕ) where
  pub puts_are : (chains : List (List Held)) (free : List ℕ) (tokens : List ℤ) → chain < length chains → length tokens ≤ length free →
      after_puts (record { size = size; chains = chains; free = free }) chain tokens
      ≡ record { size = size; chains = set chains chain (get_or chains chain [] ++ zip (take (length tokens) free) tokens); free = drop (length tokens) free }
  puts_are chains free [] known room =
      ap (λ cs. record { size = size; chains = cs; free = free })
      (sym (ap (set chains chain) (append-nil (get_or chains chain [])) ∙ set-get_or chains chain []))
  puts_are chains [] (token ∷ tokens) known room = absurd (omega (arith, room))
  puts_are chains (cell ∷ free) (token ∷ tokens) known room =
      let held : List Held = get_or chains chain [] ++ (cell, token) ∷ [] in
      let next = set chains chain held in
      puts_are next free tokens (omega (arith, known, length-set chains chain held)) (omega (arith, room))
      ∙ ap (λ cs. record { size = size; chains = cs; free = drop (length tokens) free })
      (ap (λ hs. set next chain (hs ++ zip (take (length tokens) free) tokens)) (get_or-set_same chains chain held [] known)
      ∙ set-set chains chain held _
      ∙ ap (set chains chain) (append_assoc (get_or chains chain []) ((cell, token) ∷ []) (zip (take (length tokens) free) tokens)))

  pub takes_are : (chains : List (List Held)) (free : List ℕ) (n : ℕ) → chain < length chains →
      after_takes (record { size = size; chains = chains; free = free }) chain n
      ≡ record { size = size; chains = set chains chain (drop n (get_or chains chain [])); free = free ++ held_cells (take n (get_or chains chain [])) }
  takes_are chains free zero known =
      ap₂ (λ cs f. record { size = size; chains = cs; free = f }) (sym (set-get_or chains chain [])) (sym (append-nil free))
  takes_are chains free (suc n) known =
      let held = get_or chains chain [] in
      let rest = drop 1 held in
      let next = set chains chain rest in
      let here : get_or next chain [] ≡ rest = get_or-set_same chains chain rest [] known in
      takes_are next (free ++ held_cells (take 1 held)) n (omega (arith, known, length-set chains chain rest))
      ∙ ap₂ (λ cs f. record { size = size; chains = cs; free = f })
      (ap (λ hs. set next chain (drop n hs)) here
      ∙ set-set chains chain rest _
      ∙ ap (set chains chain) (drop-more n held))
      (ap (λ hs. (free ++ held_cells (take 1 held)) ++ held_cells (take n hs)) here
      ∙ append_assoc free (held_cells (take 1 held)) (held_cells (take n rest))
      ∙ ap (λ xs. free ++ xs)
      (sym (map-append (λ (h : Held). h.0) (take 1 held) (take n rest))
      ∙ ap held_cells (take-more n held)))
