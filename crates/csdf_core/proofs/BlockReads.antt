-- The reads of many firings of an actor with several inputs, put together input by input.
use Rattle.std.proofs.Common.{◌≡◌, ℕ, zero, suc, ◌+◌, ◌-◌, ◌<◌, ◌≤◌, List, [], ◌∷◌, ◌++◌, length, get_or, take, drop, refl, ap, ap₂, ◌∙◌, sym, subst, arith}
use Rattle.std.proofs.Common.{append_assoc, append-nil}
use Rattle.std.specs.Prelude.{ℤ, sum_by}
use Rattle.std.specs.List.{AllByRecursion}
use Rattle.std.proofs.Math.Seq.{take-append_seam, drop-append_seam}
use Rattle.std.proofs.lemmas.List.{take_all, take-append-drop, length-append, length-drop, length-take-le}
use Rattle.std.proofs.lemmas.List.Sums.{sum_by-cons, sum_by-append}
use Rattle.csdf_core.specs.Blocks.{needs_of, takes_at, fronts, reads_over, put_from, laid, IsSlot}
use Rattle.csdf_core.specs.Plan.{Channel}
use Rattle.csdf_core.specs.Ports.{inputs_at, take_at}
use Rattle.csdf_core.specs.Phases.{HasPhases}
use Rattle.csdf_core.specs.Rows.{need}
use Rattle.csdf_core.proofs.OnePhase.{same_need, same_takes}
use Rattle.csdf_core.proofs.BlockTokens.{drop_sum}
use Rattle.csdf_core.proofs.PortLemmas.{need_is}

pub fronts_more : (amount : ℕ → ℕ) (ns : List ℕ) (c : ℕ) (f : ℕ → List ℤ) → fronts amount (ns ++ c ∷ []) f ≡ fronts amount ns f ++ take (amount c) (f c)
fronts_more amount [] c f = append-nil (take (amount c) (f c))
fronts_more amount (d ∷ ns) c f =
    ap (λ (u : List ℤ). take (amount d) (f d) ++ u) (fronts_more amount ns c f)
    ∙ sym (append_assoc (take (amount d) (f d)) (fronts amount ns f) (take (amount c) (f c)))

sum_more : (amount : ℕ → ℕ) (ns : List ℕ) (c : ℕ) → sum_by amount (ns ++ c ∷ []) ≡ sum_by amount ns + amount c
sum_more amount ns c = let s = sum_by-append amount ns (c ∷ []) in let o = sum_by-cons amount c [] in omega (arith, s, o)

module _ (cs : List Channel) (ns : List ℕ) where
  -- each firing's part begins with what the channels that are done give it
  abbrev pub IsLaid : List ℕ → ℕ → ℕ → (ℕ → List ℤ) → List ℤ → Type 0
  IsLaid done k zero f into = into ≡ []
  IsLaid done k (suc n) f into =
      (sum_by (take_at cs k) ns ≤ length into) × (take (sum_by (take_at cs k) done) (take (sum_by (take_at cs k) ns) into) ≡ fronts (take_at cs k) done f)
      × IsLaid done (suc k) n (λ c. drop (take_at cs k c) (f c)) (drop (sum_by (take_at cs k) ns) into)

  abbrev pub needed : ℕ → ℕ → ℕ
  needed k zero = 0
  needed k (suc n) = sum_by (take_at cs k) ns + needed (suc k) n

  pub none_laid : (k n : ℕ) (f : ℕ → List ℤ) (into : List ℤ) → length into ≡ needed k n → IsLaid [] k n f into
  none_laid k zero f [] len = refl
  none_laid k zero f (x ∷ into) len = absurd (omega arith)
  none_laid k (suc n) f into len = (
    omega (arith, len),
    refl,
    none_laid (suc k) n (λ c. drop (take_at cs k c) (f c)) (drop (sum_by (take_at cs k) ns) into)
        (let d = length-drop (sum_by (take_at cs k) ns) into in omega (arith, d, len)),
  )

  pub all_laid : (k n : ℕ) (f : ℕ → List ℤ) (into : List ℤ) → IsLaid ns k n f into → into ≡ reads_over cs ns k n f
  all_laid k zero f into h = h
  all_laid k (suc n) f into h =
      let s : ℕ = sum_by (take_at cs k) ns in
      let front : List ℤ = take s into in
      let size : length front ≡ s = length-take-le s into h.0 in
      sym (take-append-drop s into)
      ∙ ap₂ (λ (x y : List ℤ). x ++ y) (sym (take_all s front (omega (arith, size))) ∙ h.1)
      (all_laid (suc k) n (λ c. drop (take_at cs k c) (f c)) (drop s into) h.2)

  -- one channel more
  module _ (done : List ℕ) (c : ℕ) (within : (k : ℕ) → sum_by (take_at cs k) done + take_at cs k c ≤ sum_by (take_at cs k) ns) where
    pub more_laid : (k n : ℕ) (f : ℕ → List ℤ) (into : List ℤ) → takes_at cs k n c ≤ length (f c) → IsLaid done k n f into
        → IsLaid (done ++ c ∷ []) k n f (laid cs ns done c k n (f c) into)
    more_laid k zero f into enough h = h
    more_laid k (suc n) f into enough h =
        let s : ℕ = sum_by (take_at cs k) ns in
        let place : ℕ = sum_by (take_at cs k) done in
        let m : ℕ = take_at cs k c in
        let chunk : List ℤ = take s into in
        let others : List ℤ = laid cs ns done c (suc k) n (drop m (f c)) (drop s into) in
        let low : place + m ≤ s = within k in
        let size : length chunk ≡ s = length-take-le s into h.0 in
        let head : List ℤ = take place chunk in
        let mine : List ℤ = take m (f c) in
        let tail : List ℤ = drop (place + m) chunk in
        let part : List ℤ = head ++ mine ++ tail in
        let l1 : length head ≡ place = length-take-le place chunk (omega (arith, size, low)) in
        let l2 : length mine ≡ m = length-take-le m (f c) (omega (arith, enough)) in
        let l3 = length-drop (place + m) chunk in
        let a1 = length-append (head ++ mine) tail in
        let b1 = length-append head mine in
        let whole : length part ≡ s = omega (arith, l1, l2, l3, a1, b1, size, low) in
        let front : take s (part ++ others) ≡ part = ap (λ (x : ℕ). take x (part ++ others)) (sym whole) ∙ take-append_seam part others in
        let back : drop s (part ++ others) ≡ others = ap (λ (x : ℕ). drop x (part ++ others)) (sym whole) ∙ drop-append_seam part others in
        let both_are : length (head ++ mine) ≡ place + m = omega (arith, b1, l1, l2) in
        let upto : take (place + m) part ≡ head ++ mine =
        ap (λ (x : ℕ). take x (head ++ mine ++ tail)) (sym both_are)
        ∙ take-append_seam (head ++ mine) tail in
        let total = length-append part others in (
          omega (arith, total, whole),
          ap₂ (λ (i : ℕ) (u : List ℤ). take i u) (sum_more (take_at cs k) done c) front ∙ upto ∙ ap (λ (u : List ℤ). u ++ mine) h.1
              ∙ sym (fronts_more (take_at cs k) done c f),
          subst (IsLaid (done ++ c ∷ []) (suc k) n (λ d. drop (take_at cs k d) (f d))) (sym back)
              (more_laid (suc k) n (λ d. drop (take_at cs k d) (f d)) (drop s into)
              (let d = length-drop m (f c) in
              let r : takes_at cs (suc k) n c ≤ length (drop m (f c)) = omega (arith, d, enough) in r) h.2),
        )

-- what each input takes of a firing is within all that the firing takes
pub within_all : (f : ℕ → ℕ) (ns : List ℕ) (j : ℕ) → j < length ns → sum_by f (take j ns) + f (get_or ns j 0) ≤ sum_by f ns
within_all f [] j lt = absurd (omega arith)
within_all f (c ∷ ns) zero lt = let s = sum_by-cons f c ns in omega (arith, s)
within_all f (c ∷ ns) (suc j) lt =
    let s = sum_by-cons f c ns in
    let t = sum_by-cons f c (take j ns) in
    let r = within_all f ns j (omega (arith, lt)) in
    let g : sum_by f (c ∷ take j ns) + f (get_or ns j 0) ≤ sum_by f (c ∷ ns) = omega (arith, s, t, r) in
    g

pub needed_is : (cs : List Channel) (a k n : ℕ) → needs_of cs a k n ≡ needed cs (inputs_at cs a) k n
needed_is cs a k zero = refl
needed_is cs a k (suc n) = ap₂ (λ (x y : ℕ). x + y) (sym (need_is a k cs)) (needed_is cs a (suc k) n)

-- a fact of each input is one of the input at a place
pub enough_at : (P : ℕ → Type 0) (ns : List ℕ) (j : ℕ) → j < length ns → AllByRecursion P ns → P (get_or ns j 0)
enough_at P [] j lt all = absurd (omega arith)
enough_at P (c ∷ ns) zero lt all = all.0
enough_at P (c ∷ ns) (suc j) lt all = enough_at P ns j (omega (arith, lt)) all.1

-- one firing more is laid
pub laid_step : (cs : List Channel) (ns before : List ℕ) (c k j n i at g : ℕ) (tokens others chunk into new total : List ℤ) → i < n
    → g ≡ sum_by (take_at cs k) ns → j ≡ k + 1 → others ≡ drop (take_at cs k c) tokens → take (at + g) new ≡ take at into ++ chunk
    → chunk ≡ put_from (sum_by (take_at cs k) before) (take_at cs k c) tokens (take (at + g - at) (drop at into)) → drop (at + g) new ≡ drop (at + g) into
    → take at into ++ laid cs ns before c k (n - i) tokens (drop at into) ≡ total
    → take (at + g) new ++ laid cs ns before c j (n - (i + 1)) others (drop (at + g) new) ≡ total
laid_step cs ns before c k j n i at g tokens others chunk into new total lt all next left front put back so_far =
    let s : ℕ = sum_by (take_at cs k) ns in
    let one : n - i ≡ suc (n - (i + 1)) = omega (arith, lt) in
    let same : j ≡ suc k = omega (arith, next) in
    let size : at + g - at ≡ s = omega (arith, all) in
    let part : List ℤ = put_from (sum_by (take_at cs k) before) (take_at cs k c) tokens (take s (drop at into)) in
    let rest : List ℤ = laid cs ns before c (suc k) (n - (i + 1)) (drop (take_at cs k c) tokens) (drop s (drop at into)) in
    let part_is : chunk ≡ part = put ∙ ap (λ (x : ℕ). put_from (sum_by (take_at cs k) before) (take_at cs k c) tokens (take x (drop at into))) size in
    let tail_is : drop (at + g) new ≡ drop s (drop at into) = back ∙ drop_sum at g into ∙ ap (λ (x : ℕ). drop x (drop at into)) all in
    ap₂ (λ (x y : List ℤ). x ++ laid cs ns before c j (n - (i + 1)) others y) (front ∙ ap (λ (u : List ℤ). take at into ++ u) part_is) tail_is
    ∙ ap₂ (λ (x : ℕ) (u : List ℤ). (take at into ++ part) ++ laid cs ns before c x (n - (i + 1)) u (drop s (drop at into))) same left
    ∙ append_assoc (take at into) part rest
    ∙ ap (λ (x : ℕ). take at into ++ laid cs ns before c k x tokens (drop at into)) (sym one)
    ∙ so_far

pub needs_left : (cs : List Channel) (a k j n i at g size : ℕ) → i < n → g ≡ need a k cs → j ≡ k + 1 → at + needs_of cs a k (n - i) ≡ size
    → at + g + needs_of cs a j (n - (i + 1)) ≡ size
needs_left cs a k j n i at g size lt all next whole =
    let one : n - i ≡ suc (n - (i + 1)) = omega (arith, lt) in
    let same : j ≡ suc k = omega (arith, next) in
    let x : needs_of cs a k (n - i) ≡ need a k cs + needs_of cs a (suc k) (n - (i + 1)) = ap (needs_of cs a k) one in
    let y : needs_of cs a j (n - (i + 1)) ≡ needs_of cs a (suc k) (n - (i + 1)) = ap (λ (q : ℕ). needs_of cs a q (n - (i + 1))) same in
    omega (arith, whole, x, y, all)

-- with one phase all firings have their slots at the same place
pub same_slot : (cs : List Channel) (a : ℕ) → HasPhases cs a 1 → (place j k all from taken : ℕ) → place < length (inputs_at cs a)
    → IsSlot cs a place j all from taken → IsSlot cs a place k all from taken
same_slot cs a has place j k all from taken lt h =
    let ins : List ℕ = inputs_at cs a in
    let same : AllByRecursion (λ c. take_at cs j c ≡ take_at cs k c) ins = same_takes cs a has j k in
    record {
      all_is = h.all_is ∙ same_need cs a has j k;
      from_is = h.from_is ∙ front_same (take_at cs j) (take_at cs k) place ins same;
      taken_is = h.taken_is ∙ enough_at (λ c. take_at cs j c ≡ take_at cs k c) ins place lt same;
      fits = h.fits;
    }
  where
    front_same : (f g : ℕ → ℕ) (n : ℕ) (ns : List ℕ) → AllByRecursion (λ c. f c ≡ g c) ns → sum_by f (take n ns) ≡ sum_by g (take n ns)
    front_same f g zero ns same = refl
    front_same f g (suc n) [] same = refl
    front_same f g (suc n) (c ∷ ns) same =
        omega (arith, sum_by-cons f c (take n ns), sum_by-cons g c (take n ns), same.0, front_same f g n ns same.1)
