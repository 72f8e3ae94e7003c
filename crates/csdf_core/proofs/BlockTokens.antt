-- What a firing leaves in each of its actor's channels, and what many firings read of them.
use Rattle.std.proofs.Common.{◌≡◌, ℕ, zero, suc, ◌+◌, ◌<◌, ◌≤◌, ◌==◌, List, [], ◌∷◌, ◌++◌, length, take, drop}
use Rattle.std.proofs.Common.{refl, ap, ap₂, ◌∙◌, sym, arith, append-nil}
use Rattle.std.specs.Prelude.{ℤ, sum_by}
use Rattle.std.specs.List.{AllByRecursion}
use Rattle.std.proofs.Math.Seq.{take-add, drop-nil}
use Rattle.std.proofs.lemmas.List.{drop-take, drop_all, take_all, length-append, length-take-le}
use Rattle.std.proofs.lemmas.List.Sums.{sum_by-cons}
use Rattle.csdf_model.specs.Rates.{rate}
use Rattle.csdf_core.specs.Blocks.{needs_of, takes_at, fronts, reads_over, from_front, HoldAll}
use Rattle.csdf_core.specs.Plan.{Channel}
use Rattle.csdf_core.specs.Ports.{inputs_at, take_at, own_take_at, tokens_at}
use Rattle.csdf_core.specs.Rows.{left, taken, need}
use Rattle.csdf_core.proofs.BlockPorts.{both, each}
use Rattle.csdf_core.proofs.PortLemmas.{fronts_all, rates_by_number, need_is}

-- ---- one channel after the reads and writes
pub left_at : (a k : ℕ) (cs : List Channel) (ts : List (List ℤ)) (c : ℕ) → length ts ≡ length cs → c < length cs
    → tokens_at (left a k cs ts) c ≡ drop (own_take_at cs a k c) (tokens_at ts c)
left_at a k [] ts c e lt = absurd (omega arith)
left_at a k (x ∷ cs) [] c e lt = absurd (omega arith)
left_at a k (x ∷ cs) (t ∷ ts) zero e lt = refl
left_at a k (x ∷ cs) (t ∷ ts) (suc c) e lt = left_at a k cs ts c (omega arith) (omega arith)

pub length-left : (a k : ℕ) (cs : List Channel) (ts : List (List ℤ)) → length ts ≡ length cs → length (left a k cs ts) ≡ length cs
length-left a k [] [] e = refl
length-left a k [] (t ∷ ts) e = absurd (omega arith)
length-left a k (x ∷ cs) [] e = absurd (omega arith)
length-left a k (x ∷ cs) (t ∷ ts) e = ap suc (length-left a k cs ts (omega arith))

module _ (cs : List Channel) (a : ℕ) where
  abbrev ins : List ℕ
  ins = inputs_at cs a

  -- what a firing reads
  pub taken_fronts : (k : ℕ) (ts : List (List ℤ)) → length ts ≡ length cs → taken a k cs ts ≡ fronts (take_at cs k) ins (tokens_at ts)
  taken_fronts k ts queued =
      fronts_all (λ c. c.to == a) (λ c. rate c.consume k) (take_at cs k) 0 [] cs ts refl queued (rates_by_number (λ c. c.to == a) (λ c. rate c.consume k) cs)

-- ---- what is read, by what the channels hold
pub fronts_same : (amount : ℕ → ℕ) (ns : List ℕ) (f g : ℕ → List ℤ) → AllByRecursion (λ c. take (amount c) (f c) ≡ take (amount c) (g c)) ns
    → fronts amount ns f ≡ fronts amount ns g
fronts_same amount [] f g same = refl
fronts_same amount (c ∷ ns) f g same = ap₂ (λ (x y : List ℤ). x ++ y) same.0 (fronts_same amount ns f g same.1)

front_of : (m n : ℕ) (xs : List ℤ) → take m (take (m + n) xs) ≡ take m xs
front_of zero n xs = refl
front_of (suc m) n [] = ap (λ i. take (suc m) (take i [])) (let e : suc m + n ≡ suc (m + n) = omega arith in e)
front_of (suc m) n (x ∷ xs) =
    ap (λ i. take (suc m) (take i (x ∷ xs))) (let e : suc m + n ≡ suc (m + n) = omega arith in e) ∙ ap (λ (u : List ℤ). x ∷ u) (front_of m n xs)

-- what n firings read is told by as many tokens of each channel as they take of it
pub reads_alike : (cs : List Channel) (ns : List ℕ) (k n : ℕ) (f g : ℕ → List ℤ)
    → AllByRecursion (λ c. take (takes_at cs k n c) (f c) ≡ take (takes_at cs k n c) (g c)) ns → reads_over cs ns k n f ≡ reads_over cs ns k n g
reads_alike cs ns k zero f g same = refl
reads_alike cs ns k (suc n) f g same =
    ap₂ (λ (x y : List ℤ). x ++ y)
    (fronts_same (take_at cs k) ns f g
    (each ns
    (λ c (e : take (takes_at cs k (suc n) c) (f c) ≡ take (takes_at cs k (suc n) c) (g c)).
    sym (front_of (take_at cs k c) (takes_at cs (suc k) n c) (f c)) ∙ ap (take (take_at cs k c)) e
    ∙ front_of (take_at cs k c) (takes_at cs (suc k) n c) (g c)) same))
    (reads_alike cs ns (suc k) n (λ c. drop (take_at cs k c) (f c)) (λ c. drop (take_at cs k c) (g c))
    (each ns
    (λ c (e : take (takes_at cs k (suc n) c) (f c) ≡ take (takes_at cs k (suc n) c) (g c)).
    sym (drop-take (take_at cs k c) (takes_at cs (suc k) n c) (f c)) ∙ ap (drop (take_at cs k c)) e
    ∙ drop-take (take_at cs k c) (takes_at cs (suc k) n c) (g c)) same))

pub reads_same : (cs : List Channel) (ns : List ℕ) (k n : ℕ) (f g : ℕ → List ℤ) → AllByRecursion (λ c. f c ≡ g c) ns
    → reads_over cs ns k n f ≡ reads_over cs ns k n g
reads_same cs ns k n f g same = reads_alike cs ns k n f g (each ns (λ c (e : f c ≡ g c). ap (take (takes_at cs k n c)) e) same)

pub length-fronts : (amount : ℕ → ℕ) (ns : List ℕ) (f : ℕ → List ℤ) → AllByRecursion (λ c. amount c ≤ length (f c)) ns
    → length (fronts amount ns f) ≡ sum_by amount ns
length-fronts amount [] f enough = refl
length-fronts amount (c ∷ ns) f enough =
    let s = sum_by-cons amount c ns in
    let l = length-append (take (amount c) (f c)) (fronts amount ns f) in
    let t = length-take-le (amount c) (f c) enough.0 in
    let r = length-fronts amount ns f enough.1 in
    omega (arith, s, l, t, r)

-- what one firing takes
pub one_take : (cs : List Channel) (k : ℕ) (ns : List ℕ) → AllByRecursion (λ c. takes_at cs k 1 c ≡ take_at cs k c) ns
one_take cs k [] = tt
one_take cs k (c ∷ ns) = ((let z : takes_at cs k 1 c ≡ take_at cs k c = omega arith in z), one_take cs k ns)

-- once all channels are gone through
pub fronts_done : (amount : ℕ → ℕ) (ns : List ℕ) (i at : ℕ) (into : List ℤ) (f : ℕ → List ℤ) (all : List ℤ) → length ns ≤ i → at ≡ length into
    → take at into ++ fronts amount (drop i ns) f ≡ all → into ≡ all
fronts_done amount ns i at into f all le size so_far =
    sym (take_all at into (omega (arith, size))) ∙ sym (append-nil (take at into))
    ∙ ap (λ (ms : List ℕ). take at into ++ fronts amount ms f) (sym (drop_all i ns le)) ∙ so_far

-- ---- of an actor with one input the channel's numbers are the actor's
one_of : (f : ℕ → ℕ) (ns : List ℕ) (n : ℕ) → length ns ≤ 1 → sum_by f ns ≡ n → AllByRecursion (λ c. f c ≡ n) ns
one_of f [] n one e = tt
one_of f (c ∷ []) n one e = ((let s = sum_by-cons f c [] in let r : f c ≡ n = omega (arith, s, e) in r), tt)
one_of f (c ∷ d ∷ ns) n one e = absurd (omega arith)

always : (n : ℕ) (ns : List ℕ) → AllByRecursion (λ c. n ≡ n) ns
always n [] = tt
always n (c ∷ ns) = (refl, always n ns)

module _ (cs : List Channel) (a : ℕ) where
  pub one_needs : (k n : ℕ) → length (inputs_at cs a) ≤ 1 → AllByRecursion (λ c. takes_at cs k n c ≡ needs_of cs a k n) (inputs_at cs a)
  one_needs k zero one = always 0 (inputs_at cs a)
  one_needs k (suc n) one =
      both (inputs_at cs a)
      (λ c (x : take_at cs k c ≡ need a k cs) (y : takes_at cs (suc k) n c ≡ needs_of cs a (suc k) n). ap₂ (λ (i j : ℕ). i + j) x y)
      (one_of (take_at cs k) (inputs_at cs a) (need a k cs) one (need_is a k cs)) (one_needs (suc k) n one)

-- amounts may be told in another way
pub hold_same : (ts : List (List ℤ)) (f g : ℕ → ℕ) (ns : List ℕ) → AllByRecursion (λ c. f c ≡ g c) ns → HoldAll ts f ns → HoldAll ts g ns
hold_same ts f g ns same hold =
    both ns (λ c (e : f c ≡ g c) (h : f c ≤ length (tokens_at ts c)). (let r : g c ≤ length (tokens_at ts c) = omega (arith, e, h) in r)) same hold

-- one channel's tokens are read in one piece
one_piece : (cs : List Channel) (c k n : ℕ) (f : ℕ → List ℤ) → reads_over cs (c ∷ []) k n f ≡ take (takes_at cs k n c) (f c)
one_piece cs c k zero f = refl
one_piece cs c k (suc n) f =
    ap₂ (λ (x y : List ℤ). x ++ y) (append-nil (take (take_at cs k c) (f c))) (one_piece cs c (suc k) n (λ d. drop (take_at cs k d) (f d)))
    ∙ sym (take-add (take_at cs k c) (takes_at cs (suc k) n c) (f c))

none_read : (cs : List Channel) (k n : ℕ) (f : ℕ → List ℤ) → reads_over cs [] k n f ≡ []
none_read cs k zero f = refl
none_read cs k (suc n) f = none_read cs (suc k) n (λ d. drop (take_at cs k d) (f d))

pub one_read : (cs : List Channel) (ns : List ℕ) (k n m : ℕ) (ts : List (List ℤ)) → length ns ≤ 1 → AllByRecursion (λ c. takes_at cs k n c ≡ m) ns
    → from_front ns m ts ≡ reads_over cs ns k n (tokens_at ts)
one_read cs [] k n m ts one all = sym (none_read cs k n (tokens_at ts))
one_read cs (c ∷ []) k n m ts one all = ap (λ i. take i (tokens_at ts c)) (sym all.0) ∙ sym (one_piece cs c k n (tokens_at ts))
one_read cs (c ∷ d ∷ ns) k n m ts one all = absurd (omega arith)

-- ---- one firing more is made
pub drop_sum : {A : Type 0} (m n : ℕ) (xs : List A) → drop (m + n) xs ≡ drop n (drop m xs)
drop_sum zero n xs = ap (λ k. drop k xs) (let e : zero + n ≡ n = omega arith in e)
drop_sum (suc m) n [] = drop-nil (suc m + n) ∙ sym (drop-nil n)
drop_sum (suc m) n (x ∷ xs) = ap (λ k. drop k (x ∷ xs)) (let e : suc m + n ≡ suc (m + n) = omega arith in e) ∙ drop_sum m n xs
