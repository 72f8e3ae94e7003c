-- What firings read one after another, where what those before them left in the channels from the actor to itself is put in.
use Rattle.std.proofs.Common.{◌≡◌, ◌≢◌, ℕ, zero, suc, ◌+◌, ◌-◌, ◌<◌, ◌≤◌, ◌==◌, cond, Bool, inl, inr, List, [], ◌∷◌, ◌++◌, length, get_or, take, drop}
use Rattle.std.proofs.Common.{refl, ap, ap₂, ◌∙◌, sym, arith, append_assoc, append-nil}
use Rattle.std.specs.Prelude.{ℤ}
use Rattle.std.specs.List.{AllByRecursion}
use Rattle.std.proofs.Math.Seq.{take-append_seam, drop-append_seam}
use Rattle.std.proofs.lemmas.Bool.Decides.{eqb_tells}
use Rattle.std.proofs.lemmas.List.{drop_more, take_all, take-take, take-append-le, drop-append-le, drop-take, length-append, length-drop, length-take-le}
use Rattle.csdf_core.specs.Blocks.{gifts_of, takes_at, fronts, reads_over}
use Rattle.csdf_core.specs.Engine.{FindsIn, filled, gives_to, reads_of, there_of}
use Rattle.csdf_core.specs.Own.{AreOwn, OwnEnough, own_laid, own_left, own_passed}
use Rattle.csdf_core.specs.Plan.{Channel, from_at}
use Rattle.csdf_core.specs.Ports.{inputs_at, take_at, tokens_at}
use Rattle.csdf_core.specs.Rows.{need, gift, shares}
use Rattle.csdf_core.proofs.BlockPorts.{both, each}
use Rattle.csdf_core.proofs.BlockReads.{enough_at}
use Rattle.csdf_core.proofs.BlockTokens.{drop_sum, fronts_same, length-fronts, reads_alike, reads_same}
use Rattle.csdf_core.proofs.FilledUp.{filled_enough, length-filled}
use Rattle.csdf_core.proofs.OwnChannels.{ins_there}
use Rattle.csdf_core.proofs.PortLemmas.{need_is}
use Rattle.csdf_core.proofs.Shares.{gives_gave, length-gives, none_given}

-- a fact of every number
all_of : {P : ℕ → Type 0} (ns : List ℕ) → ((c : ℕ) → P c) → AllByRecursion P ns
all_of [] f = tt
all_of (c ∷ ns) f = (f c, all_of ns f)

-- ---- one firing more
takes_split : (cs : List Channel) (c k i m : ℕ) → takes_at cs k (i + m) c ≡ takes_at cs k i c + takes_at cs (k + i) m c
takes_split cs c k zero m =
    let one = ap (λ (x : ℕ). takes_at cs k x c) (let e : 0 + m ≡ m = omega arith in e) in
    let same = ap (λ (x : ℕ). takes_at cs x m c) (let e : k ≡ k + 0 = omega arith in e) in
    omega (arith, one, same)
takes_split cs c k (suc i) m =
    let one = ap (λ (x : ℕ). takes_at cs k x c) (let e : suc i + m ≡ suc (i + m) = omega arith in e) in
    let rest = takes_split cs c (suc k) i m in
    let next = ap (λ (x : ℕ). takes_at cs x m c) (let e : suc k + i ≡ k + suc i = omega arith in e) in
    omega (arith, one, rest, next)

takes_more : (cs : List Channel) (c k i : ℕ) → takes_at cs k (suc i) c ≡ takes_at cs k i c + take_at cs (k + i) c
takes_more cs c k i =
    let one = ap (λ (x : ℕ). takes_at cs k x c) (let e : suc i ≡ i + 1 = omega arith in e) in
    let split = takes_split cs c k i 1 in
    omega (arith, one, split)

reads_more : (cs : List Channel) (ns : List ℕ) (k i : ℕ) (f : ℕ → List ℤ)
    → reads_over cs ns k (suc i) f ≡ reads_over cs ns k i f ++ fronts (take_at cs (k + i)) ns (λ c. drop (takes_at cs k i c) (f c))
reads_more cs ns k zero f =
    append-nil (fronts (take_at cs k) ns f) ∙ ap (λ (j : ℕ). fronts (take_at cs j) ns f) (let e : k ≡ k + 0 = omega arith in e)
reads_more cs ns k (suc i) f =
    let head : List ℤ = fronts (take_at cs k) ns f in
    let g : ℕ → List ℤ = λ c. drop (take_at cs k c) (f c) in
    let last : List ℤ = fronts (take_at cs (k + suc i)) ns (λ c. drop (takes_at cs k (suc i) c) (f c)) in
    let same : fronts (take_at cs (suc k + i)) ns (λ c. drop (takes_at cs (suc k) i c) (g c)) ≡ last =
    ap (λ (j : ℕ). fronts (take_at cs j) ns (λ c. drop (takes_at cs (suc k) i c) (g c))) (let e : suc k + i ≡ k + suc i = omega arith in e)
    ∙ fronts_same (take_at cs (k + suc i)) ns (λ c. drop (takes_at cs (suc k) i c) (g c)) (λ c. drop (takes_at cs k (suc i) c) (f c))
    (all_of ns (λ c. ap (take (take_at cs (k + suc i) c)) (sym (drop_sum (take_at cs k c) (takes_at cs (suc k) i c) (f c))))) in
    ap (λ (u : List ℤ). head ++ u) (reads_more cs ns (suc k) i g ∙ ap (λ (u : List ℤ). reads_over cs ns (suc k) i g ++ u) same)
    ∙ sym (append_assoc head (reads_over cs ns (suc k) i g) last)

-- its share comes behind theirs
share_more : (cs : List Channel) (a c k i : ℕ) (v x : List ℤ) → length v ≡ gifts_of cs a k i → length x ≡ gift a (k + i) cs
    → gives_to cs a c k (suc i) (v ++ x) ≡ gives_to cs a c k i v ++ tokens_at (shares a (k + i) cs x) c
share_more cs a c k zero (y ∷ v) x len one = absurd (omega (arith, len))
share_more cs a c k zero [] x len one =
    let here : k + 0 ≡ k = omega arith in
    let size = ap (λ (j : ℕ). gift a j cs) here in
    append-nil (tokens_at (shares a k cs (take (gift a k cs) x)) c)
    ∙ ap (λ (u : List ℤ). tokens_at (shares a k cs u) c) (take_all (gift a k cs) x (omega (arith, one, size)))
    ∙ ap (λ (j : ℕ). tokens_at (shares a j cs x) c) (sym here)
share_more cs a c k (suc i) v x len one =
    let g : ℕ = gift a k cs in
    let next : suc k + i ≡ k + suc i = omega arith in
    let enough : g ≤ length v = omega (arith, len) in
    let behind = length-drop g v in
    let share : List ℤ = tokens_at (shares a k cs (take g v)) c in
    ap₂ (λ (u w : List ℤ). tokens_at (shares a k cs u) c ++ gives_to cs a c (suc k) (suc i) w) (take-append-le g v x enough) (drop-append-le g v x enough)
    ∙ ap (λ (u : List ℤ). share ++ u)
    (share_more cs a c (suc k) i (drop g v) x (omega (arith, behind, len)) (one ∙ ap (λ (j : ℕ). gift a j cs) (sym next))
    ∙ ap (λ (j : ℕ). gives_to cs a c (suc k) i (drop g v) ++ tokens_at (shares a j cs x) c) next)
    ∙ sym (append_assoc share (gives_to cs a c (suc k) i (drop g v)) (tokens_at (shares a (k + suc i) cs x) c))

-- ---- own tokens may be told in another way
pub own_same : (cs : List Channel) (a : ℕ) (f g : ℕ → List ℤ) (own : List (List ℤ)) → AllByRecursion (λ c. f c ≡ g c) (inputs_at cs a) → AreOwn cs a f own
    → AreOwn cs a g own
own_same cs a f g own same h = record {
  each_input = h.each_input;
  hold = λ place lt from. h.hold place lt from ∙ enough_at (λ c. f c ≡ g c) (inputs_at cs a) place lt same;
}

-- the list at a place, wherever its number is kept
pub own_at : (cs : List Channel) (a : ℕ) (ns : List ℕ) (f : ℕ → List ℤ) (own : List (List ℤ)) (i : ℕ) (queue : List ℤ) → ns ≡ inputs_at cs a → AreOwn cs a f own
    → i < length ns → queue ≡ get_or own i queue → from_at cs (get_or ns i 0) ≡ a → queue ≡ f (get_or ns i 0)
own_at cs a ns f own i queue are h lt is from =
    let within : i < length (inputs_at cs a) = omega (arith, lt, ap length are) in
    let there = h.each_input in
    is ∙ get_or_any own i queue [] (omega (arith, within, there))
    ∙ h.hold i within (ap (λ (ms : List ℕ). from_at cs (get_or ms i 0)) (sym are) ∙ from)
    ∙ ap (λ (ms : List ℕ). f (get_or ms i 0)) (sym are)
  where
    get_or_any : {A : Type 0} (xs : List A) (i : ℕ) (d e : A) → i < length xs → get_or xs i d ≡ get_or xs i e
    get_or_any [] i d e lt = absurd (omega arith)
    get_or_any (x ∷ xs) zero d e lt = refl
    get_or_any (x ∷ xs) (suc i) d e lt = get_or_any xs i d e (omega (arith, lt))

-- before the first firing they are what is present
pub own_first : (cs : List Channel) (a k : ℕ) (ts own : List (List ℤ)) → AreOwn cs a (tokens_at ts) own → AreOwn cs a (own_left cs a k 0 [] ts) own
own_first cs a k ts own h =
    own_same cs a (tokens_at ts) (own_left cs a k 0 [] ts) own (all_of (inputs_at cs a) (λ c. sym (append-nil (tokens_at ts c)))) h

-- ---- the tokens of own channels among those of the others
laid_fronts : (cs : List Channel) (a : ℕ) (amount : ℕ → ℕ) (ns : List ℕ) (own f : ℕ → List ℤ) → AllByRecursion (λ c. amount c ≤ length (f c)) ns
    → AllByRecursion (λ c. from_at cs c ≢ a → take (amount c) (f c) ≡ take (amount c) (own c)) ns
    → own_laid cs a amount ns own (fronts amount ns f) ≡ fronts amount ns own
laid_fronts cs a amount [] own f enough same = refl
laid_fronts cs a amount (c ∷ ns) own f enough same =
    let m : ℕ = amount c in
    let part : List ℤ = take m (f c) in
    let rest : List ℤ = fronts amount ns f in
    let size : length part ≡ m = length-take-le m (f c) enough.0 in
    let front : take m (part ++ rest) ≡ part = ap (λ (j : ℕ). take j (part ++ rest)) (sym size) ∙ take-append_seam part rest in
    let back : drop m (part ++ rest) ≡ rest = ap (λ (j : ℕ). drop j (part ++ rest)) (sym size) ∙ drop-append_seam part rest in
    let first : take m (cond (from_at cs c == a) (own c) (part ++ rest)) ≡ take m (own c) = elim (eqb_tells (from_at cs c) a) [
      | inl is ↦ ap (λ (b : Bool). take m (cond b (own c) (part ++ rest))) is.0
      | inr is ↦ ap (λ (b : Bool). take m (cond b (own c) (part ++ rest))) is.0 ∙ front ∙ same.0 is.1
    ] in
    ap₂ (λ (x y : List ℤ). x ++ y) first (ap (own_laid cs a amount ns own) back ∙ laid_fronts cs a amount ns own f enough.1 same.1)

-- one input more is laid
pub laid_more : (cs : List Channel) (a : ℕ) (amount : ℕ → ℕ) (ns : List ℕ) (f : ℕ → List ℤ) (i at m : ℕ) (queue chunk into new total : List ℤ) → i < length ns
    → m ≡ amount (get_or ns i 0) → at + m ≤ length into → (from_at cs (get_or ns i 0) ≡ a → queue ≡ f (get_or ns i 0))
    → chunk ≡ take (length (take (at + m - at) (drop at into))) (cond (from_at cs (get_or ns i 0) == a) queue (take (at + m - at) (drop at into)))
    → take (at + m) new ≡ take at into ++ chunk → drop (at + m) new ≡ drop (at + m) into
    → take at into ++ own_laid cs a amount (drop i ns) f (drop at into) ≡ total
    → take (at + m) new ++ own_laid cs a amount (drop (i + 1) ns) f (drop (at + m) new) ≡ total
laid_more cs a amount ns f i at m queue chunk into new total lt is within own laid front back so_far =
    let c : ℕ = get_or ns i 0 in
    let rest : List ℕ = drop (i + 1) ns in
    let left : List ℤ = drop at into in
    let behind = length-drop at into in
    let size : at + m - at ≡ m = omega arith in
    let long : length (take m left) ≡ m = length-take-le m left (omega (arith, behind, within)) in
    let part : chunk ≡ take m (cond (from_at cs c == a) queue (take m left)) =
    laid
    ∙ ap (λ (x : ℕ). take (length (take x left)) (cond (from_at cs c == a) queue (take x left))) size
    ∙ ap (λ (x : ℕ). take x (cond (from_at cs c == a) queue (take m left))) long in
    let first : chunk ≡ take m (cond (from_at cs c == a) (f c) left) = elim (eqb_tells (from_at cs c) a) [
      | inl e ↦
          part ∙ ap (λ (b : Bool). take m (cond b queue (take m left))) e.0 ∙ ap (take m) (own e.1)
          ∙ sym (ap (λ (b : Bool). take m (cond b (f c) left)) e.0)
      | inr e ↦
          part ∙ ap (λ (b : Bool). take m (cond b queue (take m left))) e.0 ∙ take_all m (take m left) (omega (arith, long))
          ∙ sym (ap (λ (b : Bool). take m (cond b (f c) left)) e.0)
    ] in
    let later : List ℤ = own_laid cs a amount rest f (drop m left) in
    ap₂ (λ (x y : List ℤ). x ++ own_laid cs a amount rest f y) front (back ∙ drop_sum at m into)
    ∙ append_assoc (take at into) chunk later
    ∙ ap (λ (u : List ℤ). take at into ++ (u ++ later)) first
    ∙ ap (λ (x : ℕ). take at into ++ (take x (cond (from_at cs c == a) (f c) left) ++ own_laid cs a amount rest f (drop x left))) is
    ∙ ap (λ (ms : List ℕ). take at into ++ own_laid cs a amount ms f left) (sym (drop_more ns i 0 lt))
    ∙ so_far

-- ---- n firings, each of which finds what it takes
module _ (cs : List Channel) (a k n : ℕ) (ts : List (List ℤ)) (finds : (i : ℕ) → i < n → AllByRecursion (FindsIn cs ts a k i) (inputs_at cs a)) where
  abbrev ins : List ℕ
  ins = inputs_at cs a

  -- what firing number k + i finds in an input, with what the actor took of it
  abbrev full : ℕ → List ℤ → ℕ → List ℤ
  full i v c = tokens_at ts c ++ gives_to cs a c k i v

  found : (i : ℕ) → i < n → (v : List ℤ) → length v ≡ gifts_of cs a k i → AllByRecursion (λ c. takes_at cs k (suc i) c ≤ length (full i v c)) ins
  found i lt v len =
      both ins
      (λ c (f : FindsIn cs ts a k i c) (there : c < length cs).
      (let l = length-append (tokens_at ts c) (gives_to cs a c k i v) in
      let z : takes_at cs k (suc i) c ≤ length (full i v c) = elim (eqb_tells (from_at cs c) a) [
        | inl is ↦
            (let g = length-gives cs a c there k i v len in
            let h = gives_gave cs a c there is.1 k i in
            let t = f.own is.1 in
            omega (arith, l, g, h, t))
        | inr is ↦ (let t = f.others is.1 in omega (arith, l, t))
      ] in
      z))
      (finds i lt) (ins_there cs a)

  -- the reads of one firing more
  pub read_more : (i : ℕ) → i < n → (v x : List ℤ) → length v ≡ gifts_of cs a k i → length x ≡ gift a (k + i) cs
      → reads_of cs a k (suc i) ts (v ++ x) ≡ reads_of cs a k i ts v ++ fronts (take_at cs (k + i)) ins (own_left cs a k i v ts)
  read_more i lt v x len one =
      let share : ℕ → List ℤ = λ c. tokens_at (shares a (k + i) cs x) c in
      let f : ℕ → List ℤ = λ c. full i v c ++ share c in
      reads_same cs ins k (suc i) (λ c. tokens_at ts c ++ gives_to cs a c k (suc i) (v ++ x)) f
      (all_of ins (λ c. ap (λ (u : List ℤ). tokens_at ts c ++ u) (share_more cs a c k i v x len one)
      ∙ sym (append_assoc (tokens_at ts c) (gives_to cs a c k i v) (share c))))
      ∙ reads_alike cs ins k (suc i) f (full i v)
      (each ins (λ c (le : takes_at cs k (suc i) c ≤ length (full i v c)). take-append-le (takes_at cs k (suc i) c) (full i v c) (share c) le) (found i lt v len))
      ∙ reads_more cs ins k i (full i v)

  -- what it leaves in the own channels
  pub own_more : (i : ℕ) → i < n → (v x : List ℤ) → length v ≡ gifts_of cs a k i → length x ≡ gift a (k + i) cs → (own : List (List ℤ))
      → AreOwn cs a (own_passed cs a (k + i) x (own_left cs a k i v ts)) own → AreOwn cs a (own_left cs a k (suc i) (v ++ x) ts) own
  own_more i lt v x len one own h =
      own_same cs a (own_passed cs a (k + i) x (own_left cs a k i v ts)) (own_left cs a k (suc i) (v ++ x) ts) own
      (each ins
      (λ c (le : takes_at cs k (suc i) c ≤ length (full i v c)).
      (let t : ℕ = takes_at cs k i c in
      let m : ℕ = take_at cs (k + i) c in
      let share : List ℤ = tokens_at (shares a (k + i) cs x) c in
      let more = takes_more cs c k i in
      let z : drop m (drop t (full i v c) ++ share) ≡ own_left cs a k (suc i) (v ++ x) ts c =
      ap (drop m) (sym (drop-append-le t (full i v c) share (omega (arith, le, more))))
      ∙ sym (drop_sum t m (full i v c ++ share))
      ∙ ap₂ (λ (j : ℕ) (u : List ℤ). drop j u) (sym more)
      (append_assoc (tokens_at ts c) (gives_to cs a c k i v) share
      ∙ ap (λ (u : List ℤ). tokens_at ts c ++ u) (sym (share_more cs a c k i v x len one))) in
      z))
      (found i lt v len)) h

  -- each of them has what it takes
  pub own_enough : (i : ℕ) → i < n → (v : List ℤ) → length v ≡ gifts_of cs a k i → (own : List (List ℤ)) → AreOwn cs a (own_left cs a k i v ts) own
      → OwnEnough cs a (take_at cs (k + i)) own
  own_enough i lt v len own h place within from =
      let c : ℕ = get_or ins place 0 in
      let le = enough_at (λ d. takes_at cs k (suc i) d ≤ length (full i v d)) ins place within (found i lt v len) in
      let more = takes_more cs c k i in
      let is = ap length (h.hold place within from) in
      let d = length-drop (takes_at cs k i c) (full i v c) in
      omega (arith, le, more, is, d)

  -- what is there of an input for firing number k + i
  abbrev fresh : ℕ → ℕ → List ℤ
  fresh i c = drop (takes_at cs k i c) (filled (takes_at cs k n c) (tokens_at ts c))

  -- what is there for firing number k + i and those behind it
  abbrev pub there_from : ℕ → List ℤ
  there_from i = reads_over cs ins (k + i) (n - i) (fresh i)

  pub there_first : there_of cs a k n ts ≡ there_from 0
  there_first = ap₂ (λ (x y : ℕ). reads_over cs ins x y (fresh 0)) (let e : k ≡ k + 0 = omega arith in e) (let e : n ≡ n - 0 = omega arith in e)

  takes_all : (i c : ℕ) → i < n → takes_at cs k n c ≡ takes_at cs k i c + (take_at cs (k + i) c + takes_at cs (k + suc i) (n - suc i) c)
  takes_all i c lt =
      let whole = ap (λ (x : ℕ). takes_at cs k x c) (let e : n ≡ suc i + (n - suc i) = omega (arith, lt) in e) in
      let split = takes_split cs c k (suc i) (n - suc i) in
      let more = takes_more cs c k i in
      omega (arith, whole, split, more)

  part_there : (i : ℕ) → i < n → AllByRecursion (λ c. take_at cs (k + i) c ≤ length (fresh i c)) ins
  part_there i lt =
      all_of ins (λ c.
      (let d = length-drop (takes_at cs k i c) (filled (takes_at cs k n c) (tokens_at ts c)) in
      let l = length-filled (takes_at cs k n c) (tokens_at ts c) in
      let t = takes_all i c lt in
      let z : take_at cs (k + i) c ≤ length (fresh i c) = omega (arith, d, l, t) in
      z))

  part_long : (i : ℕ) → i < n → length (fronts (take_at cs (k + i)) ins (fresh i)) ≡ need a (k + i) cs
  part_long i lt = length-fronts (take_at cs (k + i)) ins (fresh i) (part_there i lt) ∙ need_is a (k + i) cs

  there_more : (i : ℕ) → i < n → there_from i ≡ fronts (take_at cs (k + i)) ins (fresh i) ++ there_from (suc i)
  there_more i lt =
      let first : List ℤ = fronts (take_at cs (k + i)) ins (fresh i) in
      ap (λ (x : ℕ). reads_over cs ins (k + i) x (fresh i)) (let e : n - i ≡ suc (n - suc i) = omega (arith, lt) in e)
      ∙ ap (λ (u : List ℤ). first ++ u)
      (reads_same cs ins (suc (k + i)) (n - suc i) (λ c. drop (take_at cs (k + i) c) (fresh i c)) (fresh (suc i))
      (all_of ins (λ c. sym (drop_sum (takes_at cs k i c) (take_at cs (k + i) c) (filled (takes_at cs k n c) (tokens_at ts c)))
      ∙ ap (λ (x : ℕ). drop x (filled (takes_at cs k n c) (tokens_at ts c))) (sym (takes_more cs c k i))))
      ∙ ap (λ (x : ℕ). reads_over cs ins x (n - suc i) (fresh (suc i))) (let e : suc (k + i) ≡ k + suc i = omega arith in e))

  pub there_rest : (i : ℕ) → i < n → drop (need a (k + i) cs) (there_from i) ≡ there_from (suc i)
  there_rest i lt =
      let first : List ℤ = fronts (take_at cs (k + i)) ins (fresh i) in
      ap₂ (λ (x : ℕ) (u : List ℤ). drop x u) (sym (part_long i lt)) (there_more i lt) ∙ drop-append_seam first (there_from (suc i))

  there_part : (i : ℕ) → i < n → take (need a (k + i) cs) (there_from i) ≡ fronts (take_at cs (k + i)) ins (fresh i)
  there_part i lt =
      let first : List ℤ = fronts (take_at cs (k + i)) ins (fresh i) in
      ap₂ (λ (x : ℕ) (u : List ℤ). take x u) (sym (part_long i lt)) (there_more i lt) ∙ take-append_seam first (there_from (suc i))

  -- of an input that another actor fills it is what it finds
  other_alike : (i : ℕ) → i < n → (v : List ℤ)
      → AllByRecursion (λ c. from_at cs c ≢ a → take (take_at cs (k + i) c) (fresh i c) ≡ take (take_at cs (k + i) c) (own_left cs a k i v ts c)) ins
  other_alike i lt v =
      both ins
      (λ c (f : FindsIn cs ts a k (n - 1) c) (there : c < length cs) (other : from_at cs c ≢ a).
      (let t : ℕ = takes_at cs k i c in
      let m : ℕ = take_at cs (k + i) c in
      let r : ℕ = takes_at cs (k + suc i) (n - suc i) c in
      let held : List ℤ = tokens_at ts c in
      let all = takes_all i c lt in
      let last = ap (λ (x : ℕ). takes_at cs k x c) (let e : suc (n - 1) ≡ n = omega (arith, lt) in e) in
      let has = f.others other in
      ap (λ (u : List ℤ). take m (drop t u)) (filled_enough (takes_at cs k n c) held (omega (arith, has, last)))
      ∙ ap (λ (x : ℕ). take m (drop t (take x held))) all
      ∙ ap (take m) (drop-take t (m + r) held)
      ∙ take-take m (m + r) (drop t held) (omega arith)
      ∙ ap (λ (u : List ℤ). take m (drop t u))
      (sym (append-nil held) ∙ ap (λ (u : List ℤ). held ++ u) (sym (none_given cs a c there other k i v)))))
      (finds (n - 1) (omega (arith, lt))) (ins_there cs a)

  -- with the own tokens put in it is what the firing reads
  pub laid_there : (i : ℕ) → i < n → (v : List ℤ)
      → own_laid cs a (take_at cs (k + i)) ins (own_left cs a k i v ts) (take (need a (k + i) cs) (there_from i))
      ≡ fronts (take_at cs (k + i)) ins (own_left cs a k i v ts)
  laid_there i lt v =
      ap (own_laid cs a (take_at cs (k + i)) ins (own_left cs a k i v ts)) (there_part i lt)
      ∙ laid_fronts cs a (take_at cs (k + i)) ins (own_left cs a k i v ts) (fresh i) (part_there i lt) (other_alike i lt v)
