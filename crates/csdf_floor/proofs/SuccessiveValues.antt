-- Firings whose values are told one after another: later ones read what earlier ones wrote.
use Rattle.std.proofs.Common.{◌≡◌, ℕ, zero, suc, ◌+◌, ◌-◌, ◌<◌, ◌≤◌, Bool, false, cond, List, [], ◌∷◌, ◌++◌, length, get_or, take, drop}
use Rattle.std.proofs.Common.{refl, ap, ap₂, sym, subst, ◌∙◌, arith, append_assoc, append-nil}
use Rattle.std.specs.Prelude.{ℤ, slice_range}
use Rattle.std.specs.List.{AllByRecursion}
use Rattle.std.proofs.lemmas.List.{take_all, take-append-le, drop-append-le, length-append, length-drop, length-take-le}
use Rattle.csdf_model.specs.declared.parts.Kernel.TheVariants.{Sink}
use Rattle.csdf_kernel.specs.Value.{value_of}
use Rattle.csdf_core.specs.Blocks.{gifts_of, needs_of, takes_at, reads_over}
use Rattle.csdf_core.specs.Engine.{FindsIn, filled, reads_of, there_of}
use Rattle.csdf_core.specs.Own.{AreOwn, OwnEnough, own_laid, own_left, own_passed}
use Rattle.csdf_core.specs.Plan.{Channel, Plan}
use Rattle.csdf_core.specs.Ports.{inputs_at, take_at, tokens_at}
use Rattle.csdf_core.specs.Rows.{need, gift}
use Rattle.csdf_core.specs.Step.{given, is_source}
use Rattle.csdf_core.proofs.BlockTokens.{drop_sum}
use Rattle.csdf_core.proofs.Cycles.{gifts_sums, needs_sums, sums_fewer, sums_more}
use Rattle.csdf_core.proofs.OwnReads.{laid_there, own_enough, own_first, own_more, read_more, there_first, there_rest}
use Rattle.csdf_floor.specs.Journal.{Program, output_counts, value}
use Rattle.csdf_floor.specs.Making.{made_value}
use Rattle.csdf_floor.proofs.Journals.{value_is}

-- ---- one firing more
pub needs_within : (cs : List Channel) (a k n i : ℕ) → i < n → needs_of cs a k i + need a (k + i) cs ≤ needs_of cs a k n
needs_within cs a k n i lt =
    let f : ℕ → ℕ = λ j. need a j cs in
    omega (arith, needs_sums cs a k i, needs_sums cs a k n, sums_more f k i, sums_fewer f k (suc i) n (omega (arith, lt)))

pub gifts_within : (cs : List Channel) (a k n i : ℕ) → i < n → gifts_of cs a k i + gift a (k + i) cs ≤ gifts_of cs a k n
gifts_within cs a k n i lt =
    let f : ℕ → ℕ = λ j. gift a j cs in
    omega (arith, gifts_sums cs a k i, gifts_sums cs a k n, sums_more f k i, sums_fewer f k (suc i) n (omega (arith, lt)))

needs_more : (cs : List Channel) (a k i : ℕ) → needs_of cs a k (suc i) ≡ needs_of cs a k i + need a (k + i) cs
needs_more cs a k i =
    let f : ℕ → ℕ = λ j. need a j cs in
    omega (arith, needs_sums cs a k i, needs_sums cs a k (suc i), sums_more f k i)

gifts_more : (cs : List Channel) (a k i : ℕ) → gifts_of cs a k (suc i) ≡ gifts_of cs a k i + gift a (k + i) cs
gifts_more cs a k i =
    let f : ℕ → ℕ = λ j. gift a j cs in
    omega (arith, gifts_sums cs a k i, gifts_sums cs a k (suc i), sums_more f k i)

made_more : (w : Program) (a k i : ℕ) (xs ys : List ℤ) → length xs ≡ needs_of w.plan.channels a k i → length ys ≡ need a (k + i) w.plan.channels
    → made_value w a k (suc i) (xs ++ ys) ≡ made_value w a k i xs ++ value w a (k + i) ys
made_more w a k zero (x ∷ xs) ys len one = absurd (omega (arith, len))
made_more w a k zero [] ys len one =
    let here : k + 0 ≡ k = omega arith in
    let size = ap (λ (j : ℕ). need a j w.plan.channels) here in
    append-nil (value w a k (take (need a k w.plan.channels) ys))
    ∙ ap (value w a k) (take_all (need a k w.plan.channels) ys (omega (arith, one, size)))
    ∙ ap (λ (j : ℕ). value w a j ys) (sym here)
made_more w a k (suc i) xs ys len one =
    let r : ℕ = need a k w.plan.channels in
    let next : suc k + i ≡ k + suc i = omega arith in
    let enough : r ≤ length xs = omega (arith, len) in
    let behind = length-drop r xs in
    let first : List ℤ = value w a k (take r xs) in
    ap₂ (λ (u v : List ℤ). value w a k u ++ made_value w a (suc k) (suc i) v) (take-append-le r xs ys enough) (drop-append-le r xs ys enough)
    ∙ ap (λ (u : List ℤ). first ++ u)
    (made_more w a (suc k) i (drop r xs) ys (omega (arith, behind, len)) (one ∙ ap (λ (j : ℕ). need a j w.plan.channels) (sym next))
    ∙ ap (λ (j : ℕ). made_value w a (suc k) i (drop r xs) ++ value w a j ys) next)
    ∙ sym (append_assoc first (made_value w a (suc k) i (drop r xs)) (value w a (k + suc i) ys))

-- an actor that is no source computes from what it reads
pub value_read : (w : Program) (a k : ℕ) (xs : List ℤ) → is_source w.plan a ≡ false
    → value w a k xs ≡ value_of (get_or w.kernels a Sink) (output_counts w a k) xs
value_read w a k xs other =
    value_is w a k xs
    ∙ ap (λ (b : Bool). value_of (get_or w.kernels a Sink) (output_counts w a k)
    (cond b (slice_range (get_or w.feeds a []) (given w.plan a k) (given w.plan a (suc k))) xs)) other

-- ---- i of n firings are told

-- what is there for firing number k + i and those behind it
abbrev pub there_on : List Channel → ℕ → ℕ → ℕ → List (List ℤ) → ℕ → List ℤ
there_on cs a k n ts i = reads_over cs (inputs_at cs a) (k + i) (n - i) (λ c. drop (takes_at cs k i c) (filled (takes_at cs k n c) (tokens_at ts c)))

-- the buffer has what they read up to a place, and from there on what is there; the values are theirs, and the own channels hold what they left
pub record IsOn (w : Program) (cs : List Channel) (a k n i at : ℕ) (ts own : List (List ℤ)) (buffer v : List ℤ) : Type 0 where
  pub at_is : at ≡ needs_of cs a k i
  pub size : length buffer ≡ needs_of cs a k n
  pub written : length v ≡ gifts_of cs a k i
  pub own_are : AreOwn cs a (own_left cs a k i v ts) own
  pub left : drop at buffer ≡ there_on cs a k n ts i
  pub read : take at buffer ≡ reads_of cs a k i ts v
  pub values : v ≡ made_value w a k i (take at buffer)

module _ (w : Program) (plan : Plan) (a k n : ℕ) (ts : List (List ℤ)) (same : plan ≡ w.plan)
    (finds : (i : ℕ) → i < n → AllByRecursion (FindsIn plan.channels ts a k i) (inputs_at plan.channels a)) where
  abbrev cs : List Channel
  cs = plan.channels

  abbrev ins : List ℕ
  ins = inputs_at cs a

  pub on_first : (own : List (List ℤ)) (buffer v : List ℤ) → length buffer ≡ needs_of cs a k n → buffer ≡ there_of cs a k n ts → v ≡ []
      → AreOwn cs a (tokens_at ts) own → IsOn w cs a k n 0 0 ts own buffer v
  on_first own buffer v long there none own_are =
      subst (IsOn w cs a k n 0 0 ts own buffer) (sym none) (record {
        at_is = refl;
        size = long;
        written = refl;
        own_are = own_first cs a k ts own own_are;
        left = there ∙ there_first cs a k n ts finds;
        read = refl;
        values = refl;
      })

  -- the next one has what it takes of own channels
  pub on_enough : (i at : ℕ) (own : List (List ℤ)) (buffer v : List ℤ) → i < n → IsOn w cs a k n i at ts own buffer v → OwnEnough cs a (take_at cs (k + i)) own
  on_enough i at own buffer v lt h = own_enough cs a k n ts finds i lt v h.written own h.own_are

  pub on_more : (i at m : ℕ) (own own2 : List (List ℤ)) (buffer v chunk new x v2 : List ℤ) → i < n → IsOn w cs a k n i at ts own buffer v → m ≡ need a (k + i) cs
      → ((tokens : ℕ → List ℤ) → AreOwn cs a tokens own → chunk ≡ own_laid cs a (take_at cs (k + i)) ins tokens (take (at + m - at) (drop at buffer)))
      → x ≡ value w a (k + i) chunk → length x ≡ gift a (k + i) cs → v2 ≡ v ++ x
      → ((tokens : ℕ → List ℤ) → AreOwn cs a tokens own → AreOwn cs a (own_passed cs a (k + i) x tokens) own2)
      → take (at + m) new ≡ take at buffer ++ chunk → drop (at + m) new ≡ drop (at + m) buffer → length new ≡ length buffer
      → IsOn w cs a k n (i + 1) (at + m) ts own2 new v2
  on_more i at m own own2 buffer v chunk new x v2 lt h is laid told one grown passed front back long =
      let within : at + m ≤ length buffer = omega (arith, needs_within cs a k n i lt, h.at_is, is, h.size) in
      let part : take (at + m - at) (drop at buffer) ≡ take (need a (k + i) cs) (there_on cs a k n ts i) =
      ap₂ (λ (j : ℕ) (u : List ℤ). take j u) (let e : at + m - at ≡ need a (k + i) cs = omega (arith, is) in e) h.left in
      let read_is : chunk ≡ _ =
      laid (own_left cs a k i v ts) h.own_are ∙ ap (own_laid cs a (take_at cs (k + i)) ins (own_left cs a k i v ts)) part ∙ laid_there cs a k n ts finds i lt v in
      let front_long = length-take-le at buffer (omega (arith, within)) in
      let new_long = length-take-le (at + m) new (omega (arith, within, long)) in
      let chunk_long : length chunk ≡ need a (k + i) cs =
      (let a1 = ap length front in let a2 = length-append (take at buffer) chunk in omega (arith, front_long, new_long, a1, a2, is)) in
      let same_need : need a (k + i) cs ≡ need a (k + i) w.plan.channels = ap (λ (u : Plan). need a (k + i) u.channels) same in
      let same_needs : needs_of cs a k i ≡ needs_of w.plan.channels a k i = ap (λ (u : Plan). needs_of u.channels a k i) same in
      let more : IsOn w cs a k n (suc i) (at + m) ts own2 new (v ++ x) = record {
        at_is = omega (arith, h.at_is, is, needs_more cs a k i);
        size = long ∙ h.size;
        written = omega (arith, length-append v x, h.written, one, gifts_more cs a k i);
        own_are = own_more cs a k n ts finds i lt v x h.written one own2 (passed (own_left cs a k i v ts) h.own_are);
        left = back ∙ drop_sum at m buffer ∙ ap₂ (λ (j : ℕ) (u : List ℤ). drop j u) is h.left ∙ there_rest cs a k n ts finds i lt;
        read = front ∙ ap₂ (λ (u z : List ℤ). u ++ z) h.read read_is ∙ sym (read_more cs a k n ts finds i lt v x h.written one);
        values = ap₂ (λ (u z : List ℤ). u ++ z) h.values told
            ∙ sym (made_more w a k i (take at buffer) chunk (front_long ∙ h.at_is ∙ same_needs) (chunk_long ∙ same_need))
            ∙ ap (made_value w a k (suc i)) (sym front);
      } in
      subst (λ (j : ℕ). IsOn w cs a k n j (at + m) ts own2 new v2) (let e : suc i ≡ i + 1 = omega arith in e)
      (subst (IsOn w cs a k n (suc i) (at + m) ts own2 new) (sym grown) more)

  -- all are told
  pub on_read : (i at : ℕ) (own : List (List ℤ)) (buffer v : List ℤ) → i ≡ n → IsOn w cs a k n i at ts own buffer v → buffer ≡ reads_of cs a k n ts v
  on_read i at own buffer v all h =
      let whole = ap (needs_of cs a k) all in
      sym (take_all at buffer (omega (arith, h.size, h.at_is, whole))) ∙ h.read ∙ ap (λ (j : ℕ). reads_of cs a k j ts v) all

  pub on_values : (i at : ℕ) (own : List (List ℤ)) (buffer v : List ℤ) → i ≡ n → IsOn w cs a k n i at ts own buffer v → v ≡ made_value w a k n buffer
  on_values i at own buffer v all h =
      let whole = ap (needs_of cs a k) all in
      h.values ∙ ap₂ (λ (j : ℕ) (u : List ℤ). made_value w a k j u) all (take_all at buffer (omega (arith, h.size, h.at_is, whole)))
