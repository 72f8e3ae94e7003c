-- What accepted firings of an actor read, and what that they are accepted says of its limit and of its inputs.
use Rattle.std.proofs.Common.{◌≡◌, ◌≢◌, ℕ, zero, suc, ◌+◌, ◌<◌, ◌≤◌, List, ◌∷◌, ◌++◌, length, get_or, take, drop, refl, ap, ap₂, subst, ◌∙◌, sym, arith, ◌&&◌, nat_lt, Bool, true, false, None}
use Rattle.std.proofs.lemmas.Bool.Decides.{nat_tests}
use Rattle.std.proofs.Common.{append_assoc}
use Rattle.std.specs.Prelude.{ℤ}
use Rattle.std.specs.List.{AllByRecursion}
use Rattle.std.proofs.Math.Seq.{take-append_seam, drop-append_seam}
use Rattle.std.proofs.lemmas.List.{take_all, take-append-le, drop-append-le, length-take-le, length-drop}
use Rattle.csdf_core.specs.Blocks.{gifts_of, takes_at, firings_of, AreAccepted, answers_to, handed_by, reads_among, parts_of, fronts, reads_over, HoldAll, HasNoLoop}
use Rattle.csdf_core.specs.Engine.{FindsIn, gives_to, reads_of, filled, there_of}
use Rattle.csdf_core.specs.Plan.{Plan, Channel, from_at, to_at}
use Rattle.csdf_core.specs.Ports.{inputs_at, take_at, own_take_at, tokens_at}
use Rattle.csdf_core.specs.Rows.{need, gift, left, shares}
use Rattle.csdf_core.specs.Moves.{Begin}
use Rattle.csdf_core.specs.Step.{count, is_source, given, refusal}
use Rattle.csdf_core.proofs.BlockMachines.{Machine, IsGood}
use Rattle.csdf_core.proofs.BlockPorts.{both, each}
use Rattle.csdf_core.proofs.BlockTokens.{left_at, length-left, taken_fronts, fronts_same, reads_alike, reads_same, length-fronts}
use Rattle.csdf_core.proofs.FilledUp.{filled_enough}
use Rattle.csdf_core.proofs.Cycles.{sums_none}
use Rattle.csdf_core.proofs.Finds.{gave, took, fired_length}
use Rattle.csdf_core.proofs.FiringMoves.{IsFired, fired1, fired4, is_fired}
use Rattle.csdf_core.proofs.Lanes.{own_give_at, own_give_none, shares_at, there_at}
use Rattle.csdf_core.proofs.Kept.{begins, reads}
use Rattle.csdf_core.proofs.OwnChannels.{ins_there, ins_own}
use Rattle.csdf_core.proofs.PortLemmas.{need_is, own_take}
use Rattle.csdf_core.proofs.Ready.{are_there}
use Rattle.csdf_core.proofs.Shares.{gives_gave, takes_took}

-- a source that is not dry has the tokens of one firing more, and so of the last one of n
fed_one : (b : Bool) (x y : ℕ) → (b && nat_lt x y) ≡ false → b ≡ true → y ≤ x
fed_one true x y e src = grind (arith, nat_tests)
fed_one false x y e src = absurd (cc)

fed_more : (plan : Plan) (a k n : ℕ) → given plan a (suc k) ≤ get_or plan.supplies a 0
    → (0 < n → given plan a (suc k + n) ≤ get_or plan.supplies a 0) → given plan a (k + suc n) ≤ get_or plan.supplies a 0
fed_more plan a k zero one more = subst (λ (x : ℕ). given plan a x ≤ get_or plan.supplies a 0) (let e : suc k ≡ k + 1 = omega arith in e) one
fed_more plan a k (suc n) one more =
    subst (λ (x : ℕ). given plan a x ≤ get_or plan.supplies a 0) (let e : suc k + suc n ≡ k + suc (suc n) = omega arith in e) (more (omega arith))

-- what is known of n accepted firings
pub record IsKnown (plan : Plan) (a k n : ℕ) (v : List ℤ) (m : Machine) : Type 0 where
  pub limit : k + n ≤ get_or plan.limits a 0
  pub supply : 0 < n → is_source plan a ≡ true → given plan a (k + n) ≤ get_or plan.supplies a 0
  pub first : 0 < n → AllByRecursion (λ c. take_at plan.channels k c ≤ length (tokens_at m.now.tokens c)) (inputs_at plan.channels a)
  pub others : (c : ℕ) → c < length plan.channels → from_at plan.channels c ≢ a → took plan.channels a k n c ≤ length (tokens_at m.now.tokens c)
  pub finds : (i c : ℕ) → i < n → c < length plan.channels → took plan.channels a k (suc i) c ≤ length (tokens_at m.now.tokens c) + gave plan.channels a k i c
  pub handed : handed_by (answers_to plan m.now (firings_of plan.channels a k n v)) ≡ reads_of plan.channels a k n m.now.tokens v
  pub reads : reads_among plan m.now (firings_of plan.channels a k n v) ≡ parts_of plan.channels a k n (reads_of plan.channels a k n m.now.tokens v)

-- the first firing finds what it takes, and so do the later ones
found_one : (cs : List Channel) (a k n i c size : ℕ) → own_take_at cs a k c ≤ size
    → ((j : ℕ) → j < n → took cs a k (suc (suc j)) c ≤ size + gave cs a k (suc j) c) → i < suc n → took cs a k (suc i) c ≤ size + gave cs a k i c
found_one cs a k n zero c size first later less = omega (arith, first)
found_one cs a k n (suc i) c size first later less = later i (omega (arith, less))

module _ (plan : Plan) (a : ℕ) (few : (k : ℕ) → gift a k plan.channels ≤ 8192) where
  abbrev cs : List Channel
  cs = plan.channels

  abbrev ins : List ℕ
  ins = inputs_at cs a

  known_step : (n : ℕ) (v : List ℤ) (m : Machine) → IsGood plan m → refusal plan m.now (Begin a) ≡ None → (s : IsFired plan a m (take (gift a (count m.now a) cs) v))
      → length (take (gift a (count m.now a) cs) v) ≡ gift a (count m.now a) cs
      → IsKnown plan a (suc (count m.now a)) n (drop (gift a (count m.now a) cs) v) (fired4 plan a m (take (gift a (count m.now a) cs) v))
      → IsKnown plan a (count m.now a) (suc n) v m
  known_step n v m good acc s len1 b =
      let k : ℕ = count m.now a in
      let g : ℕ = gift a k cs in
      let r : ℕ = need a k cs in
      let v1 : List ℤ = take g v in
      let w : List ℤ = drop g v in
      let ts : List (List ℤ) = m.now.tokens in
      let us : List (List ℤ) = (fired4 plan a m v1).now.tokens in
      let queued : length ts ≡ length cs = good.sound.fit.queued in
      let has : (c : ℕ) → c < length cs → own_take_at cs a k c ≤ length (tokens_at ts c) = λ c lt.
      there_at a k cs ts c queued lt
      (are_there (fired1 plan a m v1).now a cs ts (reads plan (fired1 plan a m v1).now a s.none2).at s.good1.sound.fit.ready) in
      let f : ℕ → List ℤ = λ (c : ℕ). tokens_at ts c ++ gives_to cs a c k (suc n) v in
      let first : List ℤ = fronts (take_at cs k) ins f in
      let rest : List ℤ = reads_over cs ins (suc k) n (λ c. drop (take_at cs k c) (f c)) in
      let enough : AllByRecursion (λ c. take_at cs k c ≤ length (tokens_at ts c)) ins =
      both ins
      (λ c (lt : c < length cs) (to : to_at cs c ≡ a).
      (let h = has c lt in let e = own_take a k cs c to lt in let z : take_at cs k c ≤ length (tokens_at ts c) = omega (arith, h, e) in z))
      (ins_there cs a) (ins_own cs a) in
      let alike : fronts (take_at cs k) ins (tokens_at ts) ≡ first =
      fronts_same (take_at cs k) ins (tokens_at ts) f
      (each ins
      (λ c (le : take_at cs k c ≤ length (tokens_at ts c)). sym (take-append-le (take_at cs k c) (tokens_at ts c) (gives_to cs a c k (suc n) v) le)) enough) in
      let size : length first ≡ r = ap length (sym alike) ∙ length-fronts (take_at cs k) ins (tokens_at ts) enough ∙ need_is a k cs in
      let later : reads_of cs a (suc k) n us w ≡ rest =
      reads_same cs ins (suc k) n (λ c. tokens_at us c ++ gives_to cs a c (suc k) n w) (λ c. drop (take_at cs k c) (f c))
      (both ins
      (λ c (lt : c < length cs) (to : to_at cs c ≡ a).
      (let e = own_take a k cs c to lt in
      let h = has c lt in
      let le : take_at cs k c ≤ length (tokens_at ts c) = omega (arith, h, e) in
      let share : List ℤ = tokens_at (shares a k cs v1) c in
      let here : tokens_at us c ≡ drop (take_at cs k c) (tokens_at ts c) ++ share =
      shares_at a k cs (left a k cs ts) v1 c (length-left a k cs ts queued) lt
      ∙ ap (λ (x : List ℤ). x ++ share) (left_at a k cs ts c queued lt ∙ ap (λ (x : ℕ). drop x (tokens_at ts c)) (sym e)) in
      let z : tokens_at us c ++ gives_to cs a c (suc k) n w ≡ drop (take_at cs k c) (tokens_at ts c ++ (share ++ gives_to cs a c (suc k) n w)) =
      ap (λ (x : List ℤ). x ++ gives_to cs a c (suc k) n w) here
      ∙ append_assoc (drop (take_at cs k c) (tokens_at ts c)) share (gives_to cs a c (suc k) n w)
      ∙ sym (drop-append-le (take_at cs k c) (tokens_at ts c) (share ++ gives_to cs a c (suc k) n w) le) in
      z))
      (ins_there cs a) (ins_own cs a)) in
      let answered = taken_fronts cs a k ts queued ∙ alike in
      record {
        limit = (let l = b.limit in omega (arith, l));
        supply = λ some src.
            fed_more plan a k n (fed_one (is_source plan a) _ _ (begins plan m.now a acc).not_dry src) (λ more. b.supply more src);
        first = λ some. enough;
        others = λ c lt other.
            (let l = fired_length a k cs ts v1 c queued lt len1 (has c lt) in
            let none = own_give_none a k cs c other in
            let o = b.others c lt other in
            omega (arith, l, none, o));
        finds = λ i c less lt. found_one cs a k n i c (length (tokens_at ts c)) (has c lt) (λ j below.
            (let l = fired_length a k cs ts v1 c queued lt len1 (has c lt) in
            let f = b.finds j c below lt in
            let z : took cs a k (suc (suc j)) c ≤ length (tokens_at ts c) + gave cs a k (suc j) c = omega (arith, l, f) in z)) less;
        handed = ap₂ (λ (x y : List ℤ). x ++ y) answered (b.handed ∙ later);
        reads =
            let front : take r (first ++ rest) ≡ first = ap (λ (x : ℕ). take x (first ++ rest)) (sym size) ∙ take-append_seam first rest in
            let back : drop r (first ++ rest) ≡ rest = ap (λ (x : ℕ). drop x (first ++ rest)) (sym size) ∙ drop-append_seam first rest in
            ap₂ (λ (x : List ℤ) (xs : List (List ℤ)). x ∷ xs) (answered ∙ sym front) (b.reads ∙ ap (parts_of cs a (suc k) n) (later ∙ sym back));
      }

  pub known : (n : ℕ) (v : List ℤ) (m : Machine) → IsGood plan m → AreAccepted plan m.now (firings_of cs a (count m.now a) n v)
      → length v ≡ gifts_of cs a (count m.now a) n → IsKnown plan a (count m.now a) n v m
  known zero v m good acc len = record {
    limit = (let w = good.sound.within a in omega (arith, w));
    supply = λ some. absurd (omega (arith, some));
    first = λ some. absurd (omega (arith, some));
    others = λ c lt other. (let z : 0 ≤ length (tokens_at m.now.tokens c) = omega arith in z);
    finds = λ i c less lt. absurd (omega (arith, less));
    handed = refl;
    reads = refl;
  }
  known (suc n) v m good acc len =
      let g : ℕ = gift a (count m.now a) cs in
      let len1 : length (take g v) ≡ g = length-take-le g v (omega (arith, len)) in
      let first = begins plan m.now a acc.0 in
      let s : IsFired plan a m (take g v) = is_fired plan a m (take g v) good first.there first.idle acc.0 len1 (few (count m.now a)) in
      let n4 : Machine = fired4 plan a m (take g v) in
      let lenw : length (drop g v) ≡ gifts_of cs a (count n4.now a) n = (let d = length-drop g v in let e = ap (λ (x : ℕ). gifts_of cs a x n) s.number in
      omega (arith, d, len, e)) in
      known_step n v m good acc.0 s len1 (subst (λ (x : ℕ). IsKnown plan a x n (drop g v) n4) s.number
      (known n (drop g v) n4 s.good4 (subst (λ (x : ℕ). AreAccepted plan n4.now (firings_of cs a x n (drop g v))) (sym s.number) acc.1.1.1.1) lenw))

  -- without a channel to itself its inputs hold all
  pub hold_apart : (n : ℕ) (v : List ℤ) (m : Machine) → IsKnown plan a (count m.now a) n v m → HasNoLoop cs a
      → HoldAll m.now.tokens (takes_at cs (count m.now a) n) ins
  hold_apart n v m b apart =
      both ins
      (λ c (x : (c < length cs) × (to_at cs c ≡ a)) (other : from_at cs c ≢ a).
      (let o = b.others c x.0 other in let t = takes_took cs a c x.0 x.1 (count m.now a) n in
      let z : takes_at cs (count m.now a) n c ≤ length (tokens_at m.now.tokens c) = omega (arith, o, t) in z))
      (both ins (λ c (lt : c < length cs) (to : to_at cs c ≡ a). (lt, to)) (ins_there cs a) (ins_own cs a)) apart

  -- where they hold all, what is written does not matter
  pub reads_held : (k n : ℕ) (ts : List (List ℤ)) (v : List ℤ) → HoldAll ts (takes_at cs k n) ins
      → reads_over cs ins k n (tokens_at ts) ≡ reads_of cs a k n ts v
  reads_held k n ts v all =
      reads_alike cs ins k n (tokens_at ts) (λ c. tokens_at ts c ++ gives_to cs a c k n v)
      (each ins
      (λ c (le : takes_at cs k n c ≤ length (tokens_at ts c)). sym (take-append-le (takes_at cs k n c) (tokens_at ts c) (gives_to cs a c k n v) le)) all)

-- each input holds what each firing finds there
pub find_ins : (plan : Plan) (a k n : ℕ) (v : List ℤ) (m : Machine) → IsKnown plan a k n v m → (i : ℕ) → i < n
    → AllByRecursion (FindsIn plan.channels m.now.tokens a k i) (inputs_at plan.channels a)
find_ins plan a k n v m b i less =
    both (inputs_at plan.channels a)
    (λ c (lt : c < length plan.channels) (to : to_at plan.channels c ≡ a).
    (let f = b.finds i c less lt in
    let t = takes_took plan.channels a c lt to k (suc i) in
    let found : FindsIn plan.channels m.now.tokens a k i c = record {
      others = λ other. (let g = gave_none plan.channels a c other k i in omega (arith, f, t, g));
      own = λ from. (let g = gives_gave plan.channels a c lt from k i in omega (arith, f, t, g));
    } in
    found))
    (ins_there plan.channels a) (ins_own plan.channels a)
  where
    gave_none : (cs : List Channel) (a c : ℕ) → from_at cs c ≢ a → (k n : ℕ) → gave cs a k n c ≡ 0
    gave_none cs a c other k n = sums_none (λ j. own_give_at cs a j c) (λ j. own_give_none a j cs c other) k n

-- what is there, where the inputs hold all
pub there_held : (ds : List Channel) (b k n : ℕ) (ts : List (List ℤ)) → HoldAll ts (takes_at ds k n) (inputs_at ds b)
    → reads_over ds (inputs_at ds b) k n (tokens_at ts) ≡ there_of ds b k n ts
there_held ds b k n ts all =
    reads_alike ds (inputs_at ds b) k n (tokens_at ts) (λ c. filled (takes_at ds k n c) (tokens_at ts c))
    (each (inputs_at ds b)
    (λ c (le : takes_at ds k n c ≤ length (tokens_at ts c)).
    sym (ap (take (takes_at ds k n c)) (filled_enough (takes_at ds k n c) (tokens_at ts c) le)
    ∙ take_all (takes_at ds k n c) (take (takes_at ds k n c) (tokens_at ts c))
    (let l = length-take-le (takes_at ds k n c) (tokens_at ts c) le in omega (arith, l)))) all)

-- the first of some firings finds what it takes
pub hold_first : (plan : Plan) (a k n : ℕ) (v : List ℤ) (m : Machine) → IsKnown plan a k n v m → 0 < n
    → HoldAll m.now.tokens (takes_at plan.channels k 1) (inputs_at plan.channels a)
hold_first plan a k n v m b some =
    each (inputs_at plan.channels a)
    (λ c (le : take_at plan.channels k c ≤ length (tokens_at m.now.tokens c)).
    (let z : takes_at plan.channels k 1 c ≤ length (tokens_at m.now.tokens c) = omega (arith, le) in z)) (b.first some)
