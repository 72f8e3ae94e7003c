-- What several firings of an actor give to one of its channels.
use Rattle.std.proofs.Common.{◌≡◌, ◌≢◌, ℕ, zero, suc, ◌+◌, ◌-◌, ◌%◌, ◌<◌, ◌≤◌, cond, Bool, inl, inr, List, [], ◌∷◌, ◌++◌, length, take, drop, set}
use Rattle.std.proofs.Common.{refl, ap, ap₂, ◌∙◌, sym, arith, append_assoc}
use Rattle.std.proofs.Math.Nat.{mod-one}
use Rattle.std.specs.Prelude.{ℤ, sum_by}
use Rattle.std.specs.List.{AllByRecursion}
use Rattle.std.proofs.lemmas.Bool.Decides.{eqb_tells}
use Rattle.std.proofs.lemmas.List.{take_all, take-take, drop-take, take-append-drop, length-append, length-drop, length-take-le}
use Rattle.std.proofs.lemmas.List.Sums.{sum_by-cons}
use Rattle.csdf_model.specs.Rates.{rate}
use Rattle.csdf_core.specs.Blocks.{gifts_of, gives_at, takes_at, HasNoLoop, GivesBack}
use Rattle.csdf_core.specs.Engine.{gives_to}
use Rattle.csdf_core.specs.Feedback.{before_of}
use Rattle.csdf_core.specs.Passing.{IsShare, takes_back, passed}
use Rattle.csdf_core.specs.Phases.{HasPhases, IsInPhase, IsPhase}
use Rattle.csdf_core.specs.Plan.{Channel, from_at, to_at, consume_at, produce_at, gives_of}
use Rattle.csdf_core.specs.Ports.{outputs_at, take_at, give_at, own_take_at, tokens_at}
use Rattle.csdf_core.specs.Rows.{gift, shares}
use Rattle.csdf_core.proofs.BlockPorts.{both}
use Rattle.csdf_core.proofs.BlockTokens.{drop_sum}
use Rattle.csdf_core.proofs.Cycles.{gifts_sums, gives_sums, sums_add, sums_none}
use Rattle.csdf_core.proofs.FeedbackTokens.{before_given}
use Rattle.csdf_core.proofs.Finds.{gave, took}
use Rattle.csdf_core.proofs.Lanes.{own_give_at, own_give, own_give_none, given_before, part_within, share_at}
use Rattle.csdf_core.proofs.OnePhase.{rate_one, same_gift, same_gives, same_takes}
use Rattle.csdf_core.proofs.OwnChannels.{outs_there, outs_own}
use Rattle.csdf_core.proofs.Passing.{few_more, put_more, drop_past}
use Rattle.csdf_core.proofs.PhaseLemmas.{of_own}
use Rattle.csdf_core.proofs.PortLemmas.{gift_is, own_take, own_take_none}

-- ---- one firing's share
module _ (cs : List Channel) (a c : ℕ) (lt : c < length cs) where
  pub length-share : (k : ℕ) (v : List ℤ) → gift a k cs ≤ length v → length (tokens_at (shares a k cs v) c) ≡ own_give_at cs a k c
  length-share k v enough =
      let part = part_within (gives_of a k) cs c lt in
      let behind = length-drop (given_before cs a k c) v in
      ap length (share_at a k cs v c lt) ∙ length-take-le (own_give_at cs a k c) (drop (given_before cs a k c) v) (omega (arith, part, behind, enough))

  -- how many all of them give
  pub length-gives : (k n : ℕ) (v : List ℤ) → length v ≡ gifts_of cs a k n → length (gives_to cs a c k n v) ≡ gave cs a k n c
  length-gives k zero v len = refl
  length-gives k (suc n) v len =
      let g : ℕ = gift a k cs in
      let first : length (take g v) ≡ g = length-take-le g v (omega (arith, len)) in
      let share = length-share k (take g v) (omega (arith, first)) in
      let behind = length-drop g v in
      let rest = length-gives (suc k) n (drop g v) (omega (arith, behind, len)) in
      let both_of = length-append (tokens_at (shares a k cs (take g v)) c) (gives_to cs a c (suc k) n (drop g v)) in
      omega (arith, share, rest, both_of)

  -- a channel of another actor gets nothing
  pub none_given : from_at cs c ≢ a → (k n : ℕ) (v : List ℤ) → gives_to cs a c k n v ≡ []
  none_given other k zero v = refl
  none_given other k (suc n) v =
      ap₂ (λ (x y : List ℤ). x ++ y)
      (share_at a k cs (take (gift a k cs) v) c lt
      ∙ ap (λ (m : ℕ). take m (drop (given_before cs a k c) (take (gift a k cs) v))) (own_give_none a k cs c other))
      (none_given other (suc k) n (drop (gift a k cs) v))

  pub gives_gave : from_at cs c ≡ a → (k n : ℕ) → gives_at cs k n c ≡ gave cs a k n c
  gives_gave from k zero = refl
  gives_gave from k (suc n) = omega (arith, own_give a k cs c from lt, gives_gave from (suc k) n)

-- ---- what they take of it
module _ (cs : List Channel) (a c : ℕ) where
  pub takes_took : c < length cs → to_at cs c ≡ a → (k n : ℕ) → takes_at cs k n c ≡ took cs a k n c
  takes_took lt to k zero = refl
  takes_took lt to k (suc n) = omega (arith, own_take a k cs c to lt, takes_took lt to (suc k) n)

  pub took_none : to_at cs c ≢ a → (k n : ℕ) → took cs a k n c ≡ 0
  took_none other k n = sums_none (λ j. own_take_at cs a j c) (λ j. sym (own_take_none a j cs c other)) k n

  pub back_took : c < length cs → (k n : ℕ) → takes_back cs a k n c ≡ took cs a k n c
  back_took lt k n = elim (eqb_tells (to_at cs c) a) [
    | inl to ↦ ap (λ (x : Bool). cond x (takes_at cs k n c) 0) to.0 ∙ takes_took lt to.1 k n
    | inr to ↦ ap (λ (x : Bool). cond x (takes_at cs k n c) 0) to.0 ∙ sym (took_none to.1 k n)
  ]

  -- where each of them gives back what it takes, so do all
  pub took_gave : GivesBack cs a → c < length cs → from_at cs c ≡ a → (k n : ℕ) → took cs a k n c ≤ gave cs a k n c
  took_gave back lt from k zero = omega arith
  took_gave back lt from k (suc n) =
      let here = of_own (λ d. own_take_at cs a k d ≤ give_at cs k d) (λ (x : Channel). x.from) a cs (back k) c lt from in
      omega (arith, here, own_give a k cs c from lt, took_gave back lt from (suc k) n)

  pub back_gives : GivesBack cs a → c < length cs → from_at cs c ≡ a → (k n : ℕ) → takes_back cs a k n c ≤ gives_at cs k n c
  back_gives back lt from k n = omega (arith, back_took lt k n, gives_gave cs a c lt from k n, took_gave back lt from k n)

  -- what they leave there is so long
  pub length-passed : GivesBack cs a → c < length cs → from_at cs c ≡ a → (k n : ℕ) (v t : List ℤ) → length v ≡ gifts_of cs a k n
      → length (passed cs a k n v c t) + takes_back cs a k n c ≡ length t + gives_at cs k n c
  length-passed back lt from k n v t len =
      let d = length-drop (takes_back cs a k n c) (t ++ gives_to cs a c k n v) in
      let l = length-append t (gives_to cs a c k n v) in
      let g = length-gives cs a c lt k n v len in
      omega (arith, d, l, g, gives_gave cs a c lt from k n, back_gives back lt from k n)

-- ---- the first firings and the later ones
-- what m of them give is told by what they write
gives_front : (cs : List Channel) (a c k m : ℕ) (v : List ℤ) → gives_to cs a c k m v ≡ gives_to cs a c k m (take (gifts_of cs a k m) v)
gives_front cs a c k zero v = refl
gives_front cs a c k (suc m) v =
    let g : ℕ = gift a k cs in
    let rest : ℕ = gifts_of cs a (suc k) m in
    ap₂ (λ (x y : List ℤ). tokens_at (shares a k cs x) c ++ y)
    (sym (take-take g (g + rest) v (omega arith)))
    (gives_front cs a c (suc k) m (drop g v) ∙ ap (gives_to cs a c (suc k) m) (sym (drop-take g rest v)))

pub gives_more : (cs : List Channel) (a c k m n : ℕ) (v : List ℤ)
    → gives_to cs a c k (m + n) v ≡ gives_to cs a c k m v ++ gives_to cs a c (k + m) n (drop (gifts_of cs a k m) v)
gives_more cs a c k zero n v =
    ap₂ (λ (i j : ℕ). gives_to cs a c i j v) (let e : k ≡ k + 0 = omega arith in e) (let e : 0 + n ≡ n = omega arith in e)
gives_more cs a c k (suc m) n v =
    let g : ℕ = gift a k cs in
    let share : List ℤ = tokens_at (shares a k cs (take g v)) c in
    ap (λ (i : ℕ). gives_to cs a c k i v) (let e : suc m + n ≡ suc (m + n) = omega arith in e)
    ∙ ap (λ (u : List ℤ). share ++ u)
    (gives_more cs a c (suc k) m n (drop g v)
    ∙ ap₂ (λ (i : ℕ) (u : List ℤ). gives_to cs a c (suc k) m (drop g v) ++ gives_to cs a c i n u)
    (let e : suc k + m ≡ k + suc m = omega arith in e) (sym (drop_sum g (gifts_of cs a (suc k) m) v)))
    ∙ sym (append_assoc share (gives_to cs a c (suc k) m (drop g v)) (gives_to cs a c (k + suc m) n (drop (gifts_of cs a k (suc m)) v)))

pub gifts_more : (cs : List Channel) (a k m n : ℕ) → gifts_of cs a k (m + n) ≡ gifts_of cs a k m + gifts_of cs a (k + m) n
gifts_more cs a k m n =
    omega (
      arith,
      gifts_sums cs a k m,
      gifts_sums cs a (k + m) n,
      gifts_sums cs a k (m + n),
      sums_add (λ i. gift a i cs) k m n,
    )

pub amounts_more : (cs : List Channel) (c k m n : ℕ) → gives_at cs k (m + n) c ≡ gives_at cs k m c + gives_at cs (k + m) n c
amounts_more cs c k m n =
    omega (
      arith,
      gives_sums cs k m c,
      gives_sums cs (k + m) n c,
      gives_sums cs k (m + n) c,
      sums_add (λ i. give_at cs i c) k m n,
    )

-- the first of them left out
module _ (cs : List Channel) (a c k m n : ℕ) (le : m ≤ n) where
  whole : n ≡ m + (n - m)
  whole = omega (arith, le)

  pub gifts_rest : gifts_of cs a k n ≡ gifts_of cs a k m + gifts_of cs a (k + m) (n - m)
  gifts_rest = ap (gifts_of cs a k) whole ∙ gifts_more cs a k m (n - m)

  pub amounts_rest : gives_at cs k n c ≡ gives_at cs k m c + gives_at cs (k + m) (n - m) c
  amounts_rest = ap (λ (x : ℕ). gives_at cs k x c) whole ∙ amounts_more cs c k m (n - m)

  pub given_rest : (lt : c < length cs) → from_at cs c ≡ a → (few : ℕ) (v : List ℤ) → length v ≡ gifts_of cs a k n → gives_at cs k m c ≤ few
      → drop few (gives_to cs a c k n v) ≡ drop (few - gives_at cs k m c) (gives_to cs a c (k + m) (n - m) (drop (gifts_of cs a k m) v))
  given_rest lt from few v len fits =
      let first : List ℤ = gives_to cs a c k m v in
      let front : first ≡ gives_to cs a c k m (take (gifts_of cs a k m) v) = gives_front cs a c k m v in
      let enough = gifts_rest in
      let size : length first ≡ gives_at cs k m c =
      ap length front
      ∙ length-gives cs a c lt k m (take (gifts_of cs a k m) v) (length-take-le (gifts_of cs a k m) v (omega (arith, len, enough)))
      ∙ sym (gives_gave cs a c lt from k m) in
      ap (drop few)
      (ap (λ (x : ℕ). gives_to cs a c k x v) whole ∙ gives_more cs a c k m (n - m) v)
      ∙ drop_past few (gives_at cs k m c) first (gives_to cs a c (k + m) (n - m) (drop (gifts_of cs a k m) v)) size fits

-- ---- an only output gets all that is written
one_all : (f : ℕ → ℕ) (ns : List ℕ) (all : ℕ) → length ns ≡ 1 → sum_by f ns ≡ all → AllByRecursion (λ c. f c ≡ all) ns
one_all f [] all one e = tt
one_all f (c ∷ []) all one e = (let s = sum_by-cons f c [] in omega (arith, s, e), tt)
one_all f (c ∷ d ∷ ns) all one e = absurd (omega arith)

module _ (cs : List Channel) (a c : ℕ) (one : length (outputs_at cs a) ≡ 1) (lt : c < length cs) (from : from_at cs c ≡ a) where
  all_given : (k : ℕ) → own_give_at cs a k c ≡ gift a k cs
  all_given k =
      sym (own_give a k cs c from lt)
      ∙ of_own (λ d. give_at cs k d ≡ gift a k cs) (λ (x : Channel). x.from) a cs
      (one_all (give_at cs k) (outputs_at cs a) (gift a k cs) one (gift_is a k cs)) c lt from

  pub gives_all : (k n : ℕ) (v : List ℤ) → length v ≡ gifts_of cs a k n → gives_to cs a c k n v ≡ v
  gives_all k zero [] len = refl
  gives_all k zero (x ∷ v) len = absurd (omega arith)
  gives_all k (suc n) v len =
      let g : ℕ = gift a k cs in
      let own : ℕ = own_give_at cs a k c in
      let before : ℕ = given_before cs a k c in
      let all = all_given k in
      let none : before ≡ 0 = (let part = part_within (gives_of a k) cs c lt in omega (arith, part, all)) in
      let first : length (take g v) ≡ g = length-take-le g v (omega (arith, len)) in
      let share : tokens_at (shares a k cs (take g v)) c ≡ take g v =
      share_at a k cs (take g v) c lt
      ∙ ap (λ (m : ℕ). take own (drop m (take g v))) none
      ∙ take_all own (take g v) (omega (arith, all, first)) in
      let behind = length-drop g v in
      ap₂ (λ (x y : List ℤ). x ++ y) share (gives_all (suc k) n (drop g v) (omega (arith, behind, len)))
      ∙ take-append-drop g v

  pub only_gives : (k n : ℕ) (v : List ℤ) → length v ≡ gifts_of cs a k n → gives_at cs k n c ≡ length v
  only_gives k n v len = gives_gave cs a c lt from k n ∙ sym (length-gives cs a c lt k n v len) ∙ ap length (gives_all k n v len)

-- ---- an actor of one phase gives the same at each firing
fewer : (x : Channel) (cs : List Channel) (a : ℕ) → HasPhases (x ∷ cs) a 1 → HasPhases cs a 1
fewer x cs a h = record { takes = λ c lt e. h.takes (suc c) (omega (arith, lt)) e; gives = λ c lt e. h.gives (suc c) (omega (arith, lt)) e }

give_alike : (a j k : ℕ) (x : Channel) (cs : List Channel) → HasPhases (x ∷ cs) a 1 → gives_of a j x ≡ gives_of a k x
give_alike a j k x cs h = elim (eqb_tells x.from a) [
  | inl e ↦
      ap (λ (b : Bool). cond b (rate x.produce j) 0) e.0 ∙ rate_one x.produce j k (h.gives 0 (omega arith) e.1)
      ∙ sym (ap (λ (b : Bool). cond b (rate x.produce k) 0) e.0)
  | inr e ↦ ap (λ (b : Bool). cond b (rate x.produce j) 0) e.0 ∙ sym (ap (λ (b : Bool). cond b (rate x.produce k) 0) e.0)
]

shares_alike : (a j k : ℕ) (cs : List Channel) (v : List ℤ) → HasPhases cs a 1 → shares a j cs v ≡ shares a k cs v
shares_alike a j k [] v h = refl
shares_alike a j k (x ∷ cs) v h =
    ap (λ (n : ℕ). take n v ∷ shares a j cs (drop n v)) (give_alike a j k x cs h)
    ∙ ap (λ (us : List (List ℤ)). take (gives_of a k x) v ∷ us) (shares_alike a j k cs (drop (gives_of a k x) v) (fewer x cs a h))

gives_alike : (a j k : ℕ) (cs : List Channel) (c : ℕ) → HasPhases cs a 1 → own_give_at cs a j c ≡ own_give_at cs a k c
gives_alike a j k [] c h = refl
gives_alike a j k (x ∷ cs) zero h = give_alike a j k x cs h
gives_alike a j k (x ∷ cs) (suc c) h = gives_alike a j k cs c (fewer x cs a h)

-- each of its firings is in the first phase
pub one_in_phase : (cs : List Channel) (a k : ℕ) → HasPhases cs a 1 → IsInPhase cs a k 0
one_in_phase cs a k has = record {
  takes = λ c lt to. first (consume_at cs c) (has.takes c lt to);
  gives = λ c lt from. first (produce_at cs c) (has.gives c lt from);
}
  where
    first : (rates : List ℕ) → length rates ≡ 1 → IsPhase rates k 0
    first rates one = record { within = omega (arith, one); is = sym (ap (λ l. k % l) one ∙ mod-one k) }

-- so the share of one firing is that of another
pub share_stays : (cs : List Channel) (a c j k all from own : ℕ) → HasPhases cs a 1 → c < length cs → from_at cs c ≡ a → IsShare cs a c j all from own
    → IsShare cs a c k all from own
share_stays cs a c j k all from own has lt is s = record {
  all_is = s.all_is ∙ same_gift cs a has j k;
  own_is = s.own_is ∙ own_give a j cs c is lt ∙ gives_alike a j k cs c has ∙ sym (own_give a k cs c is lt);
  fits = s.fits;
  share = λ v. s.share v ∙ ap (λ (us : List (List ℤ)). tokens_at us c) (shares_alike a j k cs v has);
}

-- ---- where the share of one firing stands
pub is_share : (cs : List Channel) (a c k all from own : ℕ) → c < length cs → from_at cs c ≡ a → all ≡ gift a k cs
    → from ≡ before_of (give_at cs k) (outputs_at cs a) c → own ≡ give_at cs k c → IsShare cs a c k all from own
is_share cs a c k all from own lt is whole before mine =
    let first : from ≡ given_before cs a k c = before ∙ before_given cs a k c lt is in
    let some : own ≡ own_give_at cs a k c = mine ∙ own_give a k cs c is lt in
    let part = part_within (gives_of a k) cs c lt in
    record {
      all_is = whole;
      own_is = mine;
      fits = omega (arith, first, some, part, whole);
      share = λ v. ap₂ (λ (x y : ℕ). take x (drop y v)) some first ∙ sym (share_at a k cs v c lt);
    }

-- ---- one firing's share more is put
module _ (cs : List Channel) (a c k j n i at all from own : ℕ) (v : List ℤ) (lt : i < n) (s : IsShare cs a c k all from own) (next : j ≡ k + 1) where
  one_left : n - i ≡ suc (n - (i + 1))
  one_left = omega (arith, lt)

  after_it : suc k ≡ j
  after_it = omega (arith, next)

  pub gifts_left : gifts_of cs a k (n - i) ≡ all + gifts_of cs a j (n - (i + 1))
  gifts_left =
      ap (gifts_of cs a k) one_left
      ∙ ap₂ (λ (x y : ℕ). x + gifts_of cs a y (n - (i + 1))) (sym s.all_is) after_it

  pub amounts_left : gives_at cs k (n - i) c ≡ own + gives_at cs j (n - (i + 1)) c
  amounts_left =
      ap (λ (x : ℕ). gives_at cs k x c) one_left
      ∙ ap₂ (λ (x y : ℕ). x + gives_at cs y (n - (i + 1)) c) (sym s.own_is) after_it

  given_left : gives_to cs a c k (n - i) (drop at v)
      ≡ take own (drop from (take all (drop at v))) ++ gives_to cs a c j (n - (i + 1)) (drop (at + all) v)
  given_left =
      ap (λ (x : ℕ). gives_to cs a c k x (drop at v)) one_left
      ∙ ap (λ (x : ℕ). tokens_at (shares a k cs (take x (drop at v))) c ++ gives_to cs a c (suc k) (n - (i + 1)) (drop x (drop at v))) (sym s.all_is)
      ∙ ap₂ (λ (x y : List ℤ). x ++ y) (sym (s.share (take all (drop at v))))
      (ap₂ (λ (x : ℕ) (u : List ℤ). gives_to cs a c x (n - (i + 1)) u) after_it (sym (drop_sum at all v)))

  pub put_step : (few none : ℕ) (ts new : List (List ℤ)) → c < length ts → at + gifts_of cs a k (n - i) ≡ length v
      → none ≤ few → none ≤ own → (none < few → own ≤ none)
      → new ≡ set ts c (tokens_at ts c ++ drop none (take own (drop from (take (at + all - at) (drop at v)))))
      → set new c (tokens_at new c ++ drop (few - none) (gives_to cs a c j (n - (i + 1)) (drop (at + all) v)))
      ≡ set ts c (tokens_at ts c ++ drop few (gives_to cs a c k (n - i) (drop at v)))
  put_step few none ts new within long le fits whole put =
      let share : List ℤ = take own (drop from (take all (drop at v))) in
      let later : List ℤ = gives_to cs a c j (n - (i + 1)) (drop (at + all) v) in
      let some = gifts_left in
      let behind = length-drop at v in
      let written : length (take all (drop at v)) ≡ all = length-take-le all (drop at v) (omega (arith, behind, long, some)) in
      let others = length-drop from (take all (drop at v)) in
      let room = s.fits in
      let size : length share ≡ own = length-take-le own (drop from (take all (drop at v))) (omega (arith, written, others, room)) in
      put_more c ts new (drop none share) (drop (few - none) later) within
      (put ∙ ap (λ (x : ℕ). set ts c (tokens_at ts c ++ drop none (take own (drop from (take x (drop at v))))))
      (let e : at + all - at ≡ all = omega arith in e))
      ∙ ap (λ (u : List ℤ). set ts c (tokens_at ts c ++ u)) (sym (few_more few none own share later size le fits whole) ∙ ap (drop few) (sym given_left))

-- ---- an actor that gives back what it takes: one with no channel to itself, and one of one phase, where the first firing does
pub apart_gives : (cs : List Channel) (a : ℕ) → HasNoLoop cs a → GivesBack cs a
apart_gives cs a apart k =
    both (outputs_at cs a)
    (λ c (lt : c < length cs) (from : from_at cs c ≡ a).
    (let none = own_take_none a k cs c (λ to. of_own (λ d. from_at cs d ≢ a) (λ (x : Channel). x.to) a cs apart c lt to from) in
    let r : own_take_at cs a k c ≤ give_at cs k c = omega (arith, none) in r))
    (outs_there cs a) (outs_own cs a)

pub one_gives : (cs : List Channel) (a : ℕ) → HasPhases cs a 1
    → ((c : ℕ) → c < length cs → from_at cs c ≡ a → to_at cs c ≡ a → take_at cs 0 c ≡ give_at cs 0 c) → GivesBack cs a
one_gives cs a has even k =
    both (outputs_at cs a)
    (λ c (lt : c < length cs) (from : from_at cs c ≡ a).
    (let r : own_take_at cs a k c ≤ give_at cs k c = elim (eqb_tells (to_at cs c) a) [
      | inl to ↦
          (let mine = own_take a k cs c to.1 lt in
          let takes = of_own (λ d. take_at cs k d ≡ take_at cs 0 d) (λ (x : Channel). x.to) a cs (same_takes cs a has k 0) c lt to.1 in
          let gives = of_own (λ d. give_at cs k d ≡ give_at cs 0 d) (λ (x : Channel). x.from) a cs (same_gives cs a has k 0) c lt from in
          let same = even c lt from to.1 in
          omega (arith, mine, takes, gives, same))
      | inr to ↦ (let none = own_take_none a k cs c to.1 in omega (arith, none))
    ] in r))
    (outs_there cs a) (outs_own cs a)
