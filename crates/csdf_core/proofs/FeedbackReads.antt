-- What firings of an actor that keeps its state in a channel to itself read.
use Rattle.std.proofs.Common.{◌≡◌, ◌≢◌, ℕ, zero, suc, ◌+◌, ◌<◌, ◌≤◌, Bool, true, false, List, [], ◌∷◌, ◌++◌, length, take, drop, refl, ap, ap₂, subst, ◌∙◌}
use Rattle.std.proofs.Common.{sym, arith}
use Rattle.std.proofs.Common.{◌*◌, ◌==◌, cond, Option, Some, None}
use Rattle.std.specs.Prelude.{ℤ, IfSome, sum_by}
use Rattle.std.specs.List.{AllByRecursion}
use Rattle.std.proofs.Math.Seq.{take-append_seam, drop-append_seam}
use Rattle.std.proofs.lemmas.Bool.{ne_eqb}
use Rattle.std.proofs.lemmas.List.{take_all, length-take-le, length-drop}
use Rattle.csdf_core.specs.Blocks.{HoldAll, gifts_of, firings_of, takes_at, fronts, from_front, reads_over, reads_among, parts_of}
use Rattle.csdf_core.specs.declared.feedback.Feedback.{Feedback}
use Rattle.csdf_core.specs.Feedback.{KeepsState, GoesOn, IsFeedback, asks_at, in_order, others_of, before_of, beside, loop_reads}
use Rattle.csdf_core.specs.Plan.{Channel, Plan, from_at, to_at}
use Rattle.csdf_core.specs.Ports.{inputs_at, outputs_at, take_at, give_at, tokens_at}
use Rattle.csdf_core.specs.Rows.{need, gift, left, joined, shares, taken}
use Rattle.csdf_core.specs.Step.{count}
use Rattle.csdf_core.proofs.BlockMachines.{Machine, IsGood}
use Rattle.csdf_core.proofs.Joined.{AreFew}
use Rattle.csdf_core.proofs.BlockPorts.{both}
use Rattle.csdf_core.proofs.BlockReads.{fronts_more}
use Rattle.csdf_core.proofs.BlockTokens.{taken_fronts, reads_same, length-fronts, one_read}
use Rattle.csdf_core.proofs.FeedbackMoves.{m4, four, finds4}
use Rattle.csdf_core.proofs.OnePhase.{same_takes, same_gives, same_gift, takes_times, sum_same}
use Rattle.csdf_core.proofs.OwnChannels.{ins_own, ins_there}
use Rattle.csdf_core.proofs.FeedbackTokens.{asks_other, all_there, state_after, other_after, state_before, ins_all}
use Rattle.csdf_core.proofs.PortLemmas.{need_is}
use Rattle.std.proofs.lemmas.List.Sums.{sum_by-cons}

front_of : (P : ℕ → Type 0) (xs ys : List ℕ) → AllByRecursion P (xs ++ ys) → AllByRecursion P xs
front_of P [] ys all = tt
front_of P (x ∷ xs) ys all = (all.0, front_of P xs ys all.1)

pub of_others : (P : ℕ → Type 0) (is_first : Bool) (own : ℕ) (others : List ℕ) → AllByRecursion P (in_order is_first own others) → AllByRecursion P others
of_others P true own others all = all.1
of_others P false own others all = front_of P others (own ∷ []) all

fronts_beside : (amount : ℕ → ℕ) (is_first : Bool) (own : ℕ) (others : List ℕ) (f : ℕ → List ℤ)
    → fronts amount (in_order is_first own others) f ≡ beside is_first (take (amount own) (f own)) (fronts amount others f)
fronts_beside amount true own others f = refl
fronts_beside amount false own others f = fronts_more amount others own f

module _ (plan : Plan) (a own : ℕ) (keeps : KeepsState plan a own) (is_first : Bool) (others : List ℕ)
    (order : inputs_at plan.channels a ≡ in_order is_first own others) (apart : AllByRecursion (λ c. c ≢ own) others) (each_is before_is given : ℕ) where
  abbrev cs : List Channel
  cs = plan.channels

  abbrev ins : List ℕ
  ins = inputs_at cs a

  -- a fact of each input is one of each other input
  elsewhere : (P : ℕ → Type 0) → AllByRecursion P ins → AllByRecursion P others
  elsewhere P all = of_others P is_first own others (subst (AllByRecursion P) order all)

  away : AllByRecursion (λ c. from_at cs c ≢ a) others
  away = both others (λ c (ne : c ≢ own) (f : c ≢ own → from_at cs c ≢ a). f ne) apart (elsewhere (λ c. c ≢ own → from_at cs c ≢ a) keeps.alone)

  there : AllByRecursion (λ c. (c < length cs) × (to_at cs c ≡ a)) others
  there = elsewhere (λ c. (c < length cs) × (to_at cs c ≡ a)) (ins_all plan a own keeps)

  -- amounts that do not change from one firing to the next
  pub record Fixed (k : ℕ) : Type 0 where
    pub each_same : each_is ≡ sum_by (take_at cs k) others
    pub before_same : before_is ≡ before_of (give_at cs k) (outputs_at cs a) own
    pub gift_same : given ≡ gift a k cs

  pub loop_read : ((k : ℕ) → Fixed k) → (n : ℕ) (v : List ℤ) (m : Machine) → IsGood plan m → GoesOn plan m.now a own (count m.now a) n
      → length v ≡ gifts_of cs a (count m.now a) n → AreFew plan a (count m.now a) n
      → reads_among plan m.now (firings_of cs a (count m.now a) n v)
      ≡ parts_of cs a (count m.now a) n (loop_reads is_first each_is before_is given n (tokens_at m.now.tokens own)
      (reads_over cs others (count m.now a) n (tokens_at m.now.tokens)) v)
  loop_read fixed zero v m good h len few = refl
  loop_read fixed (suc n) v m good h len few =
      let k : ℕ = count m.now a in
      let g : ℕ = gift a k cs in
      let r : ℕ = need a k cs in
      let f : ℕ → List ℤ = tokens_at m.now.tokens in
      let v1 : List ℤ = take g v in
      let w : List ℤ = drop g v in
      let len1 : length v1 ≡ g = length-take-le g v (omega (arith, len)) in
      let lenw : length w ≡ gifts_of cs a (suc k) n = (let d = length-drop g v in omega (arith, d, len)) in
      let few1 : g ≤ 8192 = (let x = few 0 (omega arith) in let e = ap (λ (x : ℕ). gift a x cs) (let z : k + 0 ≡ k = omega arith in z) in
      omega (arith, x, e)) in
      let n4 : Machine = m4 plan a own keeps n m v1 good h len1 few1 in
      let f4 : GoesOn plan n4.now a own (suc k) n = finds4 plan a own keeps n m v1 good h len1 few1 in
      let number : count n4.now a ≡ suc k = f4.number in
      let h4 : GoesOn plan n4.now a own (count n4.now a) n = subst (λ (x : ℕ). GoesOn plan n4.now a own x n) (sym number) f4 in
      let few4 : AreFew plan a (count n4.now a) n = λ i lt. (let x = few (suc i) (omega arith) in
      let e = ap (λ (x : ℕ). gift a x cs) (let z : count n4.now a + i ≡ k + suc i = omega (arith, number) in z) in omega (arith, x, e)) in
      let ih = subst (λ (x : ℕ). reads_among plan n4.now (firings_of cs a x n w)
      ≡ parts_of cs a x n (loop_reads is_first each_is before_is given n (tokens_at n4.now.tokens own)
      (reads_over cs others x n (tokens_at n4.now.tokens)) w)) number
      (loop_read fixed n w n4 (four plan a own keeps n m v1 good h len1 few1).good4 h4 (lenw ∙ ap (λ (x : ℕ). gifts_of cs a x n) (sym number)) few4) in
      step n v m good h len (fixed k) len1 n4.now.tokens
      (reads_among plan n4.now (firings_of cs a (suc k) n w)) refl ih
    where
      step : (n : ℕ) (v : List ℤ) (m : Machine) → IsGood plan m → GoesOn plan m.now a own (count m.now a) (suc n)
          → length v ≡ gifts_of cs a (count m.now a) (suc n) → Fixed (count m.now a)
          → length (take (gift a (count m.now a) cs) v) ≡ gift a (count m.now a) cs
          → (later : List (List ℤ)) (others_read : List (List ℤ))
          → later ≡ joined (left a (count m.now a) cs m.now.tokens) (shares a (count m.now a) cs (take (gift a (count m.now a) cs) v))
          → others_read ≡ parts_of cs a (suc (count m.now a)) n (loop_reads is_first each_is before_is given n (tokens_at later own)
          (reads_over cs others (suc (count m.now a)) n (tokens_at later)) (drop (gift a (count m.now a) cs) v))
          → taken a (count m.now a) cs m.now.tokens ∷ others_read
          ≡ parts_of cs a (count m.now a) (suc n) (loop_reads is_first each_is before_is given (suc n) (tokens_at m.now.tokens own)
          (reads_over cs others (count m.now a) (suc n) (tokens_at m.now.tokens)) v)
      step n v m good h len fixed len1 later others_read later_is ih =
          let k : ℕ = count m.now a in
          let ts : List (List ℤ) = m.now.tokens in
          let g : ℕ = gift a k cs in
          let r : ℕ = need a k cs in
          let f : ℕ → List ℤ = tokens_at ts in
          let t : ℕ → ℕ = take_at cs k in
          let state : List ℤ = tokens_at ts own in
          let enough : AllByRecursion (λ c. t c ≤ length (f c)) ins = all_there plan a own keeps k n ts h.tokens in
          let first : List ℤ = fronts t others f in
          let more : List ℤ = reads_over cs others (suc k) n (λ c. drop (t c) (f c)) in
          let size : length first ≡ each_is = length-fronts t others f (elsewhere (λ c. t c ≤ length (f c)) enough) ∙ sym fixed.each_same in
          let mine : take each_is (first ++ more) ≡ first = ap (λ (x : ℕ). take x (first ++ more)) (sym size) ∙ take-append_seam first more in
          let rest : drop each_is (first ++ more) ≡ more = ap (λ (x : ℕ). drop x (first ++ more)) (sym size) ∙ drop-append_seam first more in
          let chunk : List ℤ = beside is_first state (take each_is (first ++ more)) in
          let tail : List ℤ = loop_reads is_first each_is before_is given n (take (length state) (drop before_is (take given v))) (drop each_is (first ++ more))
          (drop given v) in
          let whole : take (t own) state ≡ state = take_all (t own) state (let s = h.state in omega (arith, s)) in
          let all_read : taken a k cs ts ≡ chunk = taken_fronts cs a k ts good.sound.fit.queued
          ∙ ap (λ (ns : List ℕ). fronts t ns f) order
          ∙ fronts_beside t is_first own others f
          ∙ ap₂ (beside is_first) whole (sym mine) in
          let long : length chunk ≡ r = ap length (sym all_read) ∙ ap length (taken_fronts cs a k ts good.sound.fit.queued)
          ∙ length-fronts t ins f enough ∙ need_is a k cs in
          let front : take r (chunk ++ tail) ≡ chunk = ap (λ (x : ℕ). take x (chunk ++ tail)) (sym long) ∙ take-append_seam chunk tail in
          let back : drop r (chunk ++ tail) ≡ tail = ap (λ (x : ℕ). drop x (chunk ++ tail)) (sym long) ∙ drop-append_seam chunk tail in
          let state_is : tokens_at later own ≡ take (length state) (drop before_is (take given v)) =
          ap (λ (us : List (List ℤ)). tokens_at us own) later_is
          ∙ state_after plan a own keeps k n ts (take g v) good.sound.fit.queued len1 h.state
          ∙ ap₂ (λ (x y : ℕ). take x (drop y (take g v))) (sym h.state) (sym (state_before plan a own keeps k) ∙ sym fixed.before_same)
          ∙ ap (λ (x : ℕ). take (length state) (drop before_is (take x v))) (sym fixed.gift_same) in
          let others_are : reads_over cs others (suc k) n (tokens_at later) ≡ drop each_is (first ++ more) =
          ap (λ (us : List (List ℤ)). reads_over cs others (suc k) n (tokens_at us)) later_is
          ∙ reads_same cs others (suc k) n _ (λ c. drop (t c) (f c))
          (both others (λ c (x : (c < length cs) × (to_at cs c ≡ a)) (ne : from_at cs c ≢ a).
          other_after plan a own keeps k n ts (take g v) good.sound.fit.queued len1 h.state c x.0 x.1 ne) there away)
          ∙ sym rest in
          let tails : loop_reads is_first each_is before_is given n (tokens_at later own) (reads_over cs others (suc k) n (tokens_at later)) (drop g v) ≡ tail =
          ap₂ (λ (x y : List ℤ). loop_reads is_first each_is before_is given n x y (drop g v)) state_is others_are
          ∙ ap (λ (x : ℕ). loop_reads is_first each_is before_is given n (take (length state) (drop before_is (take given v)))
          (drop each_is (first ++ more)) (drop x v))
          (sym fixed.gift_same) in
          ap₂ (λ (x : List ℤ) (xs : List (List ℤ)). x ∷ xs) (all_read ∙ sym front) (ih ∙ ap (parts_of cs a (suc k) n) (tails ∙ sym back))

-- ---- of what is told of the channel to itself

others_apart : (own : ℕ) (other : Option ℕ) → IfSome other (λ c. c ≢ own) → AllByRecursion (λ c. c ≢ own) (others_of other)
others_apart own None ne = tt
others_apart own (Some c) ne = (ne, tt)

few_others : (other : Option ℕ) → length (others_of other) ≤ 1
few_others None = omega arith
few_others (Some c) = omega arith

of_other : (P : ℕ → Type 0) (other : Option ℕ) → AllByRecursion P (others_of other) → IfSome other P
of_other P None all = tt
of_other P (Some c) all = all.0

-- the other input is one of the actor's
pub other_there : (cs : List Channel) (a own : ℕ) (is_first : Bool) (other : Option ℕ) → inputs_at cs a ≡ in_order is_first own (others_of other)
    → IfSome other (λ c. (c < length cs) × (to_at cs c ≡ a))
other_there cs a own is_first other order =
    of_other (λ c. (c < length cs) × (to_at cs c ≡ a)) other (of_others (λ c. (c < length cs) × (to_at cs c ≡ a)) is_first own (others_of other)
    (subst (AllByRecursion (λ c. (c < length cs) × (to_at cs c ≡ a))) order
    (both (inputs_at cs a) (λ c (lt : c < length cs) (e : to_at cs c ≡ a). (lt, e)) (ins_there cs a) (ins_own cs a))))

before_same_of : (f g : ℕ → ℕ) (ns : List ℕ) (own : ℕ) → AllByRecursion (λ c. f c ≡ g c) ns → before_of f ns own ≡ before_of g ns own
before_same_of f g [] own same = refl
before_same_of f g (c ∷ ns) own same = ap₂ (λ (x y : ℕ). cond (c == own) 0 (x + y)) same.0 (before_same_of f g ns own same.1)

module _ (plan : Plan) (a : ℕ) (f : Feedback) (told : IsFeedback plan a f) where
  abbrev channels : List Channel
  channels = plan.channels

  abbrev beside_it : List ℕ
  beside_it = others_of f.other

  alike : (j k : ℕ) → AllByRecursion (λ c. take_at channels j c ≡ take_at channels k c) beside_it
  alike j k =
      of_others (λ c. take_at channels j c ≡ take_at channels k c) f.is_first f.channel beside_it
      (subst (AllByRecursion (λ c. take_at channels j c ≡ take_at channels k c)) told.order (same_takes channels a told.keeps.phases j k))

  fixed : (i k : ℕ) → Fixed plan a f.channel told.keeps f.is_first beside_it told.order (others_apart f.channel f.other told.apart) f.each f.before
      (gift a i channels) k
  fixed i k = record {
    each_same = told.each ∙ sum_same (take_at channels 0) (take_at channels k) beside_it (alike 0 k);
    before_same = told.before ∙ before_same_of (λ c. give_at channels 0 c) (λ c. give_at channels k c) (outputs_at channels a) f.channel
        (same_gives channels a told.keeps.phases 0 k);
    gift_same = same_gift channels a told.keeps.phases i k;
  }

  one_each : (g : ℕ → ℕ) (other : Option ℕ) (n : ℕ) → n ≡ sum_by g (others_of other) → AllByRecursion (λ c. g c ≡ n) (others_of other)
  one_each g None n e = tt
  one_each g (Some c) n e = ((let s = sum_by-cons g c [] in let r : g c ≡ n = omega (arith, s, e) in r), tt)

  -- n firings take so many of the other input
  takes_others : (k n : ℕ) → AllByRecursion (λ c. takes_at channels k n c ≡ n * f.each) beside_it
  takes_others k n =
      both beside_it
      (λ c (x : (c < length channels) × (to_at channels c ≡ a)) (e : take_at channels k c ≡ f.each).
      takes_times channels a told.keeps.phases c x.0 x.1 k n ∙ ap (λ (j : ℕ). n * j) e)
      (of_others (λ c. (c < length channels) × (to_at channels c ≡ a)) f.is_first f.channel beside_it
      (subst (AllByRecursion (λ c. (c < length channels) × (to_at channels c ≡ a))) told.order (ins_all plan a f.channel told.keeps)))
      (one_each (take_at channels k) f.other f.each (fixed 0 k).each_same)

  -- and finds them
  pub others_enough : (ts : List (List ℤ)) (k n : ℕ) → HoldAll ts (asks_at channels f.channel k n) (inputs_at channels a)
      → IfSome f.other (λ c. (c < length channels) × (n * f.each ≤ length (tokens_at ts c)))
  others_enough ts k n hold =
      of_other (λ c. (c < length channels) × (n * f.each ≤ length (tokens_at ts c))) f.other
      (both beside_it
      (λ c (x : (takes_at channels k n c ≡ n * f.each) × (c ≢ f.channel))
      (y : (c < length channels) × (asks_at channels f.channel k n c ≤ length (tokens_at ts c))). (
        y.0,
        (let s = asks_other channels f.channel k n c (ne_eqb c f.channel x.1) in let l = y.1 in let t = x.0 in
            let r : n * f.each ≤ length (tokens_at ts c) = omega (arith, s, l, t) in r),
      ))
      (both beside_it (λ c (x : takes_at channels k n c ≡ n * f.each) (y : c ≢ f.channel). (x, y)) (takes_others k n)
      (others_apart f.channel f.other told.apart))
      (of_others (λ c. (c < length channels) × (asks_at channels f.channel k n c ≤ length (tokens_at ts c))) f.is_first f.channel beside_it
      (subst (AllByRecursion (λ c. (c < length channels) × (asks_at channels f.channel k n c ≤ length (tokens_at ts c)))) told.order
      (both (inputs_at channels a) (λ c (x : (c < length channels) × (to_at channels c ≡ a))
      (y : asks_at channels f.channel k n c ≤ length (tokens_at ts c)). (x.0, y))
      (ins_all plan a f.channel told.keeps) hold))))

  -- what was copied tells what is read
  pub read_with : (n : ℕ) (v : List ℤ) (m : Machine) → IsGood plan m → GoesOn plan m.now a f.channel (count m.now a) n
      → length v ≡ gifts_of channels a (count m.now a) n → AreFew plan a (count m.now a) n → (state others : List ℤ)
      → state ≡ tokens_at m.now.tokens f.channel → others ≡ from_front beside_it (n * f.each) m.now.tokens
      → reads_among plan m.now (firings_of channels a (count m.now a) n v)
      ≡ parts_of channels a (count m.now a) n (loop_reads f.is_first f.each f.before (gift a (count m.now a) channels) n state others v)
  read_with n v m good h len few state others state_is others_are =
      let k : ℕ = count m.now a in
      loop_read plan a f.channel told.keeps f.is_first beside_it told.order (others_apart f.channel f.other told.apart) f.each f.before (gift a k channels)
      (fixed k) n v m good h len few
      ∙ ap₂ (λ (x y : List ℤ). parts_of channels a k n (loop_reads f.is_first f.each f.before (gift a k channels) n x y v)) (sym state_is)
      (sym (others_are ∙ one_read channels beside_it k n (n * f.each) m.now.tokens (few_others f.other) (takes_others k n)))
