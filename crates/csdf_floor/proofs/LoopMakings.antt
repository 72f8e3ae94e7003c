-- Firings that keep a state, as a floor makes them.
use Rattle.std.proofs.Common.{◌≡◌, ℕ, zero, suc, ◌+◌, ◌-◌, ◌*◌, ◌≤◌, Bool, true, false, List, [], ◌∷◌, ◌++◌, length, get_or, take, drop}
use Rattle.std.proofs.Common.{cond, refl, ap, ap₂, sym, subst, ◌∙◌, arith, suc-mul}
use Rattle.std.specs.Prelude.{ℤ, sum, sum_by, slice_range}
use Rattle.std.proofs.Math.Seq.{take-append_seam, drop-append_seam}
use Rattle.std.proofs.lemmas.List.{length-append, length-drop, length-take-le}
use Rattle.std.proofs.lemmas.List.Sums.{sum_by-cons, sum_by-append}
use Rattle.csdf_model.specs.declared.parts.Kernel.{Kernel}
use Rattle.csdf_model.specs.declared.parts.Kernel.TheVariants.{Sink}
use Rattle.csdf_kernel.specs.Loop as kernel
use Rattle.csdf_kernel.specs.Value.{value_of}
use Rattle.csdf_kernel.proofs.ValueLemmas.{length_of_value}
use Rattle.csdf_core.specs.declared.feedback.Feedback.{Feedback}
use Rattle.csdf_core.specs.Blocks.{needs_of, gifts_of}
use Rattle.csdf_core.specs.Engine.{AreReadWith}
use Rattle.csdf_core.specs.Feedback.{IsFeedback, beside, in_order, loop_reads, others_of}
use Rattle.csdf_core.specs.Moves.{Move}
use Rattle.csdf_core.specs.Plan.{Channel, Plan}
use Rattle.csdf_core.specs.Ports.{take_at}
use Rattle.csdf_core.specs.Rows.{need, gift}
use Rattle.csdf_core.specs.Shows.{View}
use Rattle.csdf_core.specs.Step.{count, given, is_source}
use Rattle.csdf_core.proofs.FeedbackTokens.{state_before, state_given}
use Rattle.csdf_core.proofs.OnePhase.{same_gift, same_need}
use Rattle.csdf_core.proofs.PortLemmas.{need_is}
use Rattle.csdf_floor.specs.Inside.{IsBook}
use Rattle.csdf_floor.specs.Journal.{Program, output_counts, value}
use Rattle.csdf_floor.specs.Making.{AreOwnValues, made_value}
use Rattle.csdf_floor.specs.Work.{IsWork, Work, program}
use Rattle.csdf_floor.proofs.Books.{floor_of}
use Rattle.csdf_floor.proofs.Journals.{value_is}
use Rattle.csdf_floor.proofs.Makings.{length_made, same_outputs}
use Rattle.csdf_floor.proofs.Sequential.{length_value}
use Rattle.csdf_floor.proofs.Works.{playable_program}
use Rattle.std.proofs.lemmas.List.Elements.{recursion_from_All}
use Rattle.std.specs.List.{AllByRecursion}

beside_same : (is_first : Bool) (x y : List ℤ) → beside is_first x y ≡ kernel.beside is_first x y
beside_same true x y = refl
beside_same false x y = refl

beside_long : (is_first : Bool) (x y : List ℤ) → length (beside is_first x y) ≡ length x + length y
beside_long true x y = length-append x y
beside_long false x y = let a = length-append y x in omega (arith, a)

module _ (w : Program) (a : ℕ) (k0 : Kernel) (counts : List ℕ) (is_first : Bool) (each before given needed : ℕ)
    (alike : (k : ℕ) (xs : List ℤ) → value w a k xs ≡ value_of k0 counts xs) (needs : (k : ℕ) → need a k w.plan.channels ≡ needed)
    (gifts : sum counts ≡ given) where
  -- the values, and what the firings read that write them
  abbrev pub values : ℕ → List ℤ → List ℤ → List ℤ
  values n state others = kernel.loop_values k0 counts is_first each before n state others

  abbrev pub read : ℕ → List ℤ → List ℤ → List ℤ
  read n state others = loop_reads is_first each before given n state others (values n state others)

  pub loop_made : (k n : ℕ) (state others : List ℤ) → length state + each ≡ needed → before + length state ≤ given → n * each ≤ length others
      → (made_value w a k n (read n state others) ≡ values n state others) × (length (read n state others) ≡ needs_of w.plan.channels a k n)
  loop_made k zero state others size part enough = (refl, refl)
  loop_made k (suc n) state others size part enough =
      let fresh : List ℤ = take each others in
      let rest : List ℤ = drop each others in
      let x : List ℤ = value_of k0 counts (kernel.beside is_first state fresh) in
      let next : List ℤ = take (length state) (drop before x) in
      let v : List ℤ = values n next rest in
      let times = suc-mul n each in
      let fresh_long : length fresh ≡ each = length-take-le each others (omega (arith, enough, times)) in
      let rest_long = length-drop each others in
      let long : length x ≡ given = length_of_value k0 counts (kernel.beside is_first state fresh) ∙ gifts in
      let front : take given (x ++ v) ≡ x = ap (λ (i : ℕ). take i (x ++ v)) (sym long) ∙ take-append_seam x v in
      let back : drop given (x ++ v) ≡ v = ap (λ (i : ℕ). drop i (x ++ v)) (sym long) ∙ drop-append_seam x v in
      let chunk : List ℤ = beside is_first state fresh in
      let tail : List ℤ = loop_reads is_first each before given n (take (length state) (drop before (take given (x ++ v)))) rest (drop given (x ++ v)) in
      let tails : tail ≡ read n next rest =
      ap₂ (λ (y z : List ℤ). loop_reads is_first each before given n (take (length state) (drop before y)) rest z) front back in
      let chunk_long : length chunk ≡ needed = (let b = beside_long is_first state fresh in omega (arith, b, fresh_long, size)) in
      let head : take needed (chunk ++ tail) ≡ chunk = ap (λ (i : ℕ). take i (chunk ++ tail)) (sym chunk_long) ∙ take-append_seam chunk tail in
      let later : drop needed (chunk ++ tail) ≡ tail = ap (λ (i : ℕ). drop i (chunk ++ tail)) (sym chunk_long) ∙ drop-append_seam chunk tail in
      let next_long : length next ≡ length state =
      length-take-le (length state) (drop before x) (let d = length-drop before x in omega (arith, d, long, part)) in
      let ih = loop_made (suc k) n next rest (omega (arith, next_long, size)) (omega (arith, next_long, part))
      (omega (arith, rest_long, enough, times)) in
      let one : value w a k (take (need a k w.plan.channels) (chunk ++ tail)) ≡ x =
      alike k (take (need a k w.plan.channels) (chunk ++ tail))
      ∙ ap (value_of k0 counts) (ap (λ (i : ℕ). take i (chunk ++ tail)) (needs k) ∙ head ∙ beside_same is_first state fresh) in
      let more : made_value w a (suc k) n (drop (need a k w.plan.channels) (chunk ++ tail)) ≡ v =
      ap (made_value w a (suc k) n) (ap (λ (i : ℕ). drop i (chunk ++ tail)) (needs k) ∙ later ∙ tails) ∙ ih.0 in
      let all = length-append chunk tail in
      let tail_long = ap length tails ∙ ih.1 in
      let need_now = needs k in (
        ap₂ (λ (xs ys : List ℤ). xs ++ ys) one more,
        (let r : length (chunk ++ tail) ≡ need a k w.plan.channels + needs_of w.plan.channels a (suc k) n =
            omega (arith, all, tail_long, chunk_long, need_now) in r),
      )

sum_in_order : (f : ℕ → ℕ) (is_first : Bool) (own : ℕ) (others : List ℕ) → sum_by f (in_order is_first own others) ≡ f own + sum_by f others
sum_in_order f true own others = let s = sum_by-cons f own others in omega (arith, s)
sum_in_order f false own others =
    let s = sum_by-append f others (own ∷ []) in
    let o = sum_by-cons f own [] in
    omega (arith, s, o)

-- a firing reads the state and the other tokens
pub needs_two : (plan : Plan) (a : ℕ) (f : Feedback) → IsFeedback plan a f → (k : ℕ) → need a k plan.channels ≡ f.taken + f.each
needs_two plan a f told k =
    let all : need a 0 plan.channels ≡ take_at plan.channels 0 f.channel + sum_by (take_at plan.channels 0) (others_of f.other) =
    sym (need_is a 0 plan.channels) ∙ ap (sum_by (take_at plan.channels 0)) told.order
    ∙ sum_in_order (take_at plan.channels 0) f.is_first f.channel (others_of f.other) in
    let taken = told.taken in
    let each = told.each in
    let same = same_need plan.channels a told.keeps.phases k 0 in
    omega (arith, all, taken, each, same)

-- of what is told of the channel to itself
module _ (w : Program) (a : ℕ) (f : Feedback) (told : IsFeedback w.plan a f) where
  abbrev cs : List Channel
  cs = w.plan.channels

  pub needs_both : (k : ℕ) → need a k cs ≡ f.taken + f.each
  needs_both k = needs_two w.plan a f told k

  pub part_of_gift : (k : ℕ) → f.before + f.taken ≤ gift a k cs
  part_of_gift k =
      let g = state_given w.plan a f.channel told.keeps 0 in
      let b = told.before ∙ state_before w.plan a f.channel told.keeps 0 in
      let t = told.taken in
      let s = same_gift cs a told.keeps.phases k 0 in
      omega (arith, g, b, t, s)

  pub sum_counts : (k : ℕ) → sum (output_counts w a k) ≡ gift a k cs
  sum_counts k = sym (length_of_value (get_or w.kernels a Sink) (output_counts w a k) []) ∙ length_any (get_or w.kernels a Sink) k
    where
      length_any : (k0 : Kernel) (k : ℕ) → length (value_of (get_or w.kernels a Sink) (output_counts w a k) []) ≡ gift a k cs
      length_any k0 k = length_of_value (get_or w.kernels a Sink) (output_counts w a k) []
          ∙ sym (length_of_value (get_or w.kernels a Sink) (output_counts w a k) (inputs_of k)) ∙ ap length (sym (value_is w a k [])) ∙ length_value w a k []
        where
          inputs_of : ℕ → List ℤ
          inputs_of k = cond (is_source w.plan a) (slice_range (get_or w.feeds a []) (given w.plan a k) (given w.plan a (suc k))) []

  -- a firing's value is that of the counts of the first
  pub value_alike : (j k : ℕ) (xs : List ℤ) → value w a k xs ≡ value_of (get_or w.kernels a Sink) (output_counts w a j) xs
  value_alike j k xs =
      value_is w a k xs
      ∙ ap (λ (b : Bool). value_of (get_or w.kernels a Sink) (output_counts w a k)
      (cond b (slice_range (get_or w.feeds a []) (given w.plan a k) (given w.plan a (suc k))) xs)) told.keeps.no_source
      ∙ ap (λ (ns : List ℕ). value_of (get_or w.kernels a Sink) ns xs) (same_outputs w a k j told.keeps.phases)

pub own_values : (keeps : Bool) (w : Work) (core : View) (journal : List Move) (sinks reads : List (List ℤ)) (a n : ℕ) (f : Feedback) (state others v : List ℤ)
    → IsBook (floor_of keeps w core journal sinks) reads → IsFeedback core.plan a f → length state ≡ f.taken → length others ≡ n * f.each
    → ((u : List ℤ) → length u ≡ gifts_of core.plan.channels a (count core.now a) n → AreReadWith core.plan core.now a (count core.now a) n u
    (loop_reads f.is_first f.each f.before (gift a (count core.now a) core.plan.channels) n state others u))
    → v ≡ kernel.loop_values (get_or (program w).kernels a Sink) (output_counts (program w) a (count core.now a)) f.is_first f.each f.before n state others
    → AreOwnValues (floor_of keeps w core journal sinks) a n v
own_values keeps w core journal sinks reads a n f state others v b told0 state_long others_long read_as is =
    let p : Program = program w in
    let k : ℕ = count core.now a in
    let same : core.plan ≡ p.plan = b.kept.plan in
    let told : IsFeedback p.plan a f = subst (λ (u : Plan). IsFeedback u a f) same told0 in
    let g : ℕ = gift a k core.plan.channels in
    let gives : sum (output_counts p a k) ≡ g = sum_counts p a f told k ∙ ap (λ (u : Plan). gift a k u.channels) (sym same) in
    let part = part_of_gift p a f told k in
    let gift_same : gift a k p.plan.channels ≡ g = ap (λ (u : Plan). gift a k u.channels) (sym same) in
    let made = loop_made p a (get_or p.kernels a Sink) (output_counts p a k) f.is_first f.each f.before g (f.taken + f.each)
    (value_alike p a f told k) (needs_both p a f told) gives k n state others (omega (arith, state_long)) (omega (arith, part, state_long, gift_same))
    (omega (arith, others_long)) in
    let tokens : List ℤ = loop_reads f.is_first f.each f.before g n state others v in
    let v_made : v ≡ made_value p a k n tokens =
    is ∙ sym made.0 ∙ ap (λ (u : List ℤ). made_value p a k n (loop_reads f.is_first f.each f.before g n state others u)) (sym is) in
    let v_long : length v ≡ gifts_of core.plan.channels a k n = ap length v_made ∙ length_made p a k n tokens
    ∙ ap (λ (u : Plan). gifts_of u.channels a k n) (sym same) in
    record {
      tokens = tokens;
      long = ap (λ (u : List ℤ). length (loop_reads f.is_first f.each f.before g n state others u)) is ∙ made.1
          ∙ ap (λ (u : Plan). needs_of u.channels a k n) (sym same);
      read = read_as v v_long;
      just = v_made;
    }

-- what a firing reads and writes has place for the state
pub record HasPlace (needed before taken each : ℕ) (counts : List ℕ) : Type 0 where
  pub window : taken ≤ needed
  pub part : before + taken ≤ sum counts
  pub rest : needed - taken ≡ each

pub has_place : (w : Program) (core : View) (a : ℕ) (f : Feedback) (needed : ℕ) (counts : List ℕ) → core.plan ≡ w.plan → IsFeedback core.plan a f
    → needed ≡ need a (count core.now a) core.plan.channels → counts ≡ output_counts w a (count core.now a) → HasPlace needed f.before f.taken f.each counts
has_place w core a f needed counts same told0 needs is =
    let k : ℕ = count core.now a in
    let told : IsFeedback w.plan a f = subst (λ (u : Plan). IsFeedback u a f) same told0 in
    let both = needs_two core.plan a f told0 k in
    let part = part_of_gift w a f told k in
    let all = ap (λ (ns : List ℕ). sum ns) is ∙ sum_counts w a f told k in
    record {
      window = omega (arith, needs, both);
      part = omega (arith, part, all);
      rest = omega (arith, needs, both);
    }

-- the firings have small numbers
pub few_numbers : (w : Work) (a k n : ℕ) → IsWork w → k + n ≤ get_or (program w).plan.limits a 0 → k + n ≤ 16384000
few_numbers w a k n kept limit =
    let playable = playable_program w.accepted w.feeds w.periods w.firings kept.accepted kept.few_firings in
    let few = few_at (program w).plan.limits a (recursion_from_All (λ m. m ≤ 16384000) (program w).plan.limits playable.few_firings) in
    omega (arith, limit, few)
  where
    few_at : (limits : List ℕ) (i : ℕ) → AllByRecursion (λ m. m ≤ 16384000) limits → get_or limits i 0 ≤ 16384000
    few_at [] i h = omega arith
    few_at (x ∷ limits) zero h = h.0
    few_at (x ∷ limits) (suc i) h = few_at limits i h.1
