-- The values of firings that each have their own counts and their own part of the tokens.
use Rattle.std.proofs.Common.{◌≡◌, ℕ, zero, suc, ◌+◌, ◌-◌, ◌*◌, ◌<◌, ◌≤◌, Bool, true, false, cond, List, [], ◌∷◌, ◌++◌, length, get_or, take, drop}
use Rattle.std.proofs.Common.{refl, ap, ap₂, sym, ◌∙◌, arith, add-one, append_assoc}
use Rattle.std.specs.Prelude.{ℤ, slice_range}
use Rattle.std.specs.List.{AllByRecursion}
use Rattle.std.proofs.Math.Nat.{suc-mul}
use Rattle.std.proofs.lemmas.List.{drop-drop, drop-take, take-take, length-drop, length-take-le}
use Rattle.std.proofs.lemmas.List.Elements.{recursion_from_All}
use Rattle.csdf_model.specs.declared.parts.Kernel.TheVariants.{Sink}
use Rattle.csdf_kernel.specs.Value.{value_of, values_of}
use Rattle.csdf_kernel.proofs.ValueLemmas.{length_of_value}
use Rattle.csdf_core.specs.Blocks.{needs_of, gifts_of}
use Rattle.csdf_core.specs.Phases.{HasPhases}
use Rattle.csdf_core.specs.Plan.{Channel}
use Rattle.csdf_core.specs.Rows.{need, gift}
use Rattle.csdf_core.specs.Step.{given, is_source}
use Rattle.csdf_core.proofs.BlockBegins.{given_more}
use Rattle.csdf_core.proofs.OnePhase.{same_gift, same_need}
use Rattle.csdf_core.proofs.Totals.{given-suc}
use Rattle.csdf_floor.specs.Journal.{Program, output_counts, value}
use Rattle.csdf_floor.specs.Making.{amount_of, amounts_of, made_value, phase_value, phase_values}
use Rattle.csdf_floor.specs.Work.{Work, IsWork, program}
use Rattle.csdf_floor.proofs.Honestly.{get_length}
use Rattle.csdf_floor.proofs.Journals.{value_is}
use Rattle.csdf_floor.proofs.Makings.{length_made, same_outputs}
use Rattle.csdf_floor.proofs.Sequential.{sum_of_counts}

-- ---- one firing after another

-- the first of those that are left
pub left_is : (k last : ℕ) → k < last → last - k ≡ suc (last - (k + 1))
left_is k last lt = omega arith

pub amounts_less : (w : Program) (a k last at amount most : ℕ) → k < last → amount ≡ amount_of w a k → at + amounts_of w a k (last - k) ≤ most
    → at + amount + amounts_of w a (k + 1) (last - (k + 1)) ≤ most
amounts_less w a k last at amount most lt is le =
    let m : ℕ = last - (k + 1) in
    let all : amounts_of w a k (last - k) ≡ amount_of w a k + amounts_of w a (suc k) m = ap (amounts_of w a k) (left_is k last lt) in
    let rest : amounts_of w a (k + 1) m ≡ amounts_of w a (suc k) m = ap (λ (j : ℕ). amounts_of w a j m) (add-one k) in
    omega (arith, le, is, all, rest)

pub gifts_less : (cs : List Channel) (a k last size size2 most : ℕ) → k < last → size2 ≡ size + gift a k cs → size + gifts_of cs a k (last - k) ≤ most
    → size2 + gifts_of cs a (k + 1) (last - (k + 1)) ≤ most
gifts_less cs a k last size size2 most lt is le =
    let m : ℕ = last - (k + 1) in
    let all : gifts_of cs a k (last - k) ≡ gift a k cs + gifts_of cs a (suc k) m = ap (gifts_of cs a k) (left_is k last lt) in
    let rest : gifts_of cs a (k + 1) m ≡ gifts_of cs a (suc k) m = ap (λ (j : ℕ). gifts_of cs a j m) (add-one k) in
    omega (arith, le, is, all, rest)

-- the next of them has its tokens, and room
pub amounts_one : (w : Program) (a k last at most : ℕ) → k < last → at + amounts_of w a k (last - k) ≤ most → at + amount_of w a k ≤ most
amounts_one w a k last at most lt le =
    let all : amounts_of w a k (last - k) ≡ amount_of w a k + amounts_of w a (suc k) (last - (k + 1)) = ap (amounts_of w a k) (left_is k last lt) in
    omega (arith, le, all)

pub gifts_one : (cs : List Channel) (a k last size most : ℕ) → k < last → size + gifts_of cs a k (last - k) ≤ most → size + gift a k cs ≤ most
gifts_one cs a k last size most lt le =
    let all : gifts_of cs a k (last - k) ≡ gift a k cs + gifts_of cs a (suc k) (last - (k + 1)) = ap (gifts_of cs a k) (left_is k last lt) in
    omega (arith, le, all)

pub phases_more : (w : Program) (a k last at amount : ℕ) (xs old new whole : List ℤ) → k < last → amount ≡ amount_of w a k
    → new ≡ old ++ phase_value w a k (drop at xs) → old ++ phase_values w a k (last - k) (drop at xs) ≡ whole
    → new ++ phase_values w a (k + 1) (last - (k + 1)) (drop (at + amount) xs) ≡ whole
phases_more w a k last at amount xs old new whole lt is one all =
    let m : ℕ = last - (k + 1) in
    let x : List ℤ = phase_value w a k (drop at xs) in
    let rest : phase_values w a (k + 1) m (drop (at + amount) xs) ≡ phase_values w a (suc k) m (drop (amount_of w a k) (drop at xs)) =
    ap₂ (λ (j : ℕ) (ys : List ℤ). phase_values w a j m ys) (add-one k)
    (ap (λ (j : ℕ). drop (at + j) xs) is ∙ sym (drop-drop (amount_of w a k) at xs)) in
    ap₂ (λ (ys zs : List ℤ). ys ++ zs) one rest
    ∙ append_assoc old x (phase_values w a (suc k) m (drop (amount_of w a k) (drop at xs)))
    ∙ ap (λ (j : ℕ). old ++ phase_values w a k j (drop at xs)) (sym (left_is k last lt))
    ∙ all

pub length_phase : (w : Program) (a k : ℕ) (xs : List ℤ) → length (phase_value w a k xs) ≡ gift a k w.plan.channels
length_phase w a k xs = length_of_value (get_or w.kernels a Sink) (output_counts w a k) (take (amount_of w a k) xs) ∙ sum_of_counts a k w.plan.channels

-- ---- the values are those of the firings

-- an actor that is no source computes from what it reads
pub need_alone : (w : Program) (a k : ℕ) → is_source w.plan a ≡ false → amount_of w a k ≡ need a k w.plan.channels
need_alone w a k other = ap (λ (b : Bool). cond b (gift a k w.plan.channels) (need a k w.plan.channels)) other

pub needs_alone : (w : Program) (a k n : ℕ) → is_source w.plan a ≡ false → amounts_of w a k n ≡ needs_of w.plan.channels a k n
needs_alone w a k zero other = refl
needs_alone w a k (suc n) other = ap₂ (λ (x y : ℕ). x + y) (need_alone w a k other) (needs_alone w a (suc k) n other)

pub phases_read : (w : Program) (a k n : ℕ) (tokens : List ℤ) → is_source w.plan a ≡ false → phase_values w a k n tokens ≡ made_value w a k n tokens
phases_read w a k zero tokens other = refl
phases_read w a k (suc n) tokens other =
    let r : ℕ = need a k w.plan.channels in
    let same : amount_of w a k ≡ r = need_alone w a k other in
    let one : value w a k (take r tokens) ≡ value_of (get_or w.kernels a Sink) (output_counts w a k) (take r tokens) = value_is w a k (take r tokens)
    ∙ ap (λ (b : Bool). value_of (get_or w.kernels a Sink) (output_counts w a k)
    (cond b (slice_range (get_or w.feeds a []) (given w.plan a k) (given w.plan a (suc k))) (take r tokens))) other in
    ap₂ (λ (xs ys : List ℤ). xs ++ ys)
    (ap (λ (i : ℕ). value_of (get_or w.kernels a Sink) (output_counts w a k) (take i tokens)) same ∙ sym one)
    (ap (λ (i : ℕ). phase_values w a (suc k) n (drop i tokens)) same ∙ phases_read w a (suc k) n (drop r tokens) other)

-- a source computes from as many tokens of its file as it writes
pub gift_alone : (w : Program) (a k : ℕ) → is_source w.plan a ≡ true → amount_of w a k ≡ gift a k w.plan.channels
gift_alone w a k src = ap (λ (b : Bool). cond b (gift a k w.plan.channels) (need a k w.plan.channels)) src

gifts_alone : (w : Program) (a k n : ℕ) → is_source w.plan a ≡ true → amounts_of w a k n ≡ gifts_of w.plan.channels a k n
gifts_alone w a k zero src = refl
gifts_alone w a k (suc n) src = ap₂ (λ (x y : ℕ). x + y) (gift_alone w a k src) (gifts_alone w a (suc k) n src)

abbrev pub part_of_file : Program → ℕ → ℕ → ℕ → List ℤ
part_of_file w a k n = take (gifts_of w.plan.channels a k n) (drop (given w.plan a k) (get_or w.feeds a []))

pub phases_fed : (w : Program) (a k n : ℕ) (tokens : List ℤ) → is_source w.plan a ≡ true
    → phase_values w a k n (part_of_file w a k n) ≡ made_value w a k n tokens
phases_fed w a k zero tokens src = refl
phases_fed w a k (suc n) tokens src =
    let cs : List Channel = w.plan.channels in
    let g : ℕ = gift a k cs in
    let more : ℕ = gifts_of cs a (suc k) n in
    let feed : List ℤ = get_or w.feeds a [] in
    let d : List ℤ = drop (given w.plan a k) feed in
    let part : List ℤ = take (need a k cs) tokens in
    let gs : given w.plan a (suc k) ≡ given w.plan a k + g = given-suc w.plan a k in
    let same : amount_of w a k ≡ g = gift_alone w a k src in
    let size : given w.plan a (suc k) - given w.plan a k ≡ g = omega (arith, gs) in
    let first : take (amount_of w a k) (take (g + more) d) ≡ take g d = ap (λ (i : ℕ). take i (take (g + more) d)) same
    ∙ take-take g (g + more) d (omega arith) in
    let one : value w a k part ≡ value_of (get_or w.kernels a Sink) (output_counts w a k) (take g d) = value_is w a k part
    ∙ ap (λ (b : Bool). value_of (get_or w.kernels a Sink) (output_counts w a k)
    (cond b (slice_range feed (given w.plan a k) (given w.plan a (suc k))) part)) src
    ∙ ap (λ (j : ℕ). value_of (get_or w.kernels a Sink) (output_counts w a k) (take j d)) size in
    let later : drop (amount_of w a k) (take (g + more) d) ≡ part_of_file w a (suc k) n = ap (λ (i : ℕ). drop i (take (g + more) d)) same
    ∙ drop-take g more d
    ∙ ap (take more) (drop-drop g (given w.plan a k) feed ∙ ap (λ (j : ℕ). drop j feed) (sym gs)) in
    ap₂ (λ (xs ys : List ℤ). xs ++ ys) (ap (value_of (get_or w.kernels a Sink) (output_counts w a k)) first ∙ sym one)
    (ap (phase_values w a (suc k) n) later ∙ phases_fed w a (suc k) n (drop (need a k cs) tokens) src)

-- ---- as the code makes them

-- the part of a source's file is long enough
pub fed_long : (w : Work) (a k n : ℕ) → is_source (program w).plan a ≡ true → given (program w).plan a (k + n) ≤ get_or (program w).plan.supplies a 0
    → amounts_of (program w) a k n ≤ length (part_of_file (program w) a k n)
fed_long w a k n src supply =
    let feed : List ℤ = get_or w.feeds a [] in
    let file : get_or (program w).plan.supplies a 0 ≡ length feed = get_length w.feeds a in
    let more = given_more (program w).plan a k n in
    let d = length-drop (given (program w).plan a k) feed in
    let t = length-take-le (gifts_of (program w).plan.channels a k n) (drop (given (program w).plan a k) feed) (omega (arith, supply, file, more, d)) in
    let s = gifts_alone (program w) a k n src in
    omega (arith, t, s)

-- and short enough
pub fed_short : (w : Work) (a k n : ℕ) → IsWork w → given (program w).plan a (k + n) ≤ get_or (program w).plan.supplies a 0
    → given (program w).plan a k + gifts_of (program w).plan.channels a k n ≤ 1000000
fed_short w a k n kept supply =
    let file : get_or (program w).plan.supplies a 0 ≡ length (get_or w.feeds a []) = get_length w.feeds a in
    let more = given_more (program w).plan a k n in
    let few = short_at w.feeds a (recursion_from_All (λ feed. length feed ≤ 1000000) w.feeds kept.fed.short) in
    omega (arith, file, more, supply, few)
  where
    short_at : (feeds : List (List ℤ)) (i : ℕ) → AllByRecursion (λ feed. length feed ≤ 1000000) feeds → length (get_or feeds i []) ≤ 1000000
    short_at [] i h = omega arith
    short_at (x ∷ feeds) zero h = h.0
    short_at (x ∷ feeds) (suc i) h = short_at feeds i h.1

-- firings that write nothing have no values
pub none_written : (w : Program) (a k n : ℕ) (tokens : List ℤ) → gifts_of w.plan.channels a k n ≡ 0 → [] ≡ made_value w a k n tokens
none_written w a k n tokens none = by (made_value w a k n tokens) (length_made w a k n tokens ∙ none)
  where
    by : (v : List ℤ) → length v ≡ 0 → [] ≡ v
    by [] e = refl
    by (x ∷ v) e = absurd (omega (arith, e))

-- ---- where each firing moves as much as the next
module _ (w : Program) (a : ℕ) (has : HasPhases w.plan.channels a 1) where
  same_amount : (j k : ℕ) → amount_of w a j ≡ amount_of w a k
  same_amount j k = ap₂ (λ (g r : ℕ). cond (is_source w.plan a) g r) (same_gift w.plan.channels a has j k) (same_need w.plan.channels a has j k)

  pub amounts_times : (k n : ℕ) → amounts_of w a k n ≡ n * amount_of w a k
  amounts_times k zero = omega arith
  amounts_times k (suc n) =
      let rest = amounts_times (suc k) n in
      let same = ap (λ x. n * x) (same_amount (suc k) k) in
      let t = suc-mul n (amount_of w a k) in
      omega (arith, rest, same, t)

  pub values_alike : (k n : ℕ) (xs : List ℤ)
      → values_of (get_or w.kernels a Sink) (output_counts w a k) (amount_of w a k) n xs ≡ phase_values w a k n xs
  values_alike k zero xs = refl
  values_alike k (suc n) xs =
      ap (λ (ys : List ℤ). phase_value w a k xs ++ ys)
      (ap₂ (λ (ns : List ℕ) (m : ℕ). values_of (get_or w.kernels a Sink) ns m n (drop (amount_of w a k) xs)) (same_outputs w a k (suc k) has)
      (same_amount k (suc k))
      ∙ values_alike (suc k) n (drop (amount_of w a k) xs))

-- an actor that is no source computes from what it reads
pub values_read : (w : Program) (a k n : ℕ) (tokens : List ℤ) → HasPhases w.plan.channels a 1 → is_source w.plan a ≡ false
    → values_of (get_or w.kernels a Sink) (output_counts w a k) (need a k w.plan.channels) n tokens ≡ made_value w a k n tokens
values_read w a k n tokens has other =
    ap (λ (m : ℕ). values_of (get_or w.kernels a Sink) (output_counts w a k) m n tokens) (sym (need_alone w a k other))
    ∙ values_alike w a has k n tokens ∙ phases_read w a k n tokens other
