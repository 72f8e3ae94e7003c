-- What a core keeps of an accepted graph can be played.
use Rattle.std.proofs.Common.{◌≡◌, ℕ, zero, suc, ◌*◌, ◌==◌, ◌<◌, ◌≤◌, List, [], ◌∷◌, length, get_or, map, refl, ap, ap₂, ◌∙◌, sym, arith, Option, Some, None}
use Rattle.std.specs.Prelude.{All, sum, sum_by, unwrap_or, IfSome}
use Rattle.std.specs.List.{zip, AllByRecursion}
use Rattle.std.proofs.lemmas.List.{length-map}
use Rattle.std.proofs.lemmas.List.Sums.{sum_by-cons, sum_by-le}
use Rattle.std.proofs.lemmas.List.Elements.{All-from_recursion, recursion_from_All}
use Rattle.csdf_model.specs.Graph as graph
use Rattle.csdf_model.specs.Graph.{Graph, phases_of}
use Rattle.csdf_model.specs.Kernels.{is_source_kernel}
use Rattle.csdf_model.specs.Rates.{rate, total}
use Rattle.csdf_model.specs.WellFormed.{IsChannel, IsCells, initial_total}
use Rattle.csdf_analysis.proofs.DivisorLemmas.{cancel_left}
use Rattle.csdf_analysis.specs.Period.{HoldInitial}
use Rattle.csdf_analysis.specs.Acceptance.{Accepted, IsAccepted, cells_of}
use Rattle.csdf_analysis.specs.Repetition.{IsBalanced, IsVector}
use Rattle.csdf_core.specs.Phases.{HasPhases}
use Rattle.csdf_core.specs.Plan.{Channel, from_at, to_at}
use Rattle.csdf_core.specs.Ports.{take_at, give_at}
use Rattle.csdf_core.specs.Playable.{IsPlayable}
use Rattle.csdf_core.specs.PlanInside.{AreOf, HasSmallRates}
use Rattle.csdf_core.specs.Planned.{channels_of, with_capacity, plan_for}
use Rattle.csdf_core.proofs.FewGifts.{few_gifts}
use Rattle.csdf_core.proofs.PhaseLemmas.{first_in_phase, has_phases}
use Rattle.csdf_core.proofs.PlanLemmas.{length-capacities, numbers-capacities}

-- each channel beside its capacity, which has room for the initial tokens, and the capacities add up to more than these
module _ (n : ℕ) (actors : List graph.Actor) (e : n ≡ length actors) where
  rows : (gs : List graph.Channel) (caps : List ℕ) → length caps ≡ length gs → AllByRecursion (IsChannel actors) gs → HoldInitial gs caps
      → AllByRecursion (λ (c : Channel). length c.initial ≤ c.capacity) (map with_capacity (zip gs caps))
      × AllByRecursion (λ (c : Channel). (c.from < n) × (c.to < n)) (map with_capacity (zip gs caps))
  rows [] caps len is hold = (tt, tt)
  rows (g ∷ gs) [] len is hold = absurd (omega arith)
  rows (g ∷ gs) (b ∷ caps) len is hold =
      let rest = rows gs caps (omega arith) is.1 (λ i c at. hold (suc i) c at) in
      let from = is.0.from in
      let to = is.0.to in
      ((hold 0 g refl, rest.0), ((omega arith, omega arith), rest.1))

totals : (gs : List graph.Channel) (caps : List ℕ) → length caps ≡ length gs
    → sum_by (λ (c : Channel). length c.initial) (map with_capacity (zip gs caps)) ≡ initial_total gs
totals [] [] len = refl
totals [] (b ∷ caps) len = absurd (omega arith)
totals (g ∷ gs) [] len = absurd (omega arith)
totals (g ∷ gs) (b ∷ caps) len =
    omega (
      arith,
      sum_by-cons (λ (c : Channel). length c.initial) (with_capacity (g, b)) (map with_capacity (zip gs caps)),
      sum_by-cons (λ (c : graph.Channel). length c.initial) g gs,
      totals gs caps (omega arith),
    )

totals_fit : (gs : List graph.Channel) (caps : List ℕ) → length caps ≡ length gs → HoldInitial gs caps → initial_total gs ≤ sum caps
totals_fit [] caps len hold = omega arith
totals_fit (g ∷ gs) [] len hold = absurd (omega arith)
totals_fit (g ∷ gs) (b ∷ caps) len hold =
    let here = hold 0 g refl in
    omega (
      arith,
      sum_by-cons (λ (c : graph.Channel). length c.initial) g gs,
      sum_by-cons (λ k. k) b caps,
      here,
      totals_fit gs caps (omega arith) (λ i c at. hold (suc i) c at),
    )

cells_enough : (a : Accepted) → IsAccepted a → IsCells a.graph.channels (cells_of a)
cells_enough a h = by a.graph.cells h.well_formed.fitting.cells
  where
    by : (o : Option ℕ) → IfSome o (IsCells a.graph.channels) → IsCells a.graph.channels (unwrap_or o (sum a.capacities))
    by (Some n) is = is
    by None is = record {
      fits = totals_fit a.graph.channels a.capacities h.least.completes.each_channel h.least.completes.initial;
      within =
          let few = h.well_formed.fitting.few_channels in
          let len = h.least.completes.each_channel in
          let all : sum a.capacities ≤ length a.capacities * 65535 = sum_by-le (λ n. n) 65535 a.capacities h.small in
          omega arith;
    }

pub playable_made : (a : Accepted) (limits supplies : List ℕ) (firings : Option ℕ) → IsAccepted a → length limits ≡ length a.graph.actors
    → All (λ n. n ≤ 16384000) limits → IsPlayable (plan_for a limits supplies firings)
playable_made a limits supplies firings h counted few =
    let g : Graph = a.graph in
    let len : length (map (λ (d : graph.Actor). is_source_kernel d.kernel) g.actors) ≡ length g.actors =
    length-map g.actors (λ (d : graph.Actor). is_source_kernel d.kernel) in
    let each = h.least.completes.each_channel in
    let both = rows (length (map (λ (d : graph.Actor). is_source_kernel d.kernel) g.actors)) g.actors len g.channels a.capacities each
    (recursion_from_All (IsChannel g.actors) g.channels h.well_formed.fitting.channels) h.least.completes.initial in
    let cells = cells_enough a h in
    let few_actors = h.well_formed.fitting.few_actors in
    let few_channels = h.well_formed.fitting.few_channels in
    let channels = length-capacities g.channels a.capacities each in
    record {
      fits = both.0;
      cells = let t = totals g.channels a.capacities each in let f = cells.fits in omega arith;
      ends = both.1;
      few_cells = cells.within;
      few_actors = omega arith;
      few_channels = omega arith;
      limited = counted ∙ sym len;
      few_firings = few;
    }

small_rates : (actors : List graph.Actor) (gs : List graph.Channel) (caps : List ℕ) → AllByRecursion (IsChannel actors) gs
    → AllByRecursion HasSmallRates (map with_capacity (zip gs caps))
small_rates actors [] caps all = tt
small_rates actors (g ∷ gs) [] all = tt
small_rates actors (g ∷ gs) (b ∷ caps) all =
    (record { produce = all.0.produce.small; consume = all.0.consume.small }, small_rates actors gs caps all.1)

-- one from an actor of one phase to itself gives what it takes
module _ (actors : List graph.Actor) (r : List ℕ) (some : IsVector actors r) where
  even_rates : (gs : List graph.Channel) (caps : List ℕ) (a c : ℕ) → length caps ≡ length gs → AllByRecursion (IsChannel actors) gs
      → AllByRecursion (IsBalanced actors r) gs → HasPhases (map with_capacity (zip gs caps)) a 1 → c < length (map with_capacity (zip gs caps))
      → from_at (map with_capacity (zip gs caps)) c ≡ a → to_at (map with_capacity (zip gs caps)) c ≡ a
      → take_at (map with_capacity (zip gs caps)) 0 c ≡ give_at (map with_capacity (zip gs caps)) 0 c
  even_rates [] caps a c len all balanced has lt from to = absurd (omega arith)
  even_rates (g ∷ gs) [] a c len all balanced has lt from to = absurd (omega arith)
  even_rates (g ∷ gs) (b ∷ caps) a zero len all balanced has lt from to =
      let gives : length g.produce ≡ 1 = has.gives 0 (omega arith) from in
      let takes : length g.consume ≡ 1 = has.takes 0 (omega arith) to in
      let puts : phases_of actors g.from ≡ 1 = sym all.0.produce.each_phase ∙ gives in
      let gets : phases_of actors g.to ≡ 1 = sym all.0.consume.each_phase ∙ takes in
      let n : ℕ = get_or r g.from 0 in
      let each = some.each_actor in
      let within = all.0.from in
      let positive : 0 < n = some.positive g.from 0 (omega (arith, each, within)) in
      let one : (rates : List ℕ) → total rates 1 ≡ rate rates 0 = λ rates. omega arith in
      let same : n * rate g.produce 0 ≡ n * rate g.consume 0 =
      ap (λ m. n * m) (sym (one g.produce)) ∙ ap (λ m. n * total g.produce m) (sym puts) ∙ balanced.0
      ∙ ap₂ (λ (i m : ℕ). get_or r i 0 * total g.consume m) (to ∙ sym from) gets ∙ ap (λ m. n * m) (one g.consume) in
      sym (cancel_left n (rate g.produce 0) (rate g.consume 0) positive same)
  even_rates (g ∷ gs) (b ∷ caps) a (suc c) len all balanced has lt from to =
      even_rates gs caps a c (omega arith) all.1 balanced.1
      (record { takes = λ d less e. has.takes (suc d) (omega (arith, less)) e; gives = λ d less e. has.gives (suc d) (omega (arith, less)) e })
      (omega (arith, lt)) from to

-- the channels of an accepted graph with their capacities
pub made_of : (a : Accepted) → IsAccepted a → AreOf a.graph (channels_of a)
made_of a h =
    let g : Graph = a.graph in
    let len = h.least.completes.each_channel in
    let all = recursion_from_All (IsChannel g.actors) g.channels h.well_formed.fitting.channels in
    record {
      kept = record {
        small = All-from_recursion HasSmallRates (channels_of a) (small_rates g.actors g.channels a.capacities all);
        first = λ b. first_in_phase g.actors g.channels a.capacities b len all;
        few = λ b k. omega (arith, few_gifts g.actors b k g.channels a.capacities all, h.well_formed.fitting.few_channels);
        even = λ b c. even_rates g.actors a.r h.repetition.least.vector g.channels a.capacities b c len all
            (recursion_from_All (IsBalanced g.actors a.r) g.channels h.repetition.least.balances);
      };
      inputs = λ b. sym (numbers-capacities (λ ch. ch.to == b) (λ ch. ch.to == b) (λ _ _. refl) 0 g.channels a.capacities len);
      outputs = λ b. sym (numbers-capacities (λ ch. ch.from == b) (λ ch. ch.from == b) (λ _ _. refl) 0 g.channels a.capacities len);
      phases = λ b. has_phases g.actors g.channels a.capacities b (phases_of g.actors b) len all refl;
    }
