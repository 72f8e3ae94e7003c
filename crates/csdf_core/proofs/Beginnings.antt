-- A core before its first move.
use Rattle.std.proofs.Common.{◌≡◌, ℕ, zero, suc, ◌*◌, ◌≤◌, List, [], ◌∷◌, length, get_or, map, replicate, refl, ap, subst, ◌∙◌, sym, arith, Bool, true, false}
use Rattle.std.proofs.Common.{cond}
use Rattle.std.specs.Prelude.{ℤ, sum, sum_by, count_by, not, ◌==◌, slice_index}
use Rattle.std.proofs.lemmas.List.{length-map, length-replicate}
use Rattle.std.proofs.lemmas.List.Sums.{sum_by-cons}
use Rattle.std.proofs.lemmas.List.Folds.{sum_by-replicate}
use Rattle.csdf_model.specs.Rates.{total}
use Rattle.csdf_pool.specs.Pool.{Shared, held_tokens}
use Rattle.csdf_core.specs.declared.stage.Stage.{Stage}
use Rattle.csdf_core.specs.declared.stage.Stage.TheVariants.{Idle}
use Rattle.std.specs.List.{AllByRecursion}
use Rattle.csdf_core.specs.Plan.{Channel, Plan}
use Rattle.csdf_core.specs.Playable.{IsPlayable}
use Rattle.csdf_core.specs.State.{Stream, State, Present, present, opening, waiting}
use Rattle.csdf_core.specs.Step.{count, stage, given, is_stage}
use Rattle.csdf_core.specs.Ports.{tokens_in}
use Rattle.csdf_core.specs.Ready.{IsFit}
use Rattle.csdf_core.specs.Shows.{Shows, ArePeaks, AreSharedOut}
use Rattle.csdf_core.specs.Sound.{IsSound}
use Rattle.csdf_core.proofs.Presents.{present_same}
use Rattle.csdf_core.proofs.Opening.{alike, waiting-opening, fit_opening, reached_opening, none_reserved}

high_same : (ts : List (List ℤ)) → ArePeaks (map length ts) ts
high_same [] = tt
high_same (t ∷ ts) = ((let h : length t ≤ length t = omega arith in h), high_same ts)

either_way : (b : Bool) → (let n : ℕ = cond b 0 0 in n ≡ 0)
either_way true = refl
either_way false = refl

none_given : (a : ℕ) (cs : List Channel) → sum_by (λ (c : Channel). cond (c.from == a) (total c.produce 0) 0) cs ≡ 0
none_given a [] = refl
none_given a (c ∷ cs) =
    let f : Channel → ℕ = λ d. cond (d.from == a) (total d.produce 0) 0 in
    let first : f c ≡ 0 = either_way (c.from == a) in
    omega (arith, sum_by-cons f c cs, first, none_given a cs)

given-zero : (plan : Plan) (a : ℕ) → given plan a 0 ≡ 0
unfolding given
given-zero plan a = none_given a plan.channels

none_busy : (n : ℕ) → count_by (λ s. not (is_stage s Idle)) (replicate n Idle) ≡ 0
none_busy zero = refl
none_busy (suc n) = none_busy n

module _ (plan : Plan) (pool : Shared) (counts sums peaks : List ℕ) (stages : List Stage) (opens : List Bool) (playable : IsPlayable plan)
    (counts_are : counts ≡ replicate (length plan.sources) 0) (stages_are : stages ≡ replicate (length plan.sources) Idle)
    (opens_are : opens ≡ replicate (length plan.channels) true) (tokens_are : tokens_in pool ≡ map (λ (c : Channel). c.initial) plan.channels)
    (cells : AreSharedOut plan pool) where
  abbrev pub here : Present
  here = record { counts = counts; stages = stages; opens = opens; tokens = tokens_in pool }

  is_opening : here ≡ present (opening plan)
  is_opening = present_same here (present (opening plan)) counts_are stages_are opens_are (tokens_are ∙ sym (waiting-opening plan.channels))

  none_counted : (a : ℕ) → count here a ≡ 0
  none_counted a = ap (λ l. get_or l a 0) counts_are ∙ alike (length plan.sources) a 0

  idle : (a : ℕ) → stage here a ≡ Idle
  idle a = ap (λ l. get_or l a Idle) stages_are ∙ alike (length plan.sources) a Idle

  pub sound_opening : sums ≡ replicate (length plan.sources) 0 → peaks ≡ map length (tokens_in pool) → IsSound plan here peaks sums 0 0 pool
  sound_opening sums_are peaks_are =
      let tokens : length (tokens_in pool) ≡ length plan.channels = ap length tokens_are ∙ length-map plan.channels (λ (c : Channel). c.initial) in
      let none : (a : ℕ) → slice_index sums a ≡ 0 = λ a. ap (λ l. get_or l a 0) sums_are ∙ alike (length plan.sources) a 0 in
      record {
        fit = subst (λ (q : Present). IsFit plan q) (sym is_opening) (fit_opening plan playable);
        playable = playable;
        peaked = ap length peaks_are ∙ length-map (tokens_in pool) length ∙ tokens;
        high = subst (λ l. ArePeaks l (tokens_in pool)) (sym peaks_are) (high_same (tokens_in pool));
        chained = sym (length-map pool.chains held_tokens) ∙ tokens;
        cells = cells;
        within = λ a. (let e = none_counted a in omega arith);
        tallied = ap length sums_are ∙ length-replicate (length plan.sources) 0;
        summed = λ a lt. none a ∙ sym (given-zero plan a) ∙ ap (given plan a) (sym (none_counted a));
        small = λ a lt. (let e = none a in omega arith);
        starts = (let a : sum counts ≡ length plan.sources * 0 = ap sum counts_are ∙ sum_by-replicate (λ (k : ℕ). k) (length plan.sources) 0 in
            let b = ap (count_by (λ s. not (is_stage s Idle))) stages_are ∙ none_busy (length plan.sources) in omega arith);
        keeps = sym (none_reserved plan here idle 0 (length plan.sources));
      }

  pub shows_opening : Shows (record { plan = plan; now = here; peaks = peaks; pool = pool }) (opening plan)
  shows_opening = record { same = is_opening; lawful = (reached_opening plan playable).lawful; chains = refl; cells = cells }

-- all that waits as written, and nothing taken
as_written : List ℤ → Stream
as_written ts = record { written = ts; taken = 0 }

all_wait : (ts : List (List ℤ)) → map waiting (map as_written ts) ≡ ts
unfolding as_written
all_wait [] = refl
all_wait (t ∷ ts) = ap (λ l. t ∷ l) (all_wait ts)

none_taken : (ts : List (List ℤ)) → AllByRecursion (λ (stream : Stream). stream.taken ≤ length stream.written) (map as_written ts)
unfolding as_written
none_taken [] = tt
none_taken (t ∷ ts) = ((let h : 0 ≤ length t = omega arith in h), none_taken ts)

-- a core whose cells are shared out shows some state
pub shows_some : (plan : Plan) (p : Present) (peaks : List ℕ) (pool : Shared) → tokens_in pool ≡ p.tokens → AreSharedOut plan pool → (s : State)
    × Shows (record { plan = plan; now = p; peaks = peaks; pool = pool }) s
shows_some plan p peaks pool chains cells =
    let s : State = record { counts = p.counts; stages = p.stages; opens = p.opens; streams = map as_written p.tokens } in
    (s, record { same = present_same p (present s) refl refl refl (sym (all_wait p.tokens)); lawful = none_taken p.tokens; chains = chains; cells = cells })
