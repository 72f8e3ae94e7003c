-- Firings that are made from a draft.
use Rattle.std.proofs.Common.{◌≡◌, ℕ, zero, suc, ◌-◌, ◌*◌, ◌<◌, Bool, true, false, List, [], ◌++◌, length, get_or, take, drop, refl, ap, ap₂}
use Rattle.std.proofs.Common.{sym, subst, ◌∙◌, arith, append-nil}
use Rattle.std.specs.Prelude.{ℤ}
use Rattle.std.proofs.lemmas.Bool.{false≢true}
use Rattle.csdf_model.specs.declared.parts.Kernel.{Kernel}
use Rattle.csdf_model.specs.declared.parts.Kernel.TheVariants.{Sink}
use Rattle.csdf_kernel.specs.Loop.{beside, loop_values}
use Rattle.csdf_kernel.specs.Value.{value_of, values_of}
use Rattle.csdf_core.specs.Blocks.{AreAccepted, AreReadEach, HoldAll, firings_of, gifts_of, needs_of, takes_at}
use Rattle.csdf_core.specs.Engine.{AreReadWith, CanFire}
use Rattle.csdf_core.specs.Phases.{HasPhases}
use Rattle.csdf_core.specs.Plan.{Channel, Plan}
use Rattle.csdf_core.specs.Playable.{IsPlayable}
use Rattle.csdf_core.specs.Ports.{inputs_at}
use Rattle.csdf_core.specs.Rows.{need}
use Rattle.csdf_core.specs.State.{Present, present}
use Rattle.csdf_core.specs.Step.{count, is_source, stage}
use Rattle.csdf_floor.specs.Drafts.{AreOwnIn, DraftView, IsDraftOf, IsDrafted, IsDraftedAt, Suits, values_in}
use Rattle.csdf_floor.specs.Floor.{FloorView, IsKept}
use Rattle.csdf_floor.specs.Journal.{Program, output_counts, state_of}
use Rattle.csdf_floor.specs.Making.{AreKeptValues, AreOwnValues, made_value}
use Rattle.csdf_floor.specs.Work.{IsWork, is_sink_kernel, program}
use Rattle.csdf_floor.proofs.Again.{read_again}
use Rattle.csdf_floor.proofs.Makings.{can_idle, kept_values, length_made}
use Rattle.csdf_floor.proofs.PhaseValues.{values_read}
use Rattle.csdf_floor.proofs.Works.{playable_program}

-- ---- without a state a firing computes from the next of the inputs alone

beside_none : (is_first : Bool) (xs : List ℤ) → beside is_first [] xs ≡ xs
beside_none true xs = refl
beside_none false xs = append-nil xs

alone : (kernel : Kernel) (counts : List ℕ) (is_first : Bool) (each before n : ℕ) (xs : List ℤ)
    → loop_values kernel counts is_first each before n [] xs ≡ values_of kernel counts each n xs
alone kernel counts is_first each before zero xs = refl
alone kernel counts is_first each before (suc n) xs =
    ap₂ (λ (ys zs : List ℤ). ys ++ zs) (ap (value_of kernel counts) (beside_none is_first (take each xs)))
    (alone kernel counts is_first each before n (drop each xs))

pub values_alone : (kernel : Kernel) (counts : List ℕ) (is_first : Bool) (needed before n : ℕ) (state xs : List ℤ) → state ≡ []
    → loop_values kernel counts is_first (needed - length state) before n state xs ≡ values_of kernel counts needed n xs
values_alone kernel counts is_first needed before n state xs none =
    ap (λ (s : List ℤ). loop_values kernel counts is_first (needed - length s) before n s xs) none
    ∙ ap (λ (i : ℕ). loop_values kernel counts is_first i before n [] xs) (let e : needed - 0 ≡ needed = omega arith in e)
    ∙ alone kernel counts is_first needed before n xs

-- ---- an actor's own values, after one honest journal and after another

module _ (f : FloorView) (a n : ℕ) (v : List ℤ) (kept : IsKept (program f.work) f.core f.journal) (some : 0 < n)
    (can : CanFire f.core.plan f.core.now a n) where
  abbrev w : Program
  w = program f.work

  abbrev k : ℕ
  k = count f.core.now a

  can_here : CanFire w.plan (present (state_of w f.journal)) a n
  can_here = subst (λ (q : Present). CanFire w.plan q a n) kept.shows.same (subst (λ (u : Plan). CanFire u f.core.now a n) kept.plan can)

  number_here : count (present (state_of w f.journal)) a ≡ k
  number_here = ap (λ (q : Present). count q a) (sym kept.shows.same)

  pub own_in : AreOwnValues f a n v → AreOwnIn w a k n v
  own_in own = record {
    journal = f.journal;
    honest = kept.honest;
    idle = ap (λ (q : Present). stage q a) (sym kept.shows.same) ∙ can_idle f.core.plan f.core.now a n some can;
    number = number_here;
    can = can_here;
    tokens = own.tokens;
    long = own.long ∙ ap (λ (u : Plan). needs_of u.channels a k n) kept.plan;
    read = subst (λ (q : Present). AreReadWith w.plan q a k n v own.tokens) kept.shows.same
        (subst (λ (u : Plan). AreReadWith u f.core.now a k n v own.tokens) kept.plan own.read);
    just = own.just;
  }

  pub own_again : IsWork f.work → AreOwnIn w a k n v → AreOwnValues f a n v
  own_again work o =
      let cs : List Channel = w.plan.channels in
      let playable : IsPlayable w.plan = playable_program f.work.accepted f.work.feeds f.work.periods f.work.firings work.accepted work.few_firings in
      let len : length v ≡ gifts_of cs a k n = ap length o.just ∙ length_made w a k n o.tokens in
      let first : AreAccepted w.plan (present (state_of w o.journal)) (firings_of cs a k n v) =
      subst (λ (i : ℕ). AreAccepted w.plan (present (state_of w o.journal)) (firings_of cs a i n v)) o.number
      (o.can v (len ∙ ap (λ (i : ℕ). gifts_of cs a i n) (sym o.number))) in
      let second : AreAccepted w.plan (present (state_of w f.journal)) (firings_of cs a k n v) =
      subst (λ (i : ℕ). AreAccepted w.plan (present (state_of w f.journal)) (firings_of cs a i n v)) number_here
      (can_here v (len ∙ ap (λ (i : ℕ). gifts_of cs a i n) (sym number_here))) in
      let read : AreReadWith w.plan (present (state_of w f.journal)) a k n v o.tokens =
      read_again w playable a n k v o.tokens o.journal f.journal o.honest kept.honest o.number number_here first second o.just o.read in
      record {
        tokens = o.tokens;
        long = o.long ∙ ap (λ (u : Plan). needs_of u.channels a k n) (sym kept.plan);
        read = subst (λ (u : Plan). AreReadWith u f.core.now a k n v o.tokens) (sym kept.plan)
            (subst (λ (q : Present). AreReadWith w.plan q a k n v o.tokens) (sym kept.shows.same) read);
        just = o.just;
      }

-- ---- what is put in a draft makes it one

pub draft_of : (f : FloorView) (a : ℕ) (d : DraftView) → IsKept (program f.work) f.core f.journal → 0 < d.firings → Suits f a d
    → is_sink_kernel (get_or (program f.work).kernels a Sink) ≡ false → d.kernel ≡ get_or (program f.work).kernels a Sink
    → d.counts ≡ output_counts (program f.work) a (count f.core.now a) → d.need ≡ need a (count f.core.now a) f.core.plan.channels
    → length d.inputs ≡ d.firings * (d.need - length d.state) → AreOwnValues f a d.firings (values_in d)
    → (HoldAll f.core.now.tokens (takes_at f.core.plan.channels (count f.core.now a) d.firings) (inputs_at f.core.plan.channels a)
    → AreReadEach f.core.plan f.core.now a (count f.core.now a) d.firings d.inputs) → IsDraftOf f a d
draft_of f a d kept some s no_sink kernel counts needed long own read =
    let k : ℕ = count f.core.now a in
    let at : IsDraftedAt (program f.work) a k d = record {
      no_sink = no_sink;
      kernel = kernel;
      counts = counts;
      need = needed ∙ ap (λ (u : Plan). need a k u.channels) kept.plan;
      long = long;
      own = own_in f a d.firings (values_in d) kept some s.can own;
    } in
    record {
      suits = s;
      drafted = subst (λ (i : ℕ). IsDraftedAt (program f.work) d.actor i d) (sym s.firing)
          (subst (λ (b : ℕ). IsDraftedAt (program f.work) b k d) (sym s.actor) at);
      own = own;
      read = read;
    }

-- the kernel's values of what the firings find
pub plain_values : (f : FloorView) (a : ℕ) (d : DraftView) → IsKept (program f.work) f.core f.journal → HasPhases f.core.plan.channels a 1
    → is_source (program f.work).plan a ≡ false → d.kernel ≡ get_or (program f.work).kernels a Sink
    → d.counts ≡ output_counts (program f.work) a (count f.core.now a) → d.need ≡ need a (count f.core.now a) f.core.plan.channels → d.state ≡ []
    → length d.inputs ≡ needs_of f.core.plan.channels a (count f.core.now a) d.firings
    → AreReadEach f.core.plan f.core.now a (count f.core.now a) d.firings d.inputs → AreOwnValues f a d.firings (values_in d)
plain_values f a d kept phases no_source kernel counts needed none long each =
    let w : Program = program f.work in
    let k : ℕ = count f.core.now a in
    let n : ℕ = d.firings in
    let just : values_in d ≡ made_value w a k n d.inputs =
    values_alone d.kernel d.counts d.is_first d.need d.before n d.state d.inputs none
    ∙ ap (λ (x : Kernel). values_of x d.counts d.need n d.inputs) kernel
    ∙ ap₂ (λ (ns : List ℕ) (m : ℕ). values_of (get_or w.kernels a Sink) ns m n d.inputs) counts (needed ∙ ap (λ (u : Plan). need a k u.channels) kept.plan)
    ∙ values_read w a k n d.inputs (subst (λ (u : Plan). HasPhases u.channels a 1) kept.plan phases) no_source in
    (kept_values f a n d.inputs (values_in d) kept.plan long each just).own

-- the values of a draft are those of the actor's next firings
pub drafted_values : (f : FloorView) (a : ℕ) (d : DraftView) (buffer v : List ℤ) → IsWork f.work → IsKept (program f.work) f.core f.journal
    → 0 < d.firings → Suits f a d → IsDrafted (program f.work) d → v ≡ values_in d → AreKeptValues f a d.firings buffer v
drafted_values f a d buffer v work kept some s e is =
    let w : Program = program f.work in
    let k : ℕ = count f.core.now a in
    let at : IsDraftedAt w a k d = subst (λ (b : ℕ). IsDraftedAt w b k d) s.actor (subst (λ (i : ℕ). IsDraftedAt w d.actor i d) s.firing e) in
    record {
      own = subst (AreOwnValues f a d.firings) (sym is) (own_again f a d.firings (values_in d) kept some s.can work at.own);
      kept = λ sink. absurd (false≢true (sym at.no_sink ∙ sink));
    }
