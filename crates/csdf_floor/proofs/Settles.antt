-- The end of a run.
use Rattle.std.proofs.Common.{◌≡◌, ℕ, zero, suc, ◌+◌, ◌<◌, ◌≤◌, Bool, true, false, not, ◌&&◌, cond, inl, inr, List, [], ◌∷◌, length, map, get_or, refl, ap, sym}
use Rattle.std.proofs.Common.{subst, ◌∙◌, arith, Option, None}
use Rattle.std.specs.Prelude.{ℤ, ◌⊎◌}
use Rattle.std.specs.List.{range_with_len}
use Rattle.std.proofs.lemmas.List.FromFn.{get_or-map-range_with_len}
use Rattle.csdf_model.specs.declared.parts.Kernel.{Kernel}
use Rattle.csdf_model.specs.declared.parts.Kernel.TheVariants.{Sink}
use Rattle.csdf_core.specs.Moves.{Move}
use Rattle.csdf_core.specs.Plan.{HasAmpleCells, Plan}
use Rattle.csdf_core.specs.Playable.{IsPlayable}
use Rattle.csdf_core.specs.State.{Present, present}
use Rattle.csdf_core.specs.Step.{stage, is_stage, is_over, producer, IsQuiet, IsSettled}
use Rattle.csdf_core.specs.declared.stage.Stage.{Stage}
use Rattle.csdf_core.specs.declared.stage.Stage.TheVariants.{Idle}
use Rattle.csdf_core.specs.Streams.{IsPrefix, initial}
use Rattle.csdf_core.proofs.Headline.{keeps_order, keeps_capacities, keeps_closed}
use Rattle.csdf_floor.specs.declared.ending.Ending.{Ending}
use Rattle.csdf_floor.specs.declared.ending.Ending.TheVariants.{Complete, Stopped, Starved, Dry}
use Rattle.csdf_floor.specs.declared.outcome.ChannelReport.{ChannelReport}
use Rattle.csdf_floor.specs.declared.outcome.Outcome.{Outcome}
use Rattle.csdf_floor.specs.Endings.{IsEnding}
use Rattle.csdf_floor.specs.Floor.{FloorView, IsBetween, sink_of, sinks_of}
use Rattle.csdf_floor.specs.Inside.{IsBook}
use Rattle.csdf_floor.specs.Journal.{Program, IsHonest, program_for, replies_to, sink_tokens, state_of}
use Rattle.csdf_floor.specs.Laws.{taken_in, written_in, AllSpent, IsFree, IsAsSequential, CountsAsSequential}
use Rattle.csdf_floor.specs.Rooms.{AreInStep, CountAlike, DifferInRoom, EndAlike}
use Rattle.csdf_floor.specs.Outcome.{HasTotals, IsOutcome, IsEndBeside, IsSequentialEnd, IsBeforeSequentialEnd, CompletesWhereAmple, journal_in, report_of}
use Rattle.csdf_floor.specs.Outcome.{IsAsInAnyRoom, EndsAsJournal, report_on, sequential_list, report_at}
use Rattle.csdf_floor.specs.Sequential.{IsSequential, sequential_sink, sequential_state}
use Rattle.csdf_floor.specs.Work.{feeds_in, is_sink_kernel, program}
use Rattle.csdf_floor.proofs.Rooms.{do_not_show, do_not_count, goes_as_far, stay_in_step}
use Rattle.csdf_floor.proofs.Complete.{ends_complete}
use Rattle.csdf_floor.proofs.Counted.{ends_counted, stays_counted}
use Rattle.csdf_floor.proofs.Endings.{one_ending}
use Rattle.csdf_floor.proofs.Ends.{ends_as_sequential, stays_within}
use Rattle.csdf_floor.proofs.Quiet.{quiet_is_exhausted}
use Rattle.csdf_floor.proofs.Works.{playable_program, producer_there}

same_map : {A : Type 0} (f g : ℕ → A) (k n : ℕ) → ((i : ℕ) → f i ≡ g i) → map f (range_with_len k n) ≡ map g (range_with_len k n)
same_map f g k zero each = refl
same_map {A = A} f g k (suc n) each = ap (λ (x : A). x ∷ map f (range_with_len (k + 1) n)) (each k)
    ∙ ap (λ (xs : List A). g k ∷ xs) (same_map f g (k + 1) n each)

no_more : (xs : List ℤ) → IsPrefix [] xs
no_more xs = (xs, refl)

-- what an actor took, where it is a sink, in two programs with the same kernels
abbrev list_of : Program → ℕ → List ℤ → List ℤ
list_of w a taken = cond (is_sink_kernel (get_or w.kernels a Sink)) taken []

same_list : (w v : Program) → w.kernels ≡ v.kernels → (a : ℕ) (xs ys : List ℤ) → xs ≡ ys → list_of w a xs ≡ list_of v a ys
same_list w v kernels a xs ys e = ap (list_of w a) e ∙ ap (λ (ks : List Kernel). cond (is_sink_kernel (get_or ks a Sink)) ys []) kernels

lists_in_step : (w v : Program) → w.kernels ≡ v.kernels → (a : ℕ) (xs ys : List ℤ) → AreInStep xs ys → AreInStep (list_of w a xs) (list_of v a ys)
lists_in_step w v kernels a xs ys steps =
    subst (λ (ks : List Kernel). AreInStep (list_of w a xs) (cond (is_sink_kernel (get_or ks a Sink)) ys [])) kernels
    (by (is_sink_kernel (get_or w.kernels a Sink)))
  where
    by : (is_sink : Bool) → AreInStep (cond is_sink xs []) (cond is_sink ys [])
    by true = steps
    by false = inl (no_more [])

-- a quiet core is at rest
pub at_rest : (plan : Plan) (p : Present) → IsQuiet plan p → (a : ℕ) → a < length plan.sources → stage p a ≡ Idle
unfolding IsQuiet
at_rest plan p quiet a lt = (quiet a lt).0

module _ (f : FloorView) (reads : List (List ℤ)) (b : IsBook f reads) (between : IsBetween f.core.plan f.core.now) (quiet : IsQuiet f.core.plan f.core.now)
    (o : Outcome)
    (journal : journal_in o ≡ f.journal) (sinks : feeds_in o.sinks.items ≡ f.sinks) (report : o.report.items ≡ report_on (program f.work) f.journal)
    (left : feeds_in o.left.items ≡ (present (state_of (program f.work) f.journal)).tokens)
    (ending : IsEnding f.core.plan f.core.now o.ending) where
  abbrev w : Program
  w = program f.work

  abbrev j : List Move
  j = journal_in o

  abbrev p : Present
  p = present (state_of w j)

  playable : IsPlayable w.plan
  playable = playable_program f.work.accepted f.work.feeds f.work.periods f.work.firings b.work.accepted b.work.few_firings

  honest : IsHonest w j
  honest = subst (IsHonest w) (sym journal) b.kept.honest

  now_is : f.core.now ≡ p
  now_is = b.kept.shows.same ∙ ap (λ (ms : List Move). present (state_of w ms)) (sym journal)

  at_end : (P : Plan → Present → Type 0) → P f.core.plan f.core.now → P w.plan p
  at_end P here = subst (λ (u : Plan). P u p) b.kept.plan (subst (P f.core.plan) now_is here)

  quiet_end : IsQuiet w.plan p
  quiet_end = at_end IsQuiet quiet

  between_end : IsBetween w.plan p
  between_end = at_end IsBetween between

  ending_is : IsEnding w.plan p o.ending
  ending_is = at_end (λ u q. IsEnding u q o.ending) ending

  settled : IsSettled w.plan p
  settled = record {
    quiet = quiet_end;
    open_until_over = λ c lt.
        let idle = at_rest w.plan p quiet_end (producer w.plan c) (producer_there f.work c b.work lt) in
        between_end.open_until_over c lt ∙ ap (λ (x : Stage). not (is_stage x Idle && is_over w.plan p (producer w.plan c))) idle;
  }

  sinks_are : feeds_in o.sinks.items ≡ sinks_of w j
  sinks_are = sinks ∙ b.sinks ∙ ap (sinks_of w) (sym journal)

  report_is : o.report.items ≡ report_on w j
  report_is = report ∙ ap (report_on w) (sym journal)

  left_is : feeds_in o.left.items ≡ p.tokens
  left_is = left ∙ ap (λ (ms : List Move). (present (state_of w ms)).tokens) (sym journal)

  told_is : (c : ℕ) → c < length w.plan.channels → report_at o c ≡ report_of w j c
  told_is c lt =
      let d : ChannelReport = record { written = 0; taken = 0; held = 0; peak = 0; capacity = 0; is_open = false } in
      ap (λ (rs : List ChannelReport). get_or rs c d) report_is ∙ get_or-map-range_with_len (report_of w j) 0 (length w.plan.channels) c c d lt (omega arith)

  -- ---- beside the sequential run

  -- as it
  as_run : (actors : List ℕ) → IsSequential w actors → AllSpent w.plan p ⊎ IsFree w.plan p → IsSequentialEnd w o actors
  as_run actors run why =
      let exhausted = quiet_is_exhausted w j honest quiet_end why in
      let same : IsAsSequential w j actors = ends_as_sequential w j actors honest run exhausted in
      let counts : CountsAsSequential w j actors = ends_counted w j actors playable honest run exhausted in
      record {
        sinks = sinks_are ∙ same_map (sink_of w j) (sequential_list w actors) 0 (length w.plan.sources)
            (λ a. by (is_sink_kernel (get_or w.kernels a Sink)) a (same.sinks a));
        written = λ c lt. ap (λ (r : ChannelReport). length (initial w.plan c) + r.written) (told_is c lt) ∙ counts.written c;
        taken = λ c lt. ap (λ (r : ChannelReport). r.taken) (told_is c lt) ∙ counts.taken c;
        held = λ c lt. ap (λ (r : ChannelReport). r.held) (told_is c lt) ∙ counts.held c;
        spent = counts.spent;
      }
    where
      by : (is_sink : Bool) (a : ℕ) → sink_tokens a j (replies_to w j) ≡ sequential_sink w a actors
          → cond is_sink (sink_tokens a j (replies_to w j)) [] ≡ cond is_sink (sequential_sink w a actors) []
      by true a e = e
      by false a e = refl

  -- or before its end
  before_end : (actors : List ℕ) → IsSequential w actors → IsBeforeSequentialEnd w o actors
  before_end actors run =
      let within = stays_within w j actors honest run in
      let counts = stays_counted w j actors playable honest run in
      record {
        sinks = λ a lt.
            subst (λ (xs : List ℤ). IsPrefix xs (sequential_list w actors a))
            (sym (ap (λ (ls : List (List ℤ)). get_or ls a []) sinks_are
            ∙ get_or-map-range_with_len (sink_of w j) 0 (length w.plan.sources) a a [] lt (omega arith)))
            (by (is_sink_kernel (get_or w.kernels a Sink)) a (within.sinks a));
        written = λ c lt. subst (λ (r : ChannelReport). length (initial w.plan c) + r.written ≤ length (written_in (sequential_state w actors) c))
            (sym (told_is c lt)) (counts.written c);
        taken = λ c lt. subst (λ (r : ChannelReport). r.taken ≤ taken_in (sequential_state w actors) c) (sym (told_is c lt)) (counts.taken c);
      }
    where
      by : (is_sink : Bool) (a : ℕ) → IsPrefix (sink_tokens a j (replies_to w j)) (sequential_sink w a actors)
          → IsPrefix (cond is_sink (sink_tokens a j (replies_to w j)) []) (cond is_sink (sequential_sink w a actors) [])
      by true a e = e
      by false a e = no_more []

  beside : (e : Ending) (actors : List ℕ) → IsEnding w.plan p e → IsSequential w actors → IsEndBeside w o actors e
  beside Complete actors is run = as_run actors run (inl is)
  beside Dry actors is run = as_run actors run (inr (λ a lt. ((λ e. is.1 (a, lt, e)), (λ e. is.2 (a, lt, e)))))
  beside Stopped actors is run = before_end actors run
  beside Starved actors is run = before_end actors run

  -- ---- beside a run in other room

  free_end : (e : Ending) → IsEnding w.plan p e → (e ≡ Complete) ⊎ (e ≡ Dry) → AllSpent w.plan p ⊎ IsFree w.plan p
  free_end Complete is free = inl is
  free_end Dry is free = inr (λ a lt. ((λ e. is.1 (a, lt, e)), (λ e. is.2 (a, lt, e))))
  free_end Stopped is (inl e) = absurd (cc)
  free_end Stopped is (inr e) = absurd (cc)
  free_end Starved is (inl e) = absurd (cc)
  free_end Starved is (inr e) = absurd (cc)

  as_journal : (v : Program) (other : List Move) → DifferInRoom w v → IsPlayable v.plan → IsHonest v other → o.ending ≡ Complete
      → AllSpent v.plan (present (state_of v other)) → EndsAsJournal w o v other
  as_journal v other differ playable2 honest2 is all2 =
      let all : AllSpent w.plan p = subst (IsEnding w.plan p) is ending_is in
      let same : EndAlike w v j other = do_not_show w v j other differ honest honest2 all all2 in
      let counts : CountAlike w v j other = do_not_count w v j other differ playable playable2 honest honest2 all all2 in
      record {
        sinks = sinks_are ∙ same_map (sink_of w j) (sink_of v other) 0 (length w.plan.sources)
            (λ a. same_list w v differ.alike.kernels a (sink_tokens a j (replies_to w j)) (sink_tokens a other (replies_to v other)) (same.sinks a))
            ∙ ap (λ (bs : List Bool). map (sink_of v other) (range_with_len 0 (length bs))) differ.alike.sources;
        written = λ c lt. ap (λ (r : ChannelReport). r.written) (told_is c lt) ∙ counts.written c;
        taken = λ c lt. ap (λ (r : ChannelReport). r.taken) (told_is c lt) ∙ counts.taken c;
        held = λ c lt. ap (λ (r : ChannelReport). r.held) (told_is c lt) ∙ counts.held c;
      }

  in_any_room : IsAsInAnyRoom w o
  in_any_room v other differ playable2 honest2 =
      let in_step = stay_in_step w v j other differ.alike honest honest2 in
      record {
        sinks = λ a lt.
            subst (λ (xs : List ℤ). AreInStep xs (sink_of v other a))
            (sym (ap (λ (ls : List (List ℤ)). get_or ls a []) sinks_are
            ∙ get_or-map-range_with_len (sink_of w j) 0 (length w.plan.sources) a a [] lt (omega arith)))
            (lists_in_step w v differ.alike.kernels a (sink_tokens a j (replies_to w j)) (sink_tokens a other (replies_to v other)) (in_step.sinks a));
        in_step = in_step;
        complete = as_journal v other differ playable2 honest2;
        as_far = λ less free. goes_as_far v w other j less honest2 honest (quiet_is_exhausted w j honest quiet_end (free_end o.ending ending_is free));
      }

  completes : CompletesWhereAmple f.work.accepted f.work.feeds f.work.periods f.work.firings o
  completes ample none cells =
      let v : Program = program_for f.work.accepted f.work.feeds f.work.periods None in
      let all : AllSpent v.plan (present (state_of v j)) =
      ends_complete f.work.accepted f.work.feeds f.work.periods j b.work.accepted b.work.few_firings ample
      (subst (λ (limit : Option ℕ). HasAmpleCells (program_for f.work.accepted f.work.feeds f.work.periods limit).plan) none cells)
      (subst (λ (limit : Option ℕ). IsHonest (program_for f.work.accepted f.work.feeds f.work.periods limit) j) none honest)
      (subst (λ (limit : Option ℕ). IsQuiet (program_for f.work.accepted f.work.feeds f.work.periods limit).plan
      (present (state_of (program_for f.work.accepted f.work.feeds f.work.periods limit) j))) none quiet_end) in
      one_ending v.plan (present (state_of v j)) o.ending Complete
      (subst (λ (limit : Option ℕ). IsEnding (program_for f.work.accepted f.work.feeds f.work.periods limit).plan
      (present (state_of (program_for f.work.accepted f.work.feeds f.work.periods limit) j)) o.ending) none ending_is) all

  pub outcome_is : IsOutcome f.work o
  outcome_is = record {
    honest = honest;
    settled = settled;
    order = keeps_order w.plan j playable;
    capacities = keeps_capacities w.plan j playable;
    closing = keeps_closed w.plan j playable;
    sinks = sinks_are;
    report = report_is;
    left = left_is;
    ending = ending_is;
    sequential = λ actors run. beside o.ending actors ending_is run;
    rooms = in_any_room;
    complete = completes;
  }

  pub counts_are : HasTotals (program f.work) o f.core.now.counts
  counts_are = sym (ap (λ (q : Present). q.counts) now_is)
