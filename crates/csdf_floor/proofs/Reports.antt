-- What is told of each channel at the end of a journal.
use Rattle.std.proofs.Common.{◌≡◌, ℕ, zero, suc, ◌+◌, ◌<◌, Bool, List, [], ◌∷◌, length, map, get_or, refl, ap, sym, subst, ◌∙◌, arith}
use Rattle.std.specs.Prelude.{ℤ}
use Rattle.std.proofs.lemmas.List.{get_or-map}
use Rattle.csdf_model.specs.Rates.{total}
use Rattle.csdf_core.specs.declared.stage.Stage.TheVariants.{Idle}
use Rattle.csdf_core.specs.Plan.{Channel, consume_at, produce_at, to_at}
use Rattle.csdf_core.specs.Playable.{IsPlayable}
use Rattle.csdf_core.specs.State.{State, Stream, Present, present}
use Rattle.csdf_core.specs.Headline.{capacity_of}
use Rattle.csdf_core.specs.Ports.{tokens_at}
use Rattle.csdf_core.specs.Step.{count, is_open, stage, producer}
use Rattle.csdf_core.specs.Streams.{initial, part, tokens_taken, written_to}
use Rattle.csdf_core.proofs.Peaks.{peaks_from_opening}
use Rattle.csdf_core.proofs.Booked.{idle_at}
use Rattle.csdf_core.proofs.FiringCounts.{put, got, begun, put_at, got_at}
use Rattle.csdf_core.proofs.Tallies.{AreTallied}
use Rattle.csdf_floor.specs.Floor.{FloorView}
use Rattle.csdf_floor.specs.Inside.{IsBook}
use Rattle.csdf_floor.specs.Journal.{Program, replies_to, state_of}
use Rattle.csdf_floor.specs.declared.outcome.ChannelReport.{ChannelReport}
use Rattle.csdf_floor.specs.Outcome.{report_of}
use Rattle.csdf_floor.specs.Laws.{written_in, taken_in}
use Rattle.csdf_floor.specs.Work.{program}
use Rattle.csdf_floor.proofs.Bounds.{faithful_end}
use Rattle.csdf_floor.proofs.Counted.{written_is, taken_is}
use Rattle.csdf_floor.proofs.Works.{ends_there, playable_program}

abbrev report : ℕ → ℕ → ℕ → ℕ → ℕ → Bool → ChannelReport
report a b c d e o = record { written = a; taken = b; held = c; peak = d; capacity = e; is_open = o }

-- reports with the same fields
same_report : (one two : ChannelReport) → one.written ≡ two.written → one.taken ≡ two.taken → one.held ≡ two.held → one.peak ≡ two.peak
    → one.capacity ≡ two.capacity → one.is_open ≡ two.is_open → one ≡ two
same_report one two written taken held peak capacity opened =
    ap (λ n. report n one.taken one.held one.peak one.capacity one.is_open) written
    ∙ ap (λ n. report two.written n one.held one.peak one.capacity one.is_open) taken
    ∙ ap (λ n. report two.written two.taken n one.peak one.capacity one.is_open) held
    ∙ ap (λ n. report two.written two.taken two.held n one.capacity one.is_open) peak
    ∙ ap (λ n. report two.written two.taken two.held two.peak n one.is_open) capacity
    ∙ ap (report two.written two.taken two.held two.peak two.capacity) opened

-- how many tokens were written to a channel and taken from it, by the firings of its ends
tallied_at : (put got begun : ℕ → ℕ) (cs : List Channel) (sts : List Stream) (c : ℕ) (d : Channel) → AreTallied put got begun cs sts → length sts ≡ length cs
    → c < length cs
    → (length (part c (map (λ (stream : Stream). stream.written) sts)) ≡ length (get_or cs c d).initial
    + total (get_or cs c d).produce (put (get_or cs c d).from))
    × (get_or (map (λ (stream : Stream). stream.taken) sts) c 0 ≡ total (get_or cs c d).consume (got (get_or cs c d).to))
tallied_at put got begun [] sts c d all len lt = absurd (omega arith)
tallied_at put got begun (ch ∷ cs) [] c d all len lt = absurd (omega arith)
tallied_at put got begun (ch ∷ cs) (st ∷ sts) zero d all len lt = (all.0.written, all.0.taken)
tallied_at put got begun (ch ∷ cs) (st ∷ sts) (suc c) d all len lt = tallied_at put got begun cs sts c d all.1 (omega arith) (omega arith)

module _ (f : FloorView) (reads : List (List ℤ)) (b : IsBook f reads) (idle : (a : ℕ) → a < length f.core.plan.sources
    → stage f.core.now a ≡ Idle) (c : ℕ) (lt : c < length f.core.plan.channels) where
  abbrev w : Program
  w = program f.work

  abbrev s : State
  s = state_of w f.journal

  abbrev d : Channel
  d = record { from = 0; to = 0; produce = []; consume = []; initial = []; capacity = 0 }

  abbrev ch : Channel
  ch = get_or w.plan.channels c d

  there : c < length w.plan.channels
  there = subst (λ u. c < length u.channels) b.kept.plan lt

  playable : IsPlayable w.plan
  playable = playable_program f.work.accepted f.work.feeds f.work.periods f.work.firings b.work.accepted b.work.few_firings

  at_rest : (a : ℕ) → a < length w.plan.sources → stage (present s) a ≡ Idle
  at_rest a near = ap (λ (p : Present). stage p a) (sym b.kept.shows.same) ∙ idle a (subst (λ u. a < length u.sources) (sym b.kept.plan) near)

  counted : (a : ℕ) → count (present s) a ≡ count f.core.now a
  counted a = ap (λ (p : Present). count p a) (sym b.kept.shows.same)

  -- how often the channel's producer and its consumer have fired
  abbrev fired_from : ℕ
  fired_from = count f.core.now (producer w.plan c)

  abbrev fired_to : ℕ
  fired_to = count f.core.now (to_at w.plan.channels c)

  from_is : producer w.plan c ≡ ch.from
  from_is = get_or-map (λ (e : Channel). e.from) w.plan.channels c d 0 there

  to_is : to_at w.plan.channels c ≡ ch.to
  to_is = get_or-map (λ (e : Channel). e.to) w.plan.channels c d 0 there

  produce_is : produce_at w.plan.channels c ≡ ch.produce
  produce_is = get_or-map (λ (e : Channel). e.produce) w.plan.channels c d [] there

  consume_is : consume_at w.plan.channels c ≡ ch.consume
  consume_is = get_or-map (λ (e : Channel). e.consume) w.plan.channels c d [] there

  first_is : length (initial w.plan c) ≡ length ch.initial
  first_is = ap length (get_or-map (λ (e : Channel). e.initial) w.plan.channels c d [] there)

  tallied : (length (written_in s c) ≡ length ch.initial + total ch.produce (put s.counts s.stages ch.from))
      × (taken_in s c ≡ total ch.consume (got s.counts s.stages ch.to))
  tallied =
      let booked = (faithful_end w f.journal b.kept.honest).booked in
      tallied_at (put s.counts s.stages) (got s.counts s.stages) (begun s.counts s.stages) w.plan.channels s.streams c d booked.tallied booked.streamed there

  pub written_told : total (produce_at w.plan.channels c) fired_from ≡ length (written_to w.plan c f.journal (replies_to w f.journal))
  written_told =
      let ends = ends_there f.work c d b.work there in
      let n : put s.counts s.stages ch.from ≡ fired_from = idle_at put_at s ch.from (at_rest ch.from ends.0) (λ k. refl)
      ∙ counted ch.from ∙ ap (count f.core.now) (sym from_is) in
      let all : length (written_in s c) ≡ length ch.initial + total ch.produce fired_from = tallied.0
      ∙ ap (λ k. length ch.initial + total ch.produce k) n in
      let told = written_is w f.journal c playable in
      let own : total (produce_at w.plan.channels c) fired_from ≡ total ch.produce fired_from =
      ap (λ (rates : List ℕ). total rates fired_from) produce_is in
      let first = first_is in
      omega (arith, all, told, own, first)

  pub taken_told : total (consume_at w.plan.channels c) fired_to ≡ length (tokens_taken w.plan c f.journal (replies_to w f.journal))
  taken_told =
      let ends = ends_there f.work c d b.work there in
      let n : got s.counts s.stages ch.to ≡ fired_to = idle_at got_at s ch.to (at_rest ch.to ends.1) (λ k. refl) ∙ counted ch.to
      ∙ ap (count f.core.now) (sym to_is) in
      ap (λ (rates : List ℕ). total rates fired_to) consume_is
      ∙ ap (total ch.consume) (sym n)
      ∙ sym tallied.1
      ∙ sym (taken_is w f.journal c playable)

  -- all that is told of the channel
  pub as_told : (r : ChannelReport) → r.written ≡ total (produce_at w.plan.channels c) fired_from
      → r.taken ≡ total (consume_at w.plan.channels c) fired_to
      → r.held ≡ length (tokens_at f.core.now.tokens c) → r.peak ≡ get_or f.core.peaks c 0 → r.capacity ≡ capacity_of w.plan c
      → r.is_open ≡ is_open f.core.now c
      → r ≡ report_of w f.journal c
  as_told r written taken held peak capacity opened =
      same_report r (report_of w f.journal c) (written ∙ written_told) (taken ∙ taken_told)
      (held ∙ ap (λ (p : Present). length (tokens_at p.tokens c)) b.kept.shows.same)
      (peak ∙ ap (λ (ps : List ℕ). get_or ps c 0) b.peaks ∙ peaks_from_opening w.plan c f.journal playable)
      capacity
      (opened ∙ ap (λ (p : Present). is_open p c) b.kept.shows.same)
