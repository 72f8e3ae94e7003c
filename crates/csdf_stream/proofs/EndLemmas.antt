-- A stream that goes on by a segment, that ends, and that is stopped.
use Rattle.std.proofs.Common.{◌≡◌, ℕ, ◌+◌, ◌<◌, ◌≤◌, Bool, true, false, List, [], ◌∷◌, ◌++◌, length, get_or, replicate, refl, ap, sym, subst, ◌∙◌, inl, inr, arith}
use Rattle.std.specs.Prelude.{◌⊎◌, ◌↔◌, ℤ, Option, None, Some}
use Rattle.std.specs.Io.KnownBytes.{Appends}
use Rattle.std.proofs.KnownBytes.{Appends-nil, Appends-trans}
use Rattle.std.proofs.lemmas.List.{get_or-replicate, get_or_default, length-map}
use Rattle.std.proofs.lemmas.List.Elements.{All-from_get_or}
use Rattle.std.specs.Global.{Vec}
use Rattle.csdf_bytes.specs.Device.{EmitsSome}
use Rattle.csdf_model.specs.Graph.{Graph}
use Rattle.csdf_analysis.specs.Acceptance.{Accepted, IsAccepted}
use Rattle.csdf_core.specs.State.{present}
use Rattle.csdf_floor.specs.declared.ending.Ending.{Ending}
use Rattle.csdf_floor.specs.declared.ending.Ending.TheVariants.{Complete}
use Rattle.csdf_floor.specs.Continuing.{AreExact, Segment, at_last, end_of, program_of, sink_in}
use Rattle.csdf_floor.specs.Endings.{IsEnding}
use Rattle.csdf_floor.specs.declared.outcome.ChannelReport.{ChannelReport}
use Rattle.csdf_floor.specs.Floor.{sinks_of}
use Rattle.csdf_floor.specs.Work.{AreFeeds, feed_of, feeds_in}
use Rattle.csdf_run.specs.declared.stream.Part.{Part}
use Rattle.csdf_run.specs.Streaming.{IsAsLongRun, IsPartOf, IsStretch, StandsAfter, StreamView}
use Rattle.csdf_run.specs.Causes.{IsWantAmong}
use Rattle.csdf_run.specs.Totals.{capped}
use Rattle.csdf_stream.specs.declared.end.StreamEnd.{StreamEnd}
use Rattle.csdf_stream.specs.declared.end.StreamFault.{StreamFault}
use Rattle.csdf_stream.specs.declared.end.StreamFault.TheVariants as why
use Rattle.csdf_stream.specs.declared.flow.Flow.{Flow}
use Rattle.csdf_stream.specs.declared.flow.FlowPlan.{FlowPlan}
use Rattle.csdf_stream.specs.declared.options.StreamOptions.{StreamOptions}
use Rattle.csdf_stream.specs.declared.options.TokenFormat.{TokenFormat}
use Rattle.csdf_stream.specs.declared.options.TokenFormat.TheVariants.{Text}
use Rattle.csdf_stream.specs.declared.reader.Reader.{Reader}
use Rattle.csdf_stream.specs.Feeding.{AreFull, AreRead, IsCauseAt, left_at, reader_at, source_at}
use Rattle.csdf_stream.specs.Flowing.{Devices, GoesOnTo, HasFailedAt, HasNotRun, HasRead, HasRun, HaveClipped, HaveRead, HaveWritten, IsAlike, IsBegun, IsNoneFed, IsPlanOf, IsReady, IsSegmentOf, IsUnfedBy}
use Rattle.csdf_stream.specs.Flowing.{IsStopped, IsStreamed, StopsAt, StopsBefore, devices, fed, sunk}
use Rattle.csdf_stream.specs.Lengths.{IsUsualLength}
use Rattle.csdf_stream.specs.Ports.{sinks_in, sources_in}
use Rattle.csdf_stream.specs.Reading.{Reads, fresh}
use Rattle.csdf_stream.specs.Writing.{bytes_in, clipped_in, of_sink}
use Rattle.csdf_stream.proofs.FlowLemmas.{alike_all, begun_on, bytes_more, capped_sum, clipped_more, fed_more, no_bytes, none_clipped, sunk_more, one_run}
use Rattle.csdf_stream.proofs.ReadLemmas.{reads_add, reads_none}
use Rattle.csdf_stream.proofs.StandLemmas.{IsLeft, Stands, alike_now, feeds_back, left_done, on_sinks, on_sources, sink_list}

-- the devices from the first segment to this one
abbrev pub onward : Devices → Devices → Devices
onward d now = devices d.lefts now.rests d.before now.after

-- they go on from where they stood
pub record Follow (d now : Devices) : Type 0 where
  pub rests : now.lefts ≡ d.rests
  pub after : now.before ≡ d.after

-- ---- at first

pub stands_first : (a : Accepted) (p : FlowPlan) (asked : Option ℕ) (lefts before : List (Option (List ℕ))) (flow : Flow) → StandsAfter a [] flow.stream
    → flow.stream.is_over ≡ false
    → flow.buffers.readers.items ≡ replicate (length p.sources.items) (fresh p.format)
    → flow.buffers.clipped.items ≡ replicate (length p.sinks.items) 0
    → length flow.buffers.readers.items ≡ length p.sources.items → length flow.buffers.clipped.items ≡ length p.sinks.items
    → AreFeeds a.graph (feeds_in flow.buffers.feeds.items) → IsLeft asked [] flow.left
    → Stands a p asked (devices lefts lefts before before) [] flow
stands_first a p asked lefts before flow stream goes readers clipped many counts feeds left = record {
  stream = stream;
  goes = goes;
  read = λ k lt. subst (λ (r : Reader). Reads (fresh p.format) r (left_at lefts k) (left_at lefts k) [])
      (sym (ap (λ (rs : List Reader). get_or rs k (fresh Text)) readers ∙ get_or-replicate (length p.sources.items) k (fresh p.format) (fresh Text) lt))
      (reads_none (fresh p.format) (left_at lefts k));
  written = λ k lt. subst (λ bytes. Appends (left_at before k) (left_at before k) bytes) (sym (no_bytes p.format)) (Appends-nil (left_at before k));
  clipped = λ k lt. ap (λ (ns : List ℕ). get_or ns k 0) clipped
      ∙ get_or-replicate (length p.sinks.items) k 0 0 lt
      ∙ sym (ap capped (none_clipped p.format));
  left = left;
  readers = many;
  counts = counts;
  feeds = feeds;
}

-- ---- a segment

module _ (a : Accepted) (p : FlowPlan) (asked : Option ℕ) (d now : Devices) (past : List Segment) (flow new : Flow) (part : Part) (ok : IsAccepted a)
    (ready : IsReady a p) (follow : Follow d now) (stands : Stands a p asked d past flow) (on : GoesOnTo p flow new now part) where
  abbrev pub g : Segment
  g = on.stretch.segment

  told : IsPartOf (at_last a past) on.feeds on.periods g part
  told = subst (λ (b : Accepted). IsPartOf b on.feeds on.periods g part) stands.stream.here on.stretch.told

  lists : feeds_in part.sinks.items ≡ sinks_of (program_of (at_last a past) g) g.journal
  lists = told.sinks

  list_at : (k : ℕ) → k < length p.sinks.items → of_sink p.sinks.items (feeds_in part.sinks.items) k ≡ sink_in (at_last a past) (source_at p.sinks.items k) g
  list_at k lt = sink_list (at_last a past) p.sinks.items k g (feeds_in part.sinks.items) (on_sinks a p past ok stands.stream.whole ready) lt lists

  read_on : HaveRead p.format p.sources.items (past ++ g ∷ []) new.buffers.readers.items (onward d now)
  read_on k lt =
      let s : ℕ = source_at p.sources.items k in
      subst (λ (xs : List ℤ). Reads (fresh p.format) (reader_at new.buffers.readers.items k) (left_at d.lefts k) (left_at now.rests k) xs)
      (ap (λ (fs : List (List ℤ)). fed past s ++ feed_of fs s) (sym told.feeds) ∙ sym (fed_more past g s))
      (reads_add (fresh p.format) (reader_at flow.buffers.readers.items k) (reader_at new.buffers.readers.items k)
      (left_at d.lefts k) (left_at d.rests k) (left_at now.rests k) (fed past s) (feed_of on.feeds s) (stands.read k lt)
      (subst (λ (ls : List (Option (List ℕ))). Reads (reader_at flow.buffers.readers.items k) (reader_at new.buffers.readers.items k) (left_at ls k)
      (left_at now.rests k) (feed_of on.feeds s)) follow.rests (on.read k lt)))

  written_on : HaveWritten p.format a p.sinks.items (past ++ g ∷ []) (onward d now)
  written_on k lt =
      let t : ℕ = source_at p.sinks.items k in
      let more : List ℤ = sink_in (at_last a past) t g in
      let put : Appends (left_at d.after k) (left_at now.after k) (bytes_in p.format more) =
      subst (λ (xs : List ℤ). Appends (left_at d.after k) (left_at now.after k) (bytes_in p.format xs)) (list_at k lt)
      (subst (λ (ls : List (Option (List ℕ))). Appends (left_at ls k) (left_at now.after k) (bytes_in p.format (of_sink p.sinks.items (feeds_in part.sinks.items) k)))
      follow.after (on.written k lt)) in
      subst (λ bytes. Appends (left_at d.before k) (left_at now.after k) bytes)
      (sym (bytes_more p.format (sunk a past t) more) ∙ ap (bytes_in p.format) (sym (sunk_more a past g t)))
      (Appends-trans (left_at d.before k) (left_at d.after k) (left_at now.after k) _ _ (stands.written k lt) put)

  clipped_on : HaveClipped p.format a p.sinks.items (past ++ g ∷ []) new.buffers.clipped.items
  clipped_on k lt =
      let t : ℕ = source_at p.sinks.items k in
      let more : List ℤ = sink_in (at_last a past) t g in
      on.clipped k lt
      ∙ ap (λ (n : ℕ). capped (n + clipped_in p.format (of_sink p.sinks.items (feeds_in part.sinks.items) k))) (stands.clipped k lt)
      ∙ capped_sum (clipped_in p.format (sunk a past t)) (clipped_in p.format (of_sink p.sinks.items (feeds_in part.sinks.items) k))
      ∙ ap (λ (xs : List ℤ). capped (clipped_in p.format (sunk a past t) + clipped_in p.format xs)) (list_at k lt)
      ∙ ap capped (sym (clipped_more p.format (sunk a past t) more))
      ∙ ap (λ (xs : List ℤ). capped (clipped_in p.format xs)) (sym (sunk_more a past g t))

  pub stands_next : new.stream.is_over ≡ false → IsLeft asked (past ++ g ∷ []) new.left → Stands a p asked (onward d now) (past ++ g ∷ []) new
  stands_next goes left = record {
    stream = on.stretch.stands goes a past stands.stream;
    goes = goes;
    read = read_on;
    written = written_on;
    clipped = clipped_on;
    left = left;
    readers = on.readers;
    counts = on.counts;
    feeds = feeds_back a past flow.stream.accepted (feeds_in new.buffers.feeds.items) ok stands.stream.whole stands.stream.here on.feeds_each;
  }

  -- ---- the last one

  contrary : new.stream.is_over ≡ true → part.ending ≡ Complete → AreExact (at_last a past) g.feeds g.periods → ⊥
  contrary shut complete exact =
      let just : AreExact flow.stream.accepted on.feeds on.periods =
      subst (λ (b : Accepted). AreExact b on.feeds on.periods) (sym stands.stream.here)
      (subst (λ (n : ℕ). AreExact (at_last a past) on.feeds n) told.periods
      (subst (λ (fs : List (List ℤ)). AreExact (at_last a past) fs g.periods) told.feeds exact)) in
      let goes : new.stream.is_over ≡ false = on.stretch.goes_on just complete in
      let clash : true ≡ false = sym shut ∙ goes in
      cc

  full_on : AreFull (at_last a past) g.periods p.sources.items new.buffers.readers.items now.rests g.feeds
  full_on =
      subst (λ (fs : List (List ℤ)). AreFull (at_last a past) g.periods p.sources.items new.buffers.readers.items now.rests fs) (sym told.feeds)
      (subst (λ (n : ℕ). AreFull (at_last a past) n p.sources.items new.buffers.readers.items now.rests on.feeds) (sym told.periods)
      (subst (λ (b : Accepted). AreFull b on.periods p.sources.items new.buffers.readers.items now.rests on.feeds) stands.stream.here on.full))

  pub streamed_of : (format : TokenFormat) (end : StreamEnd) → p.format ≡ format
      → (new.stream.is_over ≡ true) ⊎ (new.left ≡ Some 0)
      → end.ending ≡ part.ending → end.report ≡ part.report → end.clipped ≡ new.buffers.clipped
      → IsStreamed a format asked new.stream (onward d now) end
  streamed_of format end same done ending report clipped = record {
    past = past;
    last = g;
    readers = new.buffers.readers.items;
    whole = stands.stream.whole;
    played = told.played;
    one = one_run a past g stands.stream.whole told.played;
    run = λ actors sequential. subst (λ (e : Ending). IsAsLongRun a past g e actors) (sym ending) (on.stretch.run a past actors stands.stream sequential);
    read = subst (λ (f : TokenFormat). HaveRead f (sources_in a.graph) (past ++ g ∷ []) new.buffers.readers.items (onward d now)) same
        (subst (λ (xs : List ℕ). HaveRead p.format xs (past ++ g ∷ []) new.buffers.readers.items (onward d now)) ready.sources read_on);
    written = subst (λ (f : TokenFormat). HaveWritten f a (sinks_in a.graph) (past ++ g ∷ []) (onward d now)) same
        (subst (λ (xs : List ℕ). HaveWritten p.format a xs (past ++ g ∷ []) (onward d now)) ready.sinks written_on);
    clipped = subst (λ (ns : List ℕ). HaveClipped format a (sinks_in a.graph) (past ++ g ∷ []) ns) (ap (λ (v : Vec ℕ). v.items) (sym clipped))
        (subst (λ (f : TokenFormat). HaveClipped f a (sinks_in a.graph) (past ++ g ∷ []) new.buffers.clipped.items) same
        (subst (λ (xs : List ℕ). HaveClipped p.format a xs (past ++ g ∷ []) new.buffers.clipped.items) ready.sinks clipped_on));
    totals = on.stretch.totals a past stands.stream;
    report = ap (λ (v : Vec ChannelReport). v.items) report ∙ told.report;
    over = record {
      ends = subst (λ (e : Ending). IsEnding (program_of (at_last a past) g).plan (present (end_of (at_last a past) g)) e) (sym ending) told.ending;
      full = subst (λ (xs : List ℕ). AreFull (at_last a past) g.periods xs new.buffers.readers.items now.rests g.feeds) ready.sources full_on;
      whole = λ complete. elim done [
        | inl shut ↦ inr (contrary shut (sym ending ∙ complete))
        | inr none ↦ inl (left_done flow.stream.accepted p asked flow.left new.left past g on.periods stands.left on.segment told.periods on.left none)
      ];
    };
  }

-- ---- a fault

module _ (a : Accepted) (p : FlowPlan) (asked : Option ℕ) (d now : Devices) (past : List Segment) (flow new : Flow) (ok : IsAccepted a)
    (ready : IsReady a p) (follow : Follow d now) (stands : Stands a p asked d past flow) (format : TokenFormat) (workers : ℕ) (same : p.format ≡ format)
    (many : p.workers ≡ workers) where
  some_read : (given : ℕ → List ℤ)
      → ((k : ℕ) → k < length p.sources.items
      → Reads (reader_at flow.buffers.readers.items k) (reader_at new.buffers.readers.items k) (left_at now.lefts k) (left_at now.rests k) (given k))
      → (k : ℕ) → k < length (sources_in a.graph) → HasRead format (sources_in a.graph) past new.buffers.readers.items (onward d now) k
  some_read given read k lt =
      let there : k < length p.sources.items = subst (λ (xs : List ℕ). k < length xs) (sym ready.sources) lt in
      subst (λ (f : TokenFormat). HasRead f (sources_in a.graph) past new.buffers.readers.items (onward d now) k) same
      (subst (λ (xs : List ℕ). HasRead p.format xs past new.buffers.readers.items (onward d now) k) ready.sources (record {
        more = given k;
        read = reads_add (fresh p.format) (reader_at flow.buffers.readers.items k) (reader_at new.buffers.readers.items k)
            (left_at d.lefts k) (left_at d.rests k) (left_at now.rests k) (fed past (source_at p.sources.items k)) (given k) (stands.read k there)
            (subst (λ (ls : List (Option (List ℕ))). Reads (reader_at flow.buffers.readers.items k) (reader_at new.buffers.readers.items k) (left_at ls k)
            (left_at now.rests k) (given k)) follow.rests (read k there));
      }))

  unwritten : now.after ≡ now.before → HaveWritten format a (sinks_in a.graph) past (onward d now)
  unwritten kept k lt =
      let there : k < length p.sinks.items = subst (λ (xs : List ℕ). k < length xs) (sym ready.sinks) lt in
      subst (λ (ls : List (Option (List ℕ))). Appends (left_at d.before k) (left_at ls k) (bytes_in format (sunk a past (source_at (sinks_in a.graph) k))))
      (sym follow.after ∙ sym kept)
      (subst (λ (f : TokenFormat). Appends (left_at d.before k) (left_at d.after k) (bytes_in f (sunk a past (source_at (sinks_in a.graph) k)))) same
      (subst (λ (xs : List ℕ). Appends (left_at d.before k) (left_at d.after k) (bytes_in p.format (sunk a past (source_at xs k)))) ready.sinks
      (stands.written k there)))

  unfed_cause : (fault : StreamFault) → IsUnfedBy flow.stream.accepted p new.buffers.readers.items now.rests fault
      → (k : ℕ) × (periods : ℕ) × (k < length (sources_in (at_last a past).graph))
      × IsCauseAt (at_last a past) periods (source_at (sources_in (at_last a past).graph) k) (reader_at new.buffers.readers.items k) (left_at now.rests k) fault
  unfed_cause fault is =
      let now_sources : p.sources.items ≡ sources_in (at_last a past).graph = on_sources a p past ok stands.stream.whole ready in (
        is.0,
        is.1,
        subst (λ (xs : List ℕ). is.0 < length xs) now_sources is.2,
        subst (λ (xs : List ℕ). IsCauseAt (at_last a past) is.1 (source_at xs is.0) (reader_at new.buffers.readers.items is.0) (left_at now.rests is.0) fault)
            now_sources
            (subst (λ (b : Accepted). IsCauseAt b is.1 (source_at p.sources.items is.0) (reader_at new.buffers.readers.items is.0) (left_at now.rests is.0) fault)
            stands.stream.here is.3),
      )

  pub stopped_of : (fault : StreamFault) → StopsAt p flow new now fault → IsStopped a format workers (onward d now) fault
  stopped_of (why.Source i fault) is = record {
    past = past;
    readers = new.buffers.readers.items;
    whole = stands.stream.whole;
    read = some_read is.given is.read;
    left = unwritten is.unwritten;
    cause = unfed_cause (why.Source i fault) is.cause;
  }
  stopped_of (why.TooMany i) is = record {
    past = past;
    readers = new.buffers.readers.items;
    whole = stands.stream.whole;
    read = some_read is.given is.read;
    left = unwritten is.unwritten;
    cause = unfed_cause (why.TooMany i) is.cause;
  }
  stopped_of (why.Sink t) is =
      let g : Segment = is.stretch.segment in
      let told : IsPartOf (at_last a past) is.feeds is.periods g is.part =
      subst (λ (b : Accepted). IsPartOf b is.feeds is.periods g is.part) stands.stream.here is.stretch.told in
      let now_sinks : p.sinks.items ≡ sinks_in (at_last a past).graph = on_sinks a p past ok stands.stream.whole ready in
      record {
        past = past;
        readers = new.buffers.readers.items;
        whole = stands.stream.whole;
        read = some_read is.given is.read;
        left = (
          g,
          told.played,
          λ k lt.
              (let there : k < length p.sinks.items = subst (λ (xs : List ℕ). k < length xs) (sym ready.sinks) lt in
              let put : EmitsSome (left_at d.after k) (left_at now.after k) (bytes_in p.format (sink_in (at_last a past) (source_at p.sinks.items k) g)) =
              subst (λ (xs : List ℤ). EmitsSome (left_at d.after k) (left_at now.after k) (bytes_in p.format xs))
              (sink_list (at_last a past) p.sinks.items k g (feeds_in is.part.sinks.items) now_sinks there told.sinks)
              (subst (λ (ls : List (Option (List ℕ))). EmitsSome (left_at ls k) (left_at now.after k)
              (bytes_in p.format (of_sink p.sinks.items (feeds_in is.part.sinks.items) k))) follow.after (is.begun k there)) in
              subst (λ (f : TokenFormat). IsBegun (left_at d.before k) (left_at now.after k) (bytes_in f (sunk a past (source_at (sinks_in a.graph) k)))
              (bytes_in f (sink_in (at_last a past) (source_at (sinks_in a.graph) k) g))) same
              (subst (λ (xs : List ℕ). IsBegun (left_at d.before k) (left_at now.after k) (bytes_in p.format (sunk a past (source_at xs k)))
              (bytes_in p.format (sink_in (at_last a past) (source_at xs k) g))) ready.sinks
              (begun_on (left_at d.before k) (left_at d.after k) (left_at now.after k) _ _ (stands.written k there) put))),
        );
        cause = (
          is.sink.0,
          subst (λ (xs : List ℕ). is.sink.0 < length xs) now_sinks is.sink.1,
          ap (λ (xs : List ℕ). get_or xs is.sink.0 0) (sym now_sinks) ∙ is.sink.2,
        );
      }
  stopped_of (why.Run fault) is = record {
    past = past;
    readers = new.buffers.readers.items;
    whole = stands.stream.whole;
    read = some_read is.given is.read;
    left = unwritten is.unwritten;
    cause = subst (λ (n : ℕ). IsWantAmong n fault) many is.cause;
  }
  stopped_of why.Memory is = record {
    past = past;
    readers = new.buffers.readers.items;
    whole = stands.stream.whole;
    read = some_read is.given is.read;
    left = unwritten is.unwritten;
    cause = tt;
  }

-- ---- as the code goes on

pub fed_none : (g : Graph) (feeds : List (Vec ℤ)) → length feeds ≡ length g.actors → IsNoneFed (feeds_in feeds) → AreFeeds g (feeds_in feeds)
fed_none g feeds many none = record {
  each_actor = length-map feeds (λ (v : Vec ℤ). v.items) ∙ many;
  short = All-from_get_or (λ (feed : List ℤ). length feed ≤ 1000000) (feeds_in feeds) []
      (λ i lt. subst (λ (xs : List ℤ). length xs ≤ 1000000) (sym (none i)) (omega arith));
  only_sources = λ i other. none i;
}

pub read_clear : (sources : List ℕ) (rs0 rs ss ss0 : List Reader) (ls ms : List (Option (List ℕ))) (fs gs hs : List (List ℤ)) → AreRead sources rs ss ls ms fs gs
    → IsNoneFed fs → rs ≡ rs0 → ss ≡ ss0 → gs ≡ hs → (k : ℕ) → k < length sources
    → Reads (reader_at rs0 k) (reader_at ss0 k) (left_at ls k) (left_at ms k) (feed_of hs (source_at sources k))
read_clear sources rs0 rs ss ss0 ls ms fs gs hs read none old new same k lt =
    let here = read k lt in
    let given : here.given ≡ feed_of gs (source_at sources k) =
    sym (here.fed ∙ ap (λ (xs : List ℤ). xs ++ here.given) (none (source_at sources k))) in
    subst (λ (xs : List Reader). Reads (reader_at xs k) (reader_at ss0 k) (left_at ls k) (left_at ms k) (feed_of hs (source_at sources k))) old
    (subst (λ (xs : List Reader). Reads (reader_at rs k) (reader_at xs k) (left_at ls k) (left_at ms k) (feed_of hs (source_at sources k))) new
    (subst (λ (xs : List ℤ). Reads (reader_at rs k) (reader_at ss k) (left_at ls k) (left_at ms k) xs)
    (given ∙ ap (λ (fs : List (List ℤ)). feed_of fs (source_at sources k)) same) here.read))

pub stops_unfed : (p : FlowPlan) (old new : Flow) (d : Devices) (fault : StreamFault) → new.stream ≡ old.stream → (given : ℕ → List ℤ)
    → ((k : ℕ) → k < length p.sources.items
    → Reads (reader_at old.buffers.readers.items k) (reader_at new.buffers.readers.items k) (left_at d.lefts k) (left_at d.rests k) (given k))
    → d.after ≡ d.before → IsUnfedBy old.stream.accepted p new.buffers.readers.items d.rests fault → StopsAt p old new d fault
stops_unfed p old new d (why.Source i fault) same given read kept is =
    record { stream = same; given = given; read = read; unwritten = kept; cause = is }
stops_unfed p old new d (why.TooMany i) same given read kept is =
    record { stream = same; given = given; read = read; unwritten = kept; cause = is }
stops_unfed p old new d (why.Sink t) same given read kept is = absurd is.3
stops_unfed p old new d (why.Run fault) same given read kept is = absurd is.3
stops_unfed p old new d why.Memory same given read kept is = absurd is.3

-- ---- a segment that was read, and then run

-- a flow whose tokens were read
abbrev pub read_flow : Flow → Vec Reader → Vec (Vec ℤ) → Flow
read_flow old readers feeds = record {
  stream = old.stream;
  buffers = record { readers = readers; feeds = feeds; clipped = old.buffers.clipped };
  left = old.left;
}

-- the readers have given these tokens
abbrev HaveGiven : FlowPlan → Flow → Vec Reader → Devices → (ℕ → List ℤ) → Type 0
HaveGiven p old readers d given =
    (k : ℕ) → k < length p.sources.items → Reads (reader_at old.buffers.readers.items k) (reader_at readers.items k) (left_at d.lefts k) (left_at d.rests k) (given k)

pub goes_on_run : (p : FlowPlan) (old new : Flow) (rs : Vec Reader) (fs : Vec (Vec ℤ)) (d : Devices) (periods : ℕ) (part : Part)
    → IsSegmentOf old.stream.accepted p old.left periods
    → HaveGiven p old rs d (λ k. feed_of (feeds_in fs.items) (source_at p.sources.items k))
    → AreFull old.stream.accepted periods p.sources.items rs.items d.rests (feeds_in fs.items)
    → length rs.items ≡ length p.sources.items → new.buffers.readers ≡ rs → HasRun p (read_flow old rs fs) new periods d.before d.after part → GoesOnTo p old new d part
goes_on_run p old new rs fs d periods part segment read full many same run = record {
  periods = periods;
  feeds = feeds_in fs.items;
  segment = segment;
  stretch = run.stretch;
  read = subst (λ (xs : Vec Reader). HaveGiven p old xs d (λ k. feed_of (feeds_in fs.items) (source_at p.sources.items k))) (sym same) read;
  full = subst (λ (xs : Vec Reader). AreFull old.stream.accepted periods p.sources.items xs.items d.rests (feeds_in fs.items)) (sym same) full;
  written = run.written;
  clipped = run.clipped;
  left = run.left;
  readers = ap (λ (xs : Vec Reader). length xs.items) same ∙ many;
  counts = run.counts;
  feeds_each = run.feeds_each;
}

pub stops_run : (p : FlowPlan) (old new : Flow) (rs : Vec Reader) (fs : Vec (Vec ℤ)) (d : Devices) (periods : ℕ) (fault : StreamFault)
    → HaveGiven p old rs d (λ k. feed_of (feeds_in fs.items) (source_at p.sources.items k)) → new.buffers.readers ≡ rs
    → HasNotRun p (read_flow old rs fs) new periods d.before d.after fault → StopsAt p old new d fault
stops_run p old new rs fs d periods (why.Sink t) read same not = record {
  periods = periods;
  feeds = feeds_in fs.items;
  part = not.part;
  stretch = not.stretch;
  given = λ k. feed_of (feeds_in fs.items) (source_at p.sources.items k);
  read = subst (λ (xs : Vec Reader). HaveGiven p old xs d (λ k. feed_of (feeds_in fs.items) (source_at p.sources.items k))) (sym same) read;
  begun = not.begun;
  sink = not.sink;
}
stops_run p old new rs fs d periods (why.Run fault) read same not = record {
  stream = not.0;
  given = λ k. feed_of (feeds_in fs.items) (source_at p.sources.items k);
  read = subst (λ (xs : Vec Reader). HaveGiven p old xs d (λ k. feed_of (feeds_in fs.items) (source_at p.sources.items k))) (sym same) read;
  unwritten = not.1;
  cause = not.2;
}
stops_run p old new rs fs d periods (why.Source i fault) read same not = absurd not
stops_run p old new rs fs d periods (why.TooMany i) read same not = absurd not
stops_run p old new rs fs d periods why.Memory read same not = absurd not

-- ---- a plan

pub plan_ready : (a : Accepted) (options : StreamOptions) (p : FlowPlan) → IsPlanOf a options p → IsReady a p
plan_ready a options p is = record {
  sources = is.sources;
  sinks = is.sinks;
  some_worker = subst (λ (n : ℕ). 1 ≤ n) (sym is.workers) options.some_worker;
  few_workers = subst (λ (n : ℕ). n ≤ 8) (sym is.workers) options.few_workers;
  some_usual = some;
  some_last = (let e = is.last.2 in let one = some in omega (arith, e, one));
  few_usual = is.few_usual;
  few_last = is.few_last;
}
  where
    by : (segment : Option ℕ) → IsUsualLength a p.sources.items segment p.usual → 1 ≤ p.usual
    by None usual = (let e = usual.2 in omega (arith, e))
    by (Some n) usual = (let e = usual.2 in omega (arith, e))

    some : 1 ≤ p.usual
    some = by options.segment is.usual

-- ---- the first sink whose device failed

pub sink_found : (xs ys : List ℕ) (t : ℕ) → xs ≡ ys → (k : ℕ) × (k < length xs) × (get_or xs k t ≡ t) → (k : ℕ) × (k < length ys) × (source_at ys k ≡ t)
sink_found xs ys t same found = (
  found.0,
  subst (λ (zs : List ℕ). found.0 < length zs) same found.1,
  subst (λ (zs : List ℕ). get_or zs found.0 0 ≡ t) same (get_or_default xs found.0 0 t found.1 ∙ found.2),
)

-- ---- memory ran out before the first segment

pub stopped_first : (a : Accepted) (format : TokenFormat) (workers : ℕ) (lefts before : List (Option (List ℕ)))
    → IsStopped a format workers (devices lefts lefts before before) why.Memory
stopped_first a format workers lefts before = record {
  past = [];
  readers = replicate (length (sources_in a.graph)) (fresh format);
  whole = tt;
  read = λ k lt. record {
    more = [];
    read = subst (λ (r : Reader). Reads (fresh format) r (left_at lefts k) (left_at lefts k) [])
        (sym (get_or-replicate (length (sources_in a.graph)) k (fresh format) (fresh Text) lt)) (reads_none (fresh format) (left_at lefts k));
  };
  left = λ k lt. subst (λ bytes. Appends (left_at before k) (left_at before k) bytes) (sym (no_bytes format)) (Appends-nil (left_at before k));
  cause = tt;
}

-- ---- the graph of a stream stays alike

module _ (a : Accepted) (p : FlowPlan) (asked : Option ℕ) (d : Devices) (past : List Segment) (flow : Flow) (ok : IsAccepted a) (ready : IsReady a p)
    (stands : Stands a p asked d past flow) where
  alike_by : (new : StreamView) (feeds : List (List ℤ)) (periods : ℕ) (part : Part) → IsStretch flow.stream feeds periods new part → (b : Bool) → new.is_over ≡ b
      → IsAlike a new.accepted
  alike_by new feeds periods part on true shut =
      subst (λ (b : Accepted). IsAlike a b) (sym (on.over shut)) (alike_now a p asked d past flow ok ready stands)
  alike_by new feeds periods part on false goes =
      let next = on.stands goes a past stands.stream in
      subst (λ (b : Accepted). IsAlike a b) (sym next.here) (alike_all a (past ++ on.segment ∷ []) ok next.whole)

  pub alike_on : (new : Flow) (now : Devices) (part : Part) → GoesOnTo p flow new now part → IsAlike a new.stream.accepted
  alike_on new now part on = alike_by new.stream on.feeds on.periods part on.stretch new.stream.is_over refl

  alike_before : (new : Flow) (now : Devices) (C : Type 0) → StopsBefore p flow new now C → IsAlike a new.stream.accepted
  alike_before new now C is =
      subst (λ (s : StreamView). IsAlike a s.accepted) (sym is.stream) (alike_now a p asked d past flow ok ready stands)

  pub alike_stopped : (new : Flow) (now : Devices) (fault : StreamFault) → StopsAt p flow new now fault → IsAlike a new.stream.accepted
  alike_stopped new now (why.Source i fault) is = alike_before new now _ is
  alike_stopped new now (why.TooMany i) is = alike_before new now _ is
  alike_stopped new now (why.Sink t) is = alike_by new.stream is.feeds is.periods is.part is.stretch new.stream.is_over refl
  alike_stopped new now (why.Run fault) is = alike_before new now _ is
  alike_stopped new now why.Memory is = alike_before new now _ is

-- ---- not done yet

pub not_over : (r over : Bool) (B : Type 0) → (r ≡ true) ↔ ((over ≡ true) ⊎ B) → r ≡ false → over ≡ false
not_over r true B tells not_so = absurd (let yes = tells.1 (inl refl) in let clash : true ≡ false = sym yes ∙ not_so in cc)
not_over r false B tells not_so = refl

pub not_last : (r : Bool) (A B : Type 0) → (r ≡ true) ↔ (A ⊎ B) → r ≡ false → B → ⊥
not_last r A B tells not_so b = (let yes = tells.1 (inr b) in let clash : true ≡ false = sym yes ∙ not_so in absurd (cc))
