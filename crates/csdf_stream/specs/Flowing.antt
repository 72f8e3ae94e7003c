-- A stream, from the devices of its sources to those of its sinks.
use Rattle.std.specs.Prelude.{◌≡◌, ◌⊎◌, ◌<◌, ◌≤◌, ℕ, List, [], ◌∷◌, ◌++◌, ℤ, Option, Some, length, map, take, slice_index_or}
use Rattle.std.specs.Io.KnownBytes.{Appends}
use Rattle.csdf_model.specs.Graph.{Channel}
use Rattle.csdf_analysis.specs.Acceptance.{Accepted}
use Rattle.csdf_core.specs.State.{present}
use Rattle.csdf_floor.specs.declared.ending.Ending.{Ending}
use Rattle.csdf_floor.specs.declared.ending.Ending.TheVariants.{Complete}
use Rattle.csdf_floor.specs.Continuing.{AreExact, AreWhole, IsPlayed, Segment, at_last, beyond, end_of, feeds_of, long_run, periods_of, program_of, sink_in, sink_in_all}
use Rattle.csdf_floor.specs.Endings.{IsEnding}
use Rattle.csdf_floor.specs.Outcome.{report_on}
use Rattle.csdf_floor.specs.Sequential.{IsSequential}
use Rattle.csdf_floor.specs.Work.{AreFeeds, HasFewFirings, feed_of, feeds_in}
use Rattle.csdf_run.specs.Causes.{IsWantAmong}
use Rattle.csdf_run.specs.declared.stream.Part.{Part}
use Rattle.csdf_run.specs.Streaming.{IsAsLongRun, IsStretch, StreamView}
use Rattle.csdf_run.specs.Totals.{capped, totals_of}
use Rattle.csdf_stream.specs.declared.end.StreamEnd.{StreamEnd}
use Rattle.csdf_stream.specs.declared.end.StreamFault.{StreamFault}
use Rattle.csdf_stream.specs.declared.end.StreamFault.TheVariants as why
use Rattle.csdf_stream.specs.declared.flow.Buffers.{Buffers}
use Rattle.csdf_stream.specs.declared.flow.Flow.{Flow}
use Rattle.csdf_stream.specs.declared.flow.FlowPlan.{FlowPlan}
use Rattle.csdf_stream.specs.declared.options.StreamOptions.{StreamOptions}
use Rattle.csdf_stream.specs.declared.options.TokenFormat.{TokenFormat}
use Rattle.csdf_stream.specs.declared.reader.Reader.{Reader}
use Rattle.csdf_stream.specs.Feeding.{AreFull, IsCauseAt, left_at, reader_at, source_at}
use Rattle.csdf_stream.specs.Lengths.{IsLastLength, IsUsualLength, left_after, shortest}
use Rattle.csdf_stream.specs.Ports.{sinks_in, sources_in}
use Rattle.csdf_stream.specs.Reading.{Reads, fresh}
use Rattle.csdf_stream.specs.Writing.{AreBegun, AreClipped, AreWritten, bytes_in, clipped_in}

-- ---- devices

-- what the sources' devices had left before and after, and what the sinks' devices had taken before and after, where it is known
pub record Devices : Type 0 where
  pub lefts : List (Option (List ℕ))
  pub rests : List (Option (List ℕ))
  pub before : List (Option (List ℕ))
  pub after : List (Option (List ℕ))

abbrev pub devices : List (Option (List ℕ)) → List (Option (List ℕ)) → List (Option (List ℕ)) → List (Option (List ℕ)) → Devices
devices lefts rests before after = record { lefts = lefts; rests = rests; before = before; after = after }

-- ---- all segments so far

-- all tokens for an actor
abbrev pub fed : List Segment → ℕ → List ℤ
fed [] i = []
fed (g ∷ more) i = feed_of g.feeds i ++ fed more i

-- all that a sink took
abbrev pub sunk : Accepted → List Segment → ℕ → List ℤ
sunk a [] t = []
sunk a (g ∷ more) t = sink_in a t g ++ sunk (beyond a g) more t

-- these are the first tokens of the sources' devices, in a format: those of all segments, and then these more
pub record HasRead (format : TokenFormat) (sources : List ℕ) (past : List Segment) (readers : List Reader) (d : Devices) (k : ℕ) : Type 0 where
  pub more : List ℤ
  pub read : Reads (fresh format) (reader_at readers k) (left_at d.lefts k) (left_at d.rests k) (fed past (source_at sources k) ++ more)

-- the tokens of all segments, and no more
abbrev pub HaveRead : TokenFormat → List ℕ → List Segment → List Reader → Devices → Type 0
HaveRead format sources past readers d =
    (k : ℕ) → k < length sources → Reads (fresh format) (reader_at readers k) (left_at d.lefts k) (left_at d.rests k) (fed past (source_at sources k))

-- the sinks' devices have what the sinks took in all segments
abbrev pub HaveWritten : TokenFormat → Accepted → List ℕ → List Segment → Devices → Type 0
HaveWritten format a sinks past d =
    (k : ℕ) → k < length sinks → Appends (left_at d.before k) (left_at d.after k) (bytes_in format (sunk a past (source_at sinks k)))

-- and so many of them are none of the format
abbrev pub HaveClipped : TokenFormat → Accepted → List ℕ → List Segment → List ℕ → Type 0
HaveClipped format a sinks past clipped =
    (k : ℕ) → k < length sinks → slice_index_or clipped k 0 ≡ capped (clipped_in format (sunk a past (source_at sinks k)))

-- a beginning of some bytes more was written too
pub record IsBegun (before after : Option (List ℕ)) (whole more : List ℕ) : Type 0 where
  pub count : ℕ
  pub within : count ≤ length more
  pub put : Appends before after (whole ++ take count more)

-- ---- the whole stream

-- all the periods that are asked for
abbrev pub AreAllPeriods : Option ℕ → ℕ → Type 0
AreAllPeriods asked n = asked ≡ Some n

-- put end to end, the tokens of all segments are those of the long run, and what a sink took in each is what it took in all
pub record AreOneRun (a : Accepted) (past : List Segment) (last : Segment) : Type 0 where
  pub fed_alike : (i : ℕ) → fed (past ++ last ∷ []) i ≡ feed_of (feeds_of past last) i
  pub sunk_alike : (t : ℕ) → sunk a (past ++ last ∷ []) t ≡ sink_in_all a t past last

-- why no firing follows: all the periods that are asked for were run; or a source's device has no more tokens; or the segment ended otherwise
pub record IsOver (asked : Option ℕ) (a : Accepted) (past : List Segment) (last : Segment) (ending : Ending) (readers : List Reader) (d : Devices) : Type 0 where
  pub ends : IsEnding (program_of (at_last a past) last).plan (present (end_of (at_last a past) last)) ending
  pub full : AreFull (at_last a past) last.periods (sources_in a.graph) readers d.rests last.feeds
  pub whole : ending ≡ Complete → AreAllPeriods asked (periods_of past last) ⊎ (AreExact (at_last a past) last.feeds last.periods → ⊥)

-- the stream was run: in segments, of which all but the last were played whole; what the sinks took in them is a front of what they take in the one long run,
-- and the same where the last one ends complete or dry; their tokens are the first of the sources' devices, and the sinks' devices have what the sinks took
pub record IsStreamed (a : Accepted) (format : TokenFormat) (asked : Option ℕ) (stream : StreamView) (d : Devices) (end : StreamEnd) : Type 0 where
  pub past : List Segment
  pub last : Segment
  pub readers : List Reader
  pub whole : AreWhole a past
  pub played : IsPlayed (at_last a past) last
  pub one : AreOneRun a past last
  pub run : (actors : List ℕ) → IsSequential (long_run a past last) actors → IsAsLongRun a past last end.ending actors
  pub read : HaveRead format (sources_in a.graph) (past ++ last ∷ []) readers d
  pub written : HaveWritten format a (sinks_in a.graph) (past ++ last ∷ []) d
  pub clipped : HaveClipped format a (sinks_in a.graph) (past ++ last ∷ []) end.clipped.items
  pub totals : stream.totals ≡ totals_of a (past ++ last ∷ [])
  pub report : end.report.items ≡ report_on (program_of (at_last a past) last) last.journal
  pub over : IsOver asked a past last end.ending readers d

-- ---- a fault

-- what the sinks' devices have: the tokens of all segments before; where one of them failed, beginnings of those of one segment more
abbrev pub HaveLeft : TokenFormat → Accepted → List ℕ → List Segment → Devices → StreamFault → Type 0
HaveLeft format a sinks past d (why.Sink t) =
    (last : Segment) × IsPlayed (at_last a past) last × ((k : ℕ) → k < length sinks
    → IsBegun (left_at d.before k) (left_at d.after k) (bytes_in format (sunk a past (source_at sinks k))) (bytes_in format (sink_in (at_last a past) (source_at sinks k) last)))
HaveLeft format a sinks past d _ = HaveWritten format a sinks past d

-- why a stream is stopped: a source's tokens did not come, a sink's device failed, a segment was not run, or memory ran out
abbrev pub IsCauseOf : Accepted → ℕ → List Reader → Devices → StreamFault → Type 0
IsCauseOf a workers readers d (why.Source i fault) =
    (k : ℕ) × (periods : ℕ) × (k < length (sources_in a.graph)) × IsCauseAt a periods (source_at (sources_in a.graph) k) (reader_at readers k) (left_at d.rests k) (why.Source i fault)
IsCauseOf a workers readers d (why.TooMany i) =
    (k : ℕ) × (periods : ℕ) × (k < length (sources_in a.graph)) × IsCauseAt a periods (source_at (sources_in a.graph) k) (reader_at readers k) (left_at d.rests k) (why.TooMany i)
IsCauseOf a workers readers d (why.Sink t) = (k : ℕ) × (k < length (sinks_in a.graph)) × (source_at (sinks_in a.graph) k ≡ t)
IsCauseOf a workers readers d (why.Run fault) = IsWantAmong workers fault
IsCauseOf a workers readers d why.Memory = Unit {0}

pub record IsStopped (a : Accepted) (format : TokenFormat) (workers : ℕ) (d : Devices) (fault : StreamFault) : Type 0 where
  pub past : List Segment
  pub readers : List Reader
  pub whole : AreWhole a past
  pub read : (k : ℕ) → k < length (sources_in a.graph) → HasRead format (sources_in a.graph) past readers d k
  pub left : HaveLeft format a (sinks_in a.graph) past d fault
  pub cause : IsCauseOf (at_last a past) workers readers d fault

-- ---- as the code goes

-- the names, the actors and how often they fire in a period are those of the other graph
pub record IsAlike (a b : Accepted) : Type 0 where
  pub actors : b.graph.actors ≡ a.graph.actors
  pub names : map (λ (c : Channel). c.name) b.graph.channels ≡ map (λ (c : Channel). c.name) a.graph.channels
  pub firings : b.q ≡ a.q

pub record IsPlanOf (a : Accepted) (options : StreamOptions) (p : FlowPlan) : Type 0 where
  pub sources : p.sources.items ≡ sources_in a.graph
  pub sinks : p.sinks.items ≡ sinks_in a.graph
  pub workers : p.workers ≡ options.workers
  pub format : p.format ≡ options.format
  pub usual : IsUsualLength a p.sources.items options.segment p.usual
  pub last : IsLastLength a p.sources.items p.usual p.last
  pub few_usual : HasFewFirings a p.usual
  pub few_last : HasFewFirings a p.last

-- a plan that fits the graph
pub record IsReady (a : Accepted) (p : FlowPlan) : Type 0 where
  pub sources : p.sources.items ≡ sources_in a.graph
  pub sinks : p.sinks.items ≡ sinks_in a.graph
  pub some_worker : 1 ≤ p.workers
  pub few_workers : p.workers ≤ 8
  pub some_usual : 1 ≤ p.usual
  pub some_last : 1 ≤ p.last
  pub few_usual : HasFewFirings a p.usual
  pub few_last : HasFewFirings a p.last

pub record AreBuffersFor (a : Accepted) (p : FlowPlan) (b : Buffers) : Type 0 where
  pub readers : length b.readers.items ≡ length p.sources.items
  pub fed : AreFeeds a.graph (feeds_in b.feeds.items)
  pub clipped : length b.clipped.items ≡ length p.sinks.items

abbrev pub IsNoneFed : List (List ℤ) → Type 0
IsNoneFed feeds = (i : ℕ) → feed_of feeds i ≡ []

-- a length of a segment: the usual one or that of the last, or what is left
pub record IsSegmentOf (a : Accepted) (p : FlowPlan) (left : Option ℕ) (n : ℕ) : Type 0 where
  pub some : 1 ≤ n
  pub few : HasFewFirings a n
  pub which : (n ≡ shortest p.usual left) ⊎ (n ≡ shortest p.last left)

-- why no segment was read
abbrev pub IsUnfedBy : Accepted → FlowPlan → List Reader → List (Option (List ℕ)) → StreamFault → Type 0
IsUnfedBy a p readers rests fault =
    (k : ℕ) × (periods : ℕ) × (k < length p.sources.items) × IsCauseAt a periods (source_at p.sources.items k) (reader_at readers k) (left_at rests k) fault

-- a flow after a segment: its tokens were read, it was run, and what the sinks took was written
pub record GoesOnTo (p : FlowPlan) (old new : Flow) (d : Devices) (part : Part) : Type 0 where
  pub periods : ℕ
  pub feeds : List (List ℤ)
  pub segment : IsSegmentOf old.stream.accepted p old.left periods
  pub stretch : IsStretch old.stream feeds periods new.stream part
  pub read : (k : ℕ) → k < length p.sources.items
      → Reads (reader_at old.buffers.readers.items k) (reader_at new.buffers.readers.items k) (left_at d.lefts k) (left_at d.rests k)
      (feed_of feeds (source_at p.sources.items k))
  pub full : AreFull old.stream.accepted periods p.sources.items new.buffers.readers.items d.rests feeds
  pub written : AreWritten p.format p.sinks.items (feeds_in part.sinks.items) d.before d.after
  pub clipped : AreClipped p.format p.sinks.items (feeds_in part.sinks.items) old.buffers.clipped.items new.buffers.clipped.items
  pub left : new.left ≡ left_after old.left periods
  pub readers : length new.buffers.readers.items ≡ length p.sources.items
  pub counts : length new.buffers.clipped.items ≡ length p.sinks.items
  pub feeds_each : AreFeeds old.stream.accepted.graph (feeds_in new.buffers.feeds.items)

-- tokens were read, and no segment was run
pub record StopsBefore (p : FlowPlan) (old new : Flow) (d : Devices) (Cause : Type 0) : Type 0 where
  pub stream : new.stream ≡ old.stream
  pub given : ℕ → List ℤ
  pub read : (k : ℕ) → k < length p.sources.items
      → Reads (reader_at old.buffers.readers.items k) (reader_at new.buffers.readers.items k) (left_at d.lefts k) (left_at d.rests k) (given k)
  pub unwritten : d.after ≡ d.before
  pub cause : Cause

-- a segment was run, and a sink's device failed
pub record StopsBySink (p : FlowPlan) (old new : Flow) (d : Devices) (t : ℕ) : Type 0 where
  pub periods : ℕ
  pub feeds : List (List ℤ)
  pub part : Part
  pub stretch : IsStretch old.stream feeds periods new.stream part
  pub given : ℕ → List ℤ
  pub read : (k : ℕ) → k < length p.sources.items
      → Reads (reader_at old.buffers.readers.items k) (reader_at new.buffers.readers.items k) (left_at d.lefts k) (left_at d.rests k) (given k)
  pub begun : AreBegun p.format p.sinks.items (feeds_in part.sinks.items) d.before d.after
  pub sink : (k : ℕ) × (k < length p.sinks.items) × (source_at p.sinks.items k ≡ t)

-- a segment whose tokens were there was run, and what the sinks took is written
pub record HasRun (p : FlowPlan) (old new : Flow) (periods : ℕ) (before after : List (Option (List ℕ))) (part : Part) : Type 0 where
  pub stretch : IsStretch old.stream (feeds_in old.buffers.feeds.items) periods new.stream part
  pub written : AreWritten p.format p.sinks.items (feeds_in part.sinks.items) before after
  pub clipped : AreClipped p.format p.sinks.items (feeds_in part.sinks.items) old.buffers.clipped.items new.buffers.clipped.items
  pub left : new.left ≡ left_after old.left periods
  pub counts : length new.buffers.clipped.items ≡ length p.sinks.items
  pub feeds_each : AreFeeds old.stream.accepted.graph (feeds_in new.buffers.feeds.items)

-- it was run, and a sink's device failed
pub record HasFailedAt (p : FlowPlan) (old new : Flow) (periods : ℕ) (before after : List (Option (List ℕ))) (t : ℕ) : Type 0 where
  pub part : Part
  pub stretch : IsStretch old.stream (feeds_in old.buffers.feeds.items) periods new.stream part
  pub begun : AreBegun p.format p.sinks.items (feeds_in part.sinks.items) before after
  pub sink : (k : ℕ) × (k < length p.sinks.items) × (source_at p.sinks.items k ≡ t)

-- that, or it was not run
abbrev pub HasNotRun : FlowPlan → Flow → Flow → ℕ → List (Option (List ℕ)) → List (Option (List ℕ)) → StreamFault → Type 0
HasNotRun p old new periods before after (why.Sink t) = HasFailedAt p old new periods before after t
HasNotRun p old new periods before after (why.Run fault) = (new.stream ≡ old.stream) × (after ≡ before) × IsWantAmong p.workers fault
HasNotRun p old new periods before after fault = ⊥

-- a flow that is stopped: by a fault of a source, by one of the run, or since a sink's device failed after a segment
abbrev pub StopsAt : FlowPlan → Flow → Flow → Devices → StreamFault → Type 0
StopsAt p old new d (why.Sink t) = StopsBySink p old new d t
StopsAt p old new d (why.Run fault) = StopsBefore p old new d (IsWantAmong p.workers fault)
StopsAt p old new d fault = StopsBefore p old new d (IsUnfedBy old.stream.accepted p new.buffers.readers.items d.rests fault)
