use Rattle.std.proofs.Common.{◌≡◌, ℕ, ◌<◌, List, ap, length, map, refl, subst, sym, ◌∙◌}
use Rattle.std.specs.Prelude.{ℤ}
use Rattle.std.specs.Global.{Vec}
use Rattle.std.specs.Vec.{with_items}
use Rattle.std.proofs.lemmas.List.{length-map, with_items_is}
use Rattle.std.proofs.lemmas.Result.{IfErr-weaker, IfOk-weaker}
use Rattle.csdf_analysis.specs.Acceptance.{Accepted}
use Rattle.csdf_floor.specs.Work.{AreFeeds, HasFewFirings, feed_of, feeds_in}
use Rattle.csdf_stream.specs.declared.reader.Reader.{Reader}
use Rattle.csdf_stream.specs.Feeding.{AreFull, left_at, reader_at, source_at}
use Rattle.csdf_stream.specs.Reading.{Reads}
use Rattle.csdf_stream.specs.Flowing.{IsNoneFed, IsSegmentOf, IsUnfedBy, devices}
use Rattle.csdf_stream.proofs.EndLemmas.{fed_none, goes_on_run, read_clear, stops_run, stops_unfed}
use Rattle.csdf_stream.proofs.MarkLemmas.{marked_read}
use Rattle.csdf_stream.proofs.flow.advance.Given.{Over}
use Rattle.csdf_stream.proofs.flow.advance.Goals as goal
use Rattle.csdf_stream.proofs.flow.advance.Goals.{In-Ok}

pub read_segment-read-requires-clause-fed : goal.read_segment-read-requires-clause-fed
read_segment-read-requires-clause-fed g c =
    let same : c.deref_mut-3.result.now ≡ c.clear.new.feeds =
    c.deref_mut-3.ensures.value ∙ with_items_is c.args.flow.buffers.feeds c.clear.new.feeds (c.clear.ensures.many ∙ c.deref_mut.ensures.len) in
    let many : length c.clear.new.feeds ≡ length c.args.flow.stream.accepted.graph.actors =
    c.clear.ensures.many
    ∙ ap (λ (vs : List (Vec ℤ)). length vs) c.deref_mut.ensures.value
    ∙ sym (length-map c.args.flow.buffers.feeds.items (λ (v : Vec ℤ). v.items))
    ∙ c.requires.buffers.fed.each_actor in
    subst (λ (fs : List (Vec ℤ)). AreFeeds c.accepted.result.now.graph (feeds_in fs)) (sym same)
    (subst (λ (a : Accepted). AreFeeds a.graph (feeds_in c.clear.new.feeds)) (sym c.accepted.ensures)
    (fed_none c.args.flow.stream.accepted.graph c.clear.new.feeds many c.clear.ensures.none))

pub returns-in-Err-clause-stops : goal.returns-in-Err-clause-stops
returns-in-Err-clause-stops g c =
    let fs : c.deref_mut-3.result.now ≡ c.clear.new.feeds =
    c.deref_mut-3.ensures.value ∙ with_items_is c.args.flow.buffers.feeds c.clear.new.feeds (c.clear.ensures.many ∙ c.deref_mut.ensures.len) in
    let rs : (with_items c.args.flow.buffers.readers c.read_segment-read.new.readers).items ≡ c.read_segment-read.new.readers =
    with_items_is c.args.flow.buffers.readers c.read_segment-read.new.readers (c.read_segment-read.ensures.many.0 ∙ c.deref_mut-2.ensures.len) in
    stops_unfed c.args.plan.now c.args.flow _ _ c.in-Err.fault refl
    (λ k. feed_of (feeds_in c.read_segment-read.new.feeds) (source_at c.args.plan.now.sources.items k))
    (read_clear c.args.plan.now.sources.items c.args.flow.buffers.readers.items c.deref_mut-2.result.now c.read_segment-read.new.readers _ _ _ _ _ _ c.read_segment-read.ensures.read
    (subst (λ (vs : List (Vec ℤ)). IsNoneFed (feeds_in vs)) (sym fs) c.clear.ensures.none) c.deref_mut-2.ensures.value (sym rs) refl)
    refl
    (subst (λ (xs : List Reader). IsUnfedBy c.args.flow.stream.accepted c.args.plan.now xs (map g.I.Intake.left c.read_segment-read.new.intakes) c.in-Err.fault) (sym rs)
    (subst (λ (a : Accepted). IsUnfedBy a c.args.plan.now c.read_segment-read.new.readers (map g.I.Intake.left c.read_segment-read.new.intakes) c.in-Err.fault) c.accepted.ensures
    c.in-Err.ensures.unfed))

-- what was read, as the segment finds it
module _ (g : Over) (c : In-Ok g) where
  abbrev fed_with : Vec (Vec ℤ)
  fed_with = with_items (with_items c.args.flow.buffers.feeds c.clear.new.feeds) c.read_segment-read.new.feeds

  abbrev read_by : Vec Reader
  read_by = with_items c.args.flow.buffers.readers c.read_segment-read.new.readers

  abbrev all : List (Vec ℤ)
  all = fed_with.items

  abbrev readers : List Reader
  readers = read_by.items

  rs : readers ≡ c.read_segment-read.new.readers
  rs = with_items_is c.args.flow.buffers.readers c.read_segment-read.new.readers (c.read_segment-read.ensures.many.0 ∙ c.deref_mut-2.ensures.len)

  fs : c.deref_mut-3.result.now ≡ c.clear.new.feeds
  fs = c.deref_mut-3.ensures.value ∙ with_items_is c.args.flow.buffers.feeds c.clear.new.feeds (c.clear.ensures.many ∙ c.deref_mut.ensures.len)

  filled : all ≡ c.read_segment-read.new.feeds
  filled = with_items_is (with_items c.args.flow.buffers.feeds c.clear.new.feeds) c.read_segment-read.new.feeds
      (c.read_segment-read.ensures.many.2 ∙ c.deref_mut-3.ensures.len)

  segment : IsSegmentOf c.args.flow.stream.accepted c.args.plan.now c.args.flow.left c.in-Ok.periods
  segment = subst (λ (a : Accepted). IsSegmentOf a c.args.plan.now c.args.flow.left c.in-Ok.periods) c.accepted.ensures c.in-Ok.ensures.segment

  fed : AreFeeds c.args.flow.stream.accepted.graph (feeds_in all)
  fed = subst (λ (vs : List (Vec ℤ)). AreFeeds c.args.flow.stream.accepted.graph (feeds_in vs)) (sym filled)
      (subst (λ (a : Accepted). AreFeeds a.graph (feeds_in c.read_segment-read.new.feeds)) c.accepted.ensures c.read_segment-read.ensures.fed)

  many : length readers ≡ length c.args.plan.now.sources.items
  many = ap (λ (xs : List Reader). length xs) rs
      ∙ c.read_segment-read.ensures.many.0
      ∙ ap (λ (xs : List Reader). length xs) c.deref_mut-2.ensures.value
      ∙ c.requires.buffers.readers

  read : (k : ℕ) → k < length c.args.plan.now.sources.items
      → Reads (reader_at c.args.flow.buffers.readers.items k) (reader_at readers k) (left_at (map g.I.Intake.left c.args.intakes.now) k)
      (left_at (map g.I.Intake.left c.read_segment-read.new.intakes) k) (feed_of (feeds_in all) (source_at c.args.plan.now.sources.items k))
  read = read_clear c.args.plan.now.sources.items c.args.flow.buffers.readers.items c.deref_mut-2.result.now c.read_segment-read.new.readers _ _ _ _ _ _
      c.read_segment-read.ensures.read
      (subst (λ (vs : List (Vec ℤ)). IsNoneFed (feeds_in vs)) (sym fs) c.clear.ensures.none) c.deref_mut-2.ensures.value (sym rs) (ap feeds_in (sym filled))

  full : AreFull c.args.flow.stream.accepted c.in-Ok.periods c.args.plan.now.sources.items readers
      (map g.I.Intake.left c.read_segment-read.new.intakes) (feeds_in all)
  full = subst (λ (vs : List (Vec ℤ)). AreFull c.args.flow.stream.accepted c.in-Ok.periods c.args.plan.now.sources.items readers
      (map g.I.Intake.left c.read_segment-read.new.intakes) (feeds_in vs)) (sym filled)
      (subst (λ (xs : List Reader). AreFull c.args.flow.stream.accepted c.in-Ok.periods c.args.plan.now.sources.items xs
      (map g.I.Intake.left c.read_segment-read.new.intakes) (feeds_in c.read_segment-read.new.feeds)) (sym rs)
      (subst (λ (a : Accepted). AreFull a c.in-Ok.periods c.args.plan.now.sources.items c.read_segment-read.new.readers
      (map g.I.Intake.left c.read_segment-read.new.intakes) (feeds_in c.read_segment-read.new.feeds)) c.accepted.ensures c.in-Ok.ensures.full))

pub run_segment-requires-clause-buffers : goal.run_segment-requires-clause-buffers
run_segment-requires-clause-buffers g c κs within =
    let at : In-Ok g = (goal.at.run_segment-requires-clause-buffers g c).In-Ok in
    record { readers = many g at; fed = fed g at; clipped = c.requires.buffers.clipped }

pub returns-in-Ok-clause-goes_on : goal.returns-in-Ok-clause-goes_on
returns-in-Ok-clause-goes_on g c =
    let at : In-Ok g = (goal.at.returns-in-Ok-clause-goes_on g c).In-Ok in
    IfOk-weaker c.run_segment.result.1 _ _
    (λ part run. goes_on_run c.args.plan.now c.args.flow c.run_segment.result.0 (read_by g at) (fed_with g at)
    (devices (map g.I.Intake.left c.args.intakes.now) (map g.I.Intake.left c.read_segment-read.new.intakes)
    (map g.O.Outlet.written c.args.outlets.now) (map g.O.Outlet.written c.run_segment.new.outlets)) c.in-Ok.periods part
    (segment g at) (read g at) (full g at) (many g at) c.run_segment.ensures.readers run) c.run_segment.ensures.runs

pub returns-in-Ok-clause-stops : goal.returns-in-Ok-clause-stops
returns-in-Ok-clause-stops g c =
    let at : In-Ok g = (goal.at.returns-in-Ok-clause-stops g c).In-Ok in
    IfErr-weaker c.run_segment.result.1 _ _
    (λ fault not. stops_run c.args.plan.now c.args.flow c.run_segment.result.0 (read_by g at) (fed_with g at)
    (devices (map g.I.Intake.left c.args.intakes.now) (map g.I.Intake.left c.read_segment-read.new.intakes)
    (map g.O.Outlet.written c.args.outlets.now) (map g.O.Outlet.written c.run_segment.new.outlets)) c.in-Ok.periods fault
    (read g at) c.run_segment.ensures.readers not) c.run_segment.ensures.stops

pub returns-in-Ok-clause-marked : goal.returns-in-Ok-clause-marked
returns-in-Ok-clause-marked g c = c.run_segment.ensures.marked (map g.I.Intake.failed c.read_segment-read.new.intakes)
