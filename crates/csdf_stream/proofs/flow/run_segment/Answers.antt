use Rattle.std.proofs.Common.{◌≡◌, ℕ, List, ap, length, map, refl, subst, sym, ◌∙◌}
use Rattle.std.specs.Prelude.{ℤ, Bool}
use Rattle.std.specs.Global.{Vec}
use Rattle.std.specs.Vec.{with_items}
use Rattle.std.proofs.lemmas.List.{with_items_is}
use Rattle.std.proofs.lemmas.Result.{IfErr-at_err, IfOk-at_ok}
use Rattle.csdf_floor.specs.Work.{AreFeeds, feeds_in}
use Rattle.csdf_run.specs.Causes.{IsWantAmong}
use Rattle.csdf_run.specs.Streaming.{IsStretch}
use Rattle.csdf_stream.specs.Writing.{AreBegun, AreClipped, AreWritten}
use Rattle.csdf_stream.specs.Marks.{HasFailed}
use Rattle.csdf_stream.proofs.EndLemmas.{sink_found}
use Rattle.csdf_stream.proofs.flow.run_segment.Goals as goal

pub returns-in-Ok-written-clause-runs : goal.returns-in-Ok-written-clause-runs
returns-in-Ok-written-clause-runs g c =
    let cl : (with_items c.args.flow.buffers.clipped c.write_sinks-written.new.clipped).items ≡ c.write_sinks-written.new.clipped =
    with_items_is c.args.flow.buffers.clipped c.write_sinks-written.new.clipped (c.write_sinks-written.ensures.many.1 ∙ c.deref_mut.ensures.len) in
    record {
      stretch = IfOk-at_ok (IsStretch c.args.flow.stream (feeds_in c.args.flow.buffers.feeds.items) c.args.periods c.segment-stream.result.stream) c.in-Ok.is
          c.segment-stream.ensures.part;
      written = subst (λ (vs : List (Vec ℤ)). AreWritten c.args.plan.now.format c.args.plan.now.sinks.items (feeds_in vs)
          (map g.O.Outlet.written c.args.outlets.now) (map g.O.Outlet.written c.write_sinks-written.new.devices)) c.deref-2.ensures.value
          (subst (λ (xs : List ℕ). AreWritten c.args.plan.now.format xs (feeds_in c.deref-2.result.now)
          (map g.O.Outlet.written c.args.outlets.now) (map g.O.Outlet.written c.write_sinks-written.new.devices)) c.deref.ensures.value
          c.in-Ok-written.ensures.written);
      clipped = subst (λ (ns : List ℕ). AreClipped c.args.plan.now.format c.args.plan.now.sinks.items (feeds_in c.in-Ok.part.sinks.items)
          c.args.flow.buffers.clipped.items ns) (sym cl)
          (subst (λ (ns : List ℕ). AreClipped c.args.plan.now.format c.args.plan.now.sinks.items (feeds_in c.in-Ok.part.sinks.items) ns
          c.write_sinks-written.new.clipped) c.deref_mut.ensures.value
          (subst (λ (vs : List (Vec ℤ)). AreClipped c.args.plan.now.format c.args.plan.now.sinks.items (feeds_in vs)
          c.deref_mut.result.now c.write_sinks-written.new.clipped) c.deref-2.ensures.value
          (subst (λ (xs : List ℕ). AreClipped c.args.plan.now.format xs (feeds_in c.deref-2.result.now)
          c.deref_mut.result.now c.write_sinks-written.new.clipped) c.deref.ensures.value c.in-Ok-written.ensures.clipped)));
      left = c.without-left.ensures;
      counts = ap (λ (ns : List ℕ). length ns) cl
          ∙ c.write_sinks-written.ensures.many.1
          ∙ ap (λ (ns : List ℕ). length ns) c.deref_mut.ensures.value
          ∙ c.requires.buffers.clipped;
      feeds_each = subst (λ (fs : List (List ℤ)). AreFeeds c.args.flow.stream.accepted.graph fs) (sym c.segment-stream.ensures.feeds) c.requires.buffers.fed;
    }

pub returns-in-Err-written-clause-stops : goal.returns-in-Err-written-clause-stops
returns-in-Err-written-clause-stops g c = record {
  part = c.in-Ok.part;
  stretch = IfOk-at_ok (IsStretch c.args.flow.stream (feeds_in c.args.flow.buffers.feeds.items) c.args.periods c.segment-stream.result.stream) c.in-Ok.is
      c.segment-stream.ensures.part;
  begun = subst (λ (vs : List (Vec ℤ)). AreBegun c.args.plan.now.format c.args.plan.now.sinks.items (feeds_in vs)
      (map g.O.Outlet.written c.args.outlets.now) (map g.O.Outlet.written c.write_sinks-written.new.devices)) c.deref-2.ensures.value
      (subst (λ (xs : List ℕ). AreBegun c.args.plan.now.format xs (feeds_in c.deref-2.result.now)
      (map g.O.Outlet.written c.args.outlets.now) (map g.O.Outlet.written c.write_sinks-written.new.devices)) c.deref.ensures.value
      c.in-Err-written.ensures.begun);
  sink = sink_found c.deref.result.now c.args.plan.now.sinks.items _ c.deref.ensures.value c.in-Err-written.ensures.failed;
}

pub returns-in-Err-written-clause-marked : goal.returns-in-Err-written-clause-marked
returns-in-Err-written-clause-marked g c = λ (ins : List Bool).
    subst (λ (xs : List ℕ). HasFailed xs (map g.O.Outlet.failed c.write_sinks-written.new.devices) c.in-Err-written.sink) c.deref.ensures.value
    c.in-Err-written.ensures.marked
