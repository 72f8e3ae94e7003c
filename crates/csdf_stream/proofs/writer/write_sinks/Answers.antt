use Rattle.std.proofs.Common.{arith, ap, ◌∙◌, ◌+◌, ℕ, get_or}
use Rattle.std.proofs.lemmas.List.{length-set}
use Rattle.csdf_floor.specs.Work.{feeds_in}
use Rattle.csdf_run.specs.Totals.{capped}
use Rattle.csdf_stream.specs.Writing.{clipped_in}
use Rattle.csdf_stream.proofs.WriteLemmas.{begun_put, clipped_next, written_put}
use Rattle.csdf_stream.proofs.MarkLemmas.{failed_at}
use Rattle.csdf_stream.proofs.writer.write_sinks.Goals as goal

pub returns-in-Err-clause-begun : goal.returns-in-Err-clause-begun
returns-in-Err-clause-begun g c =
    begun_put g.O.Outlet.written c.args.format c.args.sinks.now (feeds_in c.args.lists.now) _ c.loop-k.devices c.loop-k.k
    c.write_in.new.device c.index-devices-k.result (omega (arith, c.loop-k-test.true, c.requires.devices, c.loop-k.invariant.devices)) c.loop-k.invariant.written
    c.list_at-tokens.result.now c.list_at-tokens.ensures c.in-Err.ensures.begun

pub returns-in-Err-clause-marked : goal.returns-in-Err-clause-marked
returns-in-Err-clause-marked g c =
    failed_at g.O.Outlet.failed c.args.sinks.now c.loop-k.devices c.loop-k.k c.write_in.new.device c.loop-k-test.true
    (omega (arith, c.loop-k-test.true, c.requires.devices, c.loop-k.invariant.devices)) c.in-Err.ensures.marked

pub loop-k-preserved : goal.loop-k-preserved
loop-k-preserved g c = record {
  devices = length-set c.loop-k.devices c.loop-k.k c.write_in.new.device ∙ c.loop-k.invariant.devices;
  counts = length-set c.loop-k.clipped c.loop-k.k c.saturating_add.result ∙ c.loop-k.invariant.counts;
  written = written_put g.O.Outlet.written c.args.format c.args.sinks.now (feeds_in c.args.lists.now) _ c.loop-k.devices c.loop-k.k
      c.write_in.new.device c.index-devices-k.result (omega (arith, c.loop-k-test.true, c.requires.devices, c.loop-k.invariant.devices)) c.loop-k.invariant.written
      c.list_at-tokens.result.now c.list_at-tokens.ensures c.in-Ok.ensures.written;
  clipped = clipped_next c.args.format c.args.sinks.now (feeds_in c.args.lists.now) c.args.clipped.now c.loop-k.clipped c.loop-k.k c.saturating_add.result
      (omega (arith, c.loop-k-test.true, c.requires.clipped, c.loop-k.invariant.counts)) c.loop-k.invariant.clipped
      (c.saturating_add.ensures
      ∙ ap (λ (n : ℕ). capped (get_or c.loop-k.clipped c.loop-k.k 0 + n)) (c.in-Ok.ensures.clipped ∙ ap (clipped_in c.args.format) c.list_at-tokens.ensures));
}
