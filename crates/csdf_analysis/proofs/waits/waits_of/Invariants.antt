use Rattle.std.proofs.Common.{◌≡◌, length, None}
use Rattle.std.specs.Prelude.{EachIndex, slice_index_or}
use Rattle.csdf_analysis.specs.Stalling.{SaysOf}
use Rattle.csdf_analysis.proofs.waits.waits_of.Given as goal

abbrev pub invariant-loop-actor : goal.invariant-loop-actor
invariant-loop-actor l = record {
  so_far : length l.waits.items ≡ l.actor;
  says : EachIndex l.waits.items
      (λ a. SaysOf l.net.channels l.net.firings l.run.bounds.items l.run.counts.items a (slice_index_or l.waits.items a None));
}
