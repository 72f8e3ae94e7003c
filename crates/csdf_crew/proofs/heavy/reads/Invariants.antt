use Rattle.std.proofs.Common.{◌≡◌, ◌≤◌, ◌*◌, take}
use Rattle.std.specs.Prelude.{sum_by}
use Rattle.csdf_model.specs.Graph.{channel_view}
use Rattle.csdf_crew.specs.Heavy.{read_from}
use Rattle.csdf_crew.proofs.heavy.reads.Given as goal

abbrev pub invariant-loop-channel : goal.invariant-loop-channel
invariant-loop-channel l = record {
  so_far : l.sum ≡ sum_by (λ c. read_from l.actor (channel_view c)) (take l.channel-index l.channels);
  within : l.sum ≤ l.channel-index * 4294967295;
}
