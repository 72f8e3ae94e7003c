use Rattle.std.proofs.Common.{◌≡◌, ℕ, ◌+◌, ◌<◌, ◌≤◌, length, get_or}
use Rattle.csdf_model.specs.Graph.{channel_view}
use Rattle.csdf_model.specs.Rates.{consumed, produced}
use Rattle.csdf_analysis.specs.Alone.{CompletesAlone}
use Rattle.csdf_analysis.proofs.AloneLemmas.{IsServed}
use Rattle.csdf_analysis.proofs.calls.alone.own_capacity.Given as goal

abbrev pub invariant-loop-put : goal.invariant-loop-put
invariant-loop-put l = record {
  holds : l.held + consumed (channel_view l.channel) l.taken ≡ length l.channel.initial.items + produced (channel_view l.channel) l.put;
  within : l.taken ≤ get_or l.q l.channel.to 0;
  self : l.channel.from ≡ l.channel.to → l.taken ≤ l.put;
  served : (j : ℕ) → j < l.put → IsServed l.q (channel_view l.channel) l.most j;
  fits : length l.channel.initial.items ≤ l.most;
  small : l.most ≤ 65535;
  needed : (w : ℕ) → CompletesAlone l.q (channel_view l.channel) w → l.most ≤ w;
}
