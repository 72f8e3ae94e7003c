use Rattle.std.proofs.Common.{◌≡◌, ◌≤◌, ◌+◌, ◌-◌, ◌*◌, ◌++◌, length, drop, sum}
use Rattle.csdf_kernel.specs.Loop.{loop_values, latest_of}
use Rattle.csdf_kernel.proofs.looping.eval_loop.Given as goal

-- what is there and what is left make the whole, and the other tokens and the room are enough for what is left
abbrev pub invariant-loop-firing : goal.invariant-loop-firing
invariant-loop-firing l = record {
  values : l.outputs.items
      ++ loop_values l.kernel l.counts l.is_first l.each l.before (l.firings - l._firing) (latest_of l.state l.outputs.items l.size l.before)
      (drop l.at l.others)
      ≡ loop_values l.kernel l.counts l.is_first l.each l.before l.firings l.state l.others;
  sized : length (latest_of l.state l.outputs.items l.size l.before) ≡ length l.state;
  window : length l.window ≡ l.each + length l.state;
  inputs : l.at + (l.firings - l._firing) * l.each ≤ length l.others;
  room : length l.outputs.items + (l.firings - l._firing) * sum l.counts ≤ l.outputs.capacity;
}
