use Rattle.std.proofs.Common.{◌≡◌, ◌+◌, ◌-◌, ◌<◌, ◌≤◌, length, drop}
use Rattle.csdf_bytes.specs.TokenStream.{HasLine, ReadsOn}
use Rattle.csdf_bytes.proofs.whole_lines.read_whole_lines.Given as goal

abbrev pub invariant-loop-left : goal.invariant-loop-left
invariant-loop-left l = record {
  within : l.used ≤ length l.text;
  read : ReadsOn l.first l.text l.line (drop l.used l.text) l.fn.tokens.items l.tokens.items;
  count : length l.tokens.items + l.left ≡ length l.fn.tokens.items + l.most;
  found : 0 < l.used → HasLine l.text;
  idle : l.used ≡ 0 → (l.line ≡ l.first) × (l.tokens.items ≡ l.fn.tokens.items);
}

abbrev pub decreases-loop-left : goal.decreases-loop-left
decreases-loop-left l = length l.text - l.used
