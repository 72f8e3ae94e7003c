use Rattle.std.proofs.Common.{◌≡◌, ◌*◌, ◌≤◌, length, drop}
use Rattle.csdf_bytes.specs.TokenText.{token_text}
use Rattle.csdf_bytes.proofs.token_line.put_lines.Given as goal

abbrev pub invariant-loop-left : goal.invariant-loop-left
invariant-loop-left l = record {
  among : l.left ≤ length l.tokens;
  within : l.start ≤ length l.bytes;
  room : 12 * l.left ≤ l.start;
  so_far : drop l.start l.bytes ≡ token_text (drop l.left l.tokens);
}

abbrev pub decreases-loop-left : goal.decreases-loop-left
decreases-loop-left l = l.left
