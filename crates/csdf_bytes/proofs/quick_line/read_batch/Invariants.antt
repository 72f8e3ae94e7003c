use Rattle.std.proofs.Common.{◌≡◌, ◌+◌, ◌-◌, ◌*◌, ◌<◌, ◌≤◌, length, drop, vec_len}
use Rattle.std.specs.Prelude.{min, vec_capacity}
use Rattle.csdf_bytes.specs.TokenStream.{HasLine, ReadsOn}
use Rattle.csdf_bytes.proofs.quick_line.read_batch.Given as goal

abbrev pub invariant-loop-left : goal.invariant-loop-left
invariant-loop-left l = record {
  room : l.left * 11 + l.used ≤ length l.text;
  least : l.left ≤ l.most;
  reserved : vec_len l.tokens + l.left ≤ vec_capacity l.tokens;
  read : ReadsOn l.first l.text (min (l.first + (l.most - l.left)) 18446744073709551615) (drop l.used l.text) l.fn.tokens.items l.tokens.items;
  count : length l.tokens.items + l.left ≡ length l.fn.tokens.items + l.most;
  found : 0 < l.used → HasLine l.text;
  idle : l.used ≡ 0 → (l.left ≡ l.most) × (l.tokens.items ≡ l.fn.tokens.items);
}

abbrev pub decreases-loop-left : goal.decreases-loop-left
decreases-loop-left l = l.left
