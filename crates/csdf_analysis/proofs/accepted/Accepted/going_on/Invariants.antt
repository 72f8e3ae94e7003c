use Rattle.std.proofs.Common.{◌≡◌, ◌+◌, length, drop}
use Rattle.std.specs.Vec.Iter.{into_iter_items}
use Rattle.csdf_model.specs.Holding.{HaveAsMany}
use Rattle.csdf_analysis.specs.Acceptance.{IsAccepted}
use Rattle.csdf_analysis.specs.Continued.{beginning_from, lists_in}
use Rattle.csdf_analysis.proofs.accepted.Accepted.going_on.Given as goal

abbrev pub invariant-loop-tokens : goal.invariant-loop-tokens
invariant-loop-tokens l = record {
  goes : beginning_from l.channel (lists_in (into_iter_items l.tokens-iterator)) l.next ≡ beginning_from 0 (lists_in l.fn.left.items) l.fn.self;
  rest : lists_in (into_iter_items l.tokens-iterator) ≡ drop l.channel (lists_in l.fn.left.items);
  count : l.channel + length (into_iter_items l.tokens-iterator) ≡ length (lists_in l.fn.left.items);
  many : HaveAsMany (lists_in l.fn.left.items) l.next.graph.channels;
  ok : IsAccepted l.next;
}
