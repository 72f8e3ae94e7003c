use Rattle.std.proofs.Common.{◌≡◌, ◌++◌, drop, string_bytes}
use Rattle.csdf_explain.specs.Explained.{way_lines}
use Rattle.csdf_explain.proofs.explanation.push_way_lines.Given as goal

abbrev pub invariant-loop-number : goal.invariant-loop-number
invariant-loop-number l = string_bytes l.text ++ way_lines l.graph (drop l.number-index l.way) ≡ string_bytes l.fn.text ++ way_lines l.graph l.way
