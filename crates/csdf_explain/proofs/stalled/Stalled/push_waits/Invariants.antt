use Rattle.std.proofs.Common.{◌≡◌, ◌++◌, drop, string_bytes}
use Rattle.csdf_explain.specs.Stalled.{wait_lines}
use Rattle.csdf_explain.proofs.stalled.Stalled.push_waits.Given as goal

abbrev pub invariant-loop-number : goal.invariant-loop-number
invariant-loop-number l =
    string_bytes l.text ++ wait_lines l.self (drop l.number-index l.numbers) ≡ string_bytes l.fn.text ++ wait_lines l.self l.numbers
