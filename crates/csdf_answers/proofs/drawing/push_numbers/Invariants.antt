use Rattle.std.proofs.Common.{◌≡◌, ◌++◌, take, string_bytes}
use Rattle.csdf_answers.specs.Printed.{spaced}
use Rattle.csdf_answers.proofs.drawing.push_numbers.Given as goal

abbrev pub invariant-loop-number : goal.invariant-loop-number
invariant-loop-number l = string_bytes l.text ≡ string_bytes l.fn.text ++ spaced (take l.number-index l.numbers)
