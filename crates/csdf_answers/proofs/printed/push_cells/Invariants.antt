use Rattle.std.proofs.Common.{◌≡◌, ◌++◌, string_bytes}
use Rattle.csdf_answers.specs.Printed.{spaced}
use Rattle.csdf_answers.proofs.printed.push_cells.Given as goal

abbrev pub invariant-loop-cell : goal.invariant-loop-cell
invariant-loop-cell l = string_bytes l.text ++ spaced l.cell-iterator ≡ string_bytes l.fn.text ++ spaced l.fn.cells
