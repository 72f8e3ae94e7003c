use Rattle.std.proofs.Common.{◌≡◌, ◌≤◌, List, ◌++◌, length}
use Rattle.std.specs.Prelude.{ℤ, max}
use Rattle.csdf_stream.specs.Reading.{Reads}
use Rattle.csdf_stream.proofs.reader.Reader.fill.Given as goal

abbrev pub invariant-loop : goal.invariant-loop
invariant-loop g l = record {
  given : List ℤ;
  appended : l.tokens.items ≡ l.fn.tokens.items ++ given;
  read : Reads l.fn.self l.self (g.I.Intake.left l.fn.device) (g.I.Intake.left l.device) given;
  few : length l.tokens.items ≤ max (length l.fn.tokens.items) l.most;
}
