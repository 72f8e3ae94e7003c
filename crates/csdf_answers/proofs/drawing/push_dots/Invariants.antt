use Rattle.std.proofs.Common.{◌≡◌, ◌++◌, drop, string_bytes}
use Rattle.std.specs.List.{flat_map}
use Rattle.csdf_answers.specs.Drawing.{dot}
use Rattle.csdf_answers.proofs.drawing.push_dots.Given as goal

abbrev pub invariant-loop : goal.invariant-loop
invariant-loop l = string_bytes l.text ++ flat_map (λ token. dot) (drop l.index l.tokens) ≡ string_bytes l.fn.text ++ flat_map (λ token. dot) l.tokens
