use Rattle.std.proofs.Common.{◌≡◌, length}
use Rattle.csdf_bytes.specs.TokenText.{trim_end}
use Rattle.csdf_bytes.proofs.token_word.trim_blanks_after.Given as goal

abbrev pub invariant-loop-rest : goal.invariant-loop-rest
invariant-loop-rest l = trim_end l.line ≡ trim_end l.rest

abbrev pub decreases-loop-rest : goal.decreases-loop-rest
decreases-loop-rest l = length l.rest
