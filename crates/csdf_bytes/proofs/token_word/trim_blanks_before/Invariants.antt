use Rattle.std.proofs.Common.{◌≡◌, length}
use Rattle.csdf_bytes.specs.TokenText.{trim_start}
use Rattle.csdf_bytes.proofs.token_word.trim_blanks_before.Given as goal

abbrev pub invariant-loop-rest : goal.invariant-loop-rest
invariant-loop-rest l = trim_start l.line ≡ trim_start l.rest

abbrev pub decreases-loop-rest : goal.decreases-loop-rest
decreases-loop-rest l = length l.rest
