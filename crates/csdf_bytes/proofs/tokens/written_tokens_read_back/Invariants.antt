use Rattle.std.proofs.Common.{ℕ, ◌<◌, get_or}
use Rattle.std.specs.Prelude.{pos}
use mir.Syntax.{w32}
use mir.Val.{SFits}
use Rattle.csdf_bytes.proofs.tokens.written_tokens_read_back.Given as goal

abbrev pub invariant-loop-token : goal.invariant-loop-token
invariant-loop-token l = (k : ℕ) → k < l.token-index → SFits w32 (get_or l.tokens k (pos 0))
