use Rattle.std.proofs.Common.{◌≡◌, ◌++◌, take, string_bytes}
use Rattle.csdf_run.specs.Scripts.{spaced_tokens}
use Rattle.csdf_run.proofs.script.push_tokens.Given as goal

abbrev pub invariant-loop-token : goal.invariant-loop-token
invariant-loop-token l = string_bytes l.text ≡ string_bytes l.fn.text ++ spaced_tokens (take l.token-index l.tokens)
