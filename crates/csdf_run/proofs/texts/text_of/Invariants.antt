use Rattle.std.proofs.Common.{◌≡◌, ◌++◌, drop, string_bytes}
use Rattle.csdf_bytes.specs.TokenText.{token_text}
use Rattle.csdf_run.proofs.texts.text_of.Given as goal

abbrev pub invariant-loop-token : goal.invariant-loop-token
invariant-loop-token l = string_bytes l.text ++ token_text (drop l.token-index l.tokens) ≡ token_text l.tokens
