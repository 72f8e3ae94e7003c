-- What is written to a file, and what is read of one.
use Rattle.std.specs.Prelude.{◌≡◌, ℕ, List, ℤ, Result}
use Rattle.std.specs.Global.{Vec}
use Rattle.std.specs.Result.{result_map_both}
use Rattle.csdf_bytes.specs.TokenText.{token_text, tokens_in}
use Rattle.csdf_bytes.specs.declared.tokens.TokenFault.{TokenFault}
use Rattle.csdf_disk.specs.declared.content.Content.{Content}
use Rattle.csdf_disk.specs.declared.content.Content.TheVariants.{Bytes, Tokens}

-- the bytes that are written
abbrev pub content_text : Content → List ℕ
content_text (Bytes bytes) = bytes.now
content_text (Tokens tokens) = token_text tokens.now

-- tokens that were read, or why there are none
abbrev pub told_tokens : Result (Vec ℤ) TokenFault → Result (List ℤ) TokenFault
told_tokens told = result_map_both (λ (tokens : Vec ℤ). tokens.items) (λ why. why) told

-- this is what a text holds
abbrev pub AreTokensOf : List ℕ → Result (Vec ℤ) TokenFault → Type 0
AreTokensOf text told = tokens_in text ≡ told_tokens told
