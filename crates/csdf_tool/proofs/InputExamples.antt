-- Which words ask for standard input, computed.
use Rattle.std.proofs.Common.{◌≡◌, [], ◌∷◌, Some, true, codes, refl}
use Rattle.clap.specs.Words.{takes}
use Rattle.clap.proofs.OnLiterals.{clap_on_literals}
use Rattle.csdf_words.specs.CommandLine.{program, asked_by, asked_with, words_ask, Input}

no_words_are_taken : takes program [] ≡ true
unfolding clap_on_literals
no_words_are_taken = refl

no_words_ask : words_ask [] ≡ Some Input
no_words_ask = refl

dashes_are_taken : takes program (codes "--" ∷ []) ≡ true
unfolding clap_on_literals
dashes_are_taken = refl

dashes_ask : words_ask (codes "--" ∷ []) ≡ Some Input
unfolding clap_on_literals asked_by asked_with
dashes_ask = refl
