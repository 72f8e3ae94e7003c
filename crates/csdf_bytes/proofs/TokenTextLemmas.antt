-- The entries of a text, and what some tokens come to with those behind them.
use Rattle.std.proofs.Common.{◌≡◌, ℕ, ◌<◌, ◌≤◌, Bool, true, false, cond, List, [], ◌∷◌, ◌++◌, length, refl, ◌∙◌, ap, arith}
use Rattle.std.proofs.Common.{Ok, Err, Result}
use Rattle.std.specs.Prelude.{ℤ, nat_eq, nat_lt}
use Rattle.std.specs.Result.{result_map_both}
use Rattle.std.proofs.lemmas.Bool.Decides.{nat_tests}
use Rattle.csdf_bytes.specs.declared.tokens.TokenFault.{TokenFault}

-- an entry that counts where its word is not empty
abbrev pub kept : ℕ × List ℕ → List (ℕ × List ℕ) → List (ℕ × List ℕ)
kept entry entries = cond (nat_lt 0 (length entry.1)) (entry ∷ entries) entries

-- some tokens, and then those of more entries
abbrev pub after : List ℤ → Result (List ℤ) TokenFault → Result (List ℤ) TokenFault
after tokens found = result_map_both (λ more. tokens ++ more) (λ fault. fault) found

pub after-nil : (found : Result (List ℤ) TokenFault) → found ≡ after [] found
after-nil (Ok tokens) = refl
after-nil (Err fault) = refl

pub within : (limit : ℕ) (tokens : List ℤ) → length tokens ≤ limit → nat_lt limit (length tokens) ≡ false
within limit tokens h = grind (arith, nat_tests)

pub test-blank : (n : ℕ) → true ≡ nat_eq n 0 → n ≡ 0
test-blank n is = grind (arith, nat_tests)

pub test-word : (n : ℕ) → false ≡ nat_eq n 0 → 0 < n
test-word n is = grind (arith, nat_tests)

-- a token that was pushed
pub pushed : (old new : List ℤ) (grew : Bool) (token stored : ℤ) → new ≡ cond grew (old ++ stored ∷ []) old → grew ≡ true → stored ≡ token
    → new ≡ old ++ token ∷ []
pushed old new grew token stored is ok same =
    is ∙ ap (λ b. cond b (old ++ stored ∷ []) old) ok ∙ ap (λ t. old ++ t ∷ []) same
