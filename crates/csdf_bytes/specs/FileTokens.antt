-- What was read of a token file so far.
use Rattle.std.specs.Prelude.{◌≡◌, ◌≢◌, ℕ, ◌≤◌, min, List, ◌++◌, length, map, ℤ, Result, Ok, Err}
use Rattle.std.specs.Result.{result_map_both}
use Rattle.csdf_bytes.specs.declared.token_reader.ReadFault.{ReadFault}
use Rattle.csdf_bytes.specs.declared.token_reader.ReadFault.TheVariants.{Read as StreamRead, Syntax as StreamSyntax, Range as StreamRange, Memory as StreamMemory}
use Rattle.csdf_bytes.specs.declared.tokens.TheConstants.{TOKEN_LIMIT}
use Rattle.csdf_bytes.specs.declared.tokens.TokenFault.{TokenFault}
use Rattle.csdf_bytes.specs.declared.tokens.TokenFault.TheVariants.{Read, Syntax, Range, Memory}
use Rattle.csdf_bytes.specs.TokenText.{tokens_up_to}
use Rattle.csdf_bytes.specs.TokenStream.{entries_from}

-- a fault of a stream as that of a file, which has no line of a greater number
abbrev pub file_fault : ReadFault → TokenFault
file_fault StreamRead = Read
file_fault (StreamSyntax line) = Syntax (min line 4294967295)
file_fault (StreamRange line) = Range (min line 4294967295)
file_fault StreamMemory = Memory

abbrev pub file_entry : Result ℤ ReadFault → Result ℤ TokenFault
file_entry entry = result_map_both (λ token. token) file_fault entry

-- the tokens of a file's text, or its first fault
abbrev pub file_tokens : List ℕ → Result (List ℤ) TokenFault
file_tokens text = tokens_up_to TOKEN_LIMIT (map file_entry (entries_from 1 text))

-- what a beginning of a file's text comes to: its tokens so far, where the line that is next has this number and these bytes follow; or the fault that
-- the whole text has, whatever follows
abbrev pub HasRead : List ℕ → ℕ → List ℕ → List ℤ → Result (Unit {0}) TokenFault → Type 0
HasRead text line bytes tokens (Ok _) =
    (length tokens ≤ TOKEN_LIMIT) × ((more : List ℕ) → entries_from 1 (text ++ more) ≡ map Ok tokens ++ entries_from line (bytes ++ more))
HasRead text line bytes tokens (Err fault) =
    (fault ≢ Read) × (fault ≢ Memory → (more : List ℕ) → file_tokens (text ++ more) ≡ Err fault)

-- what is told of the whole text of a file: its tokens or its first fault, where memory is not wanting
abbrev pub Tells : List ℕ → Result (List ℤ) TokenFault → Type 0
Tells text (Ok tokens) = file_tokens text ≡ Ok tokens
Tells text (Err fault) = (fault ≢ Read) × (fault ≢ Memory → file_tokens text ≡ Err fault)
