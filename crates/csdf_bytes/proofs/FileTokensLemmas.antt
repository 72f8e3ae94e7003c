-- What was read of a token file so far, and what its whole text comes to.
use Rattle.std.proofs.Common.{◌≡◌, ◌≢◌, ℕ, suc, ◌+◌, ◌-◌, ◌<◌, ◌≤◌, Bool, true, false, cond, List, [], ◌∷◌, ◌++◌, length, map, take, refl, sym, ◌∙◌, ap, subst}
use Rattle.std.proofs.Common.{arith, append_assoc, append-nil, length-append, Ok, Err, Result}
use Rattle.std.specs.Prelude.{ℤ, min, nat_lt, Option, None, Some, IfErr, IfOk, IfSome, OnOk}
use Rattle.std.specs.Io.KnownBytes.{Consumes, IsAtEnd}
use Rattle.std.proofs.KnownBytes.{Consumes-whole}
use Rattle.std.specs.List.{enumerate_from, filter, slice_split}
use Rattle.std.specs.Result.{result_map_both}
use Rattle.std.proofs.lemmas.Bool.Decides.{nat_tests}
use Rattle.std.proofs.lemmas.List.{length-map}
use Rattle.std.proofs.lemmas.List.Splits.{length-slice_split}
use Rattle.std.proofs.lemmas.List.Sums.{count_by-le-length}
use Rattle.csdf_bytes.specs.declared.intake.InputFault.{InputFault}
use Rattle.csdf_bytes.specs.declared.token_reader.ReadFault.{ReadFault}
use Rattle.csdf_bytes.specs.declared.token_reader.ReadFault.TheVariants.{Read as StreamRead, Syntax as StreamSyntax, Range as StreamRange, Memory as StreamMemory}
use Rattle.csdf_bytes.specs.declared.token_word.WordFault.{WordFault}
use Rattle.csdf_bytes.specs.declared.token_word.WordFault.TheVariants.{Malformed, OutOfRange}
use Rattle.csdf_bytes.specs.declared.tokens.TokenFault.{TokenFault}
use Rattle.csdf_bytes.specs.declared.tokens.TokenFault.TheVariants.{Read, TooMany, Syntax, Range, Memory}
use Rattle.csdf_bytes.specs.FileTokens.{HasRead, Tells, file_entry, file_fault, file_tokens}
use Rattle.csdf_bytes.specs.TokenStream.{IsFaulty, IsOneLine, ReadsEntry, ReadsOn, entries_from, entry_at, line_fault, stream_entry_of}
use Rattle.csdf_bytes.specs.TokenText.{at_line, collected, entry_of, is_newline, no_more_than, token_in, tokens_in, tokens_up_to, word_of, words_from}
use Rattle.csdf_bytes.proofs.TokenStreamLemmas.{entries_from-one}
use Rattle.csdf_bytes.proofs.TokenTextLemmas.{after, after-nil, within}

-- ---- what entries come to that begin with tokens

after-cons : (token : ℤ) (tokens : List ℤ) (found : Result (List ℤ) TokenFault)
    → result_map_both (λ more. token ∷ more) (λ fault. fault) (after tokens found) ≡ after (token ∷ tokens) found
after-cons token tokens (Ok more) = refl
after-cons token tokens (Err fault) = refl

collected-tokens : (tokens : List ℤ) (entries : List (Result ℤ TokenFault)) (n m : ℕ) → m ≡ length tokens + n
    → collected (take m (map Ok tokens ++ entries)) ≡ after tokens (collected (take n entries))
collected-tokens [] entries n m size =
    let same : m ≡ n = omega (arith, size) in ap (λ k. collected (take k entries)) same ∙ after-nil (collected (take n entries))
collected-tokens (token ∷ tokens) entries n m size =
    let one_more : m ≡ suc (length tokens + n) = omega (arith, size) in
    ap (λ k. collected (take k (Ok token ∷ (map Ok tokens ++ entries)))) one_more
    ∙ ap (result_map_both (λ more. token ∷ more) (λ fault. fault)) (collected-tokens tokens entries n (length tokens + n) refl)
    ∙ after-cons token tokens (collected (take n entries))

up_to-tokens : (limit : ℕ) (tokens : List ℤ) (entries : List (Result ℤ TokenFault)) (n : ℕ) → limit + 1 ≡ length tokens + n
    → tokens_up_to limit (map Ok tokens ++ entries) ≡ no_more_than limit (after tokens (collected (take n entries)))
unfolding tokens_up_to
up_to-tokens limit tokens entries n size = ap (no_more_than limit) (collected-tokens tokens entries n (limit + 1) size)

-- all of them
up_to-end : (limit : ℕ) (tokens : List ℤ) → length tokens ≤ limit → tokens_up_to limit (map Ok tokens) ≡ Ok tokens
up_to-end limit tokens few =
    ap (tokens_up_to limit) (sym (append-nil (map Ok tokens)))
    ∙ up_to-tokens limit tokens [] (suc (limit - length tokens)) (omega (arith, few))
    ∙ ap (λ all. no_more_than limit (Ok all)) (append-nil tokens)
    ∙ ap (λ test. cond test (Err TooMany) (Ok tokens)) (within limit tokens few)

-- a fault behind them
up_to-fault : (limit : ℕ) (tokens : List ℤ) (fault : TokenFault) (entries : List (Result ℤ TokenFault)) → length tokens ≤ limit
    → tokens_up_to limit (map Ok tokens ++ Err fault ∷ entries) ≡ Err fault
up_to-fault limit tokens fault entries few = up_to-tokens limit tokens (Err fault ∷ entries) (suc (limit - length tokens)) (omega (arith, few))

above-test : (limit n : ℕ) → n ≡ limit + 1 → nat_lt limit n ≡ true
above-test limit n is = grind (arith, nat_tests)

-- one too many
up_to-many : (limit : ℕ) (tokens : List ℤ) (entries : List (Result ℤ TokenFault)) → length tokens ≡ limit + 1
    → tokens_up_to limit (map Ok tokens ++ entries) ≡ Err TooMany
up_to-many limit tokens entries full =
    up_to-tokens limit tokens entries 0 (omega (arith, full))
    ∙ ap (λ all. no_more_than limit (Ok all)) (append-nil tokens)
    ∙ ap (λ test. cond test (Err TooMany) (Ok tokens)) (above-test limit (length tokens) full)

-- ---- faults of a stream as those of a file

file-entries : (tokens : List ℤ) (entries : List (Result ℤ ReadFault)) → map file_entry (map Ok tokens ++ entries) ≡ map Ok tokens ++ map file_entry entries
file-entries [] entries = refl
file-entries (token ∷ tokens) entries = ap (λ others. Ok token ∷ others) (file-entries tokens entries)

told-number : (n : ℕ) → n ≤ 4294967295 → min (min n 18446744073709551615) 4294967295 ≡ n
told-number n within = omega (arith, within)

file_entry-word : (n : ℕ) (found : Result ℤ WordFault) → n ≤ 4294967295
    → file_entry (result_map_both (λ token. token) (line_fault (min n 18446744073709551615)) found) ≡ result_map_both (λ token. token) (at_line n) found
file_entry-word n (Ok token) within = refl
file_entry-word n (Err Malformed) within = ap (λ number. Err (Syntax number)) (told-number n within)
file_entry-word n (Err OutOfRange) within = ap (λ number. Err (Range number)) (told-number n within)

abbrev has_word : ℕ × List ℕ → Bool
has_word entry = nat_lt 0 (length entry.1)

map-test : {X Y : Type 0} (f : X → Y) (test : Bool) (x : X) (xs : List X) → map f (cond test (x ∷ xs) xs) ≡ cond test (f x ∷ map f xs) (map f xs)
map-test f true x xs = refl
map-test f false x xs = refl

file_entry-words : (words : List (List ℕ)) (n : ℕ) → n + length words ≤ 4294967296
    → map file_entry (map stream_entry_of (filter has_word (enumerate_from n words))) ≡ map entry_of (filter has_word (enumerate_from n words))
file_entry-words [] n within = refl
file_entry-words (word ∷ words) n within =
    let others : List (ℕ × List ℕ) = filter has_word (enumerate_from (n + 1) words) in
    let test : Bool = nat_lt 0 (length word) in
    ap (map file_entry) (map-test stream_entry_of test (n, word) others)
    ∙ map-test file_entry test (stream_entry_of (n, word)) (map stream_entry_of others)
    ∙ ap (λ entry. cond test (entry ∷ map file_entry (map stream_entry_of others)) (map file_entry (map stream_entry_of others)))
    (file_entry-word n (token_in word) (omega (arith, within)))
    ∙ ap (λ entries. cond test (entry_of (n, word) ∷ entries) entries) (file_entry-words words (n + 1) (omega (arith, within)))
    ∙ sym (map-test entry_of test (n, word) others)

-- the text of a file has no line whose number is not told
pub file_tokens-short : (text : List ℕ) → length text ≤ 16777216 → file_tokens text ≡ tokens_up_to 1000000 (map entry_of (words_from 1 text))
unfolding entries_from
file_tokens-short text short =
    ap (tokens_up_to 1000000) (file_entry-words (map word_of (slice_split is_newline text)) 1
    (omega (arith, length-map (slice_split is_newline text) word_of, length-slice_split is_newline text, count_by-le-length is_newline text, short)))

-- ---- a file's text so far

pub has_read-start : HasRead [] 1 [] [] (Ok tt)
has_read-start = (omega arith, λ more. refl)

-- bytes that were fetched
pub has_read-fetched : (text piece bytes held : List ℕ) (line : ℕ) (tokens : List ℤ) (found : Result (Unit {0}) TokenFault) → HasRead text line bytes tokens found
    → held ≡ bytes ++ piece → HasRead (text ++ piece) line held tokens found
has_read-fetched text piece bytes held line tokens (Ok u) read grown = (
  read.0,
  λ more. ap (entries_from 1) (append_assoc text piece more) ∙ read.1 (piece ++ more)
      ∙ ap (λ rest. map Ok tokens ++ entries_from line rest) (sym (append_assoc bytes piece more))
      ∙ ap (λ rest. map Ok tokens ++ entries_from line (rest ++ more)) (sym grown),
)
has_read-fetched text piece bytes held line tokens (Err fault) read grown =
    (read.0, λ told more. ap file_tokens (append_assoc text piece more) ∙ read.1 told (piece ++ more))

joined : (before given : List ℤ) (entries : List (Result ℤ ReadFault)) → map Ok before ++ (map Ok given ++ entries) ≡ map Ok (before ++ given) ++ entries
joined [] given entries = refl
joined (token ∷ tokens) given entries = ap (λ others. Ok token ∷ others) (joined tokens given entries)

-- lines that were read, and what the whole text then begins with
lines-read : (text bytes rest : List ℕ) (line next : ℕ) (before after : List ℤ) → HasRead text line bytes before (Ok tt)
    → ReadsOn line bytes next rest before after → (more : List ℕ) → entries_from 1 (text ++ more) ≡ map Ok after ++ entries_from next (rest ++ more)
lines-read text bytes rest line next before after so_far read more =
    so_far.1 more ∙ ap (λ entries. map Ok before ++ entries) (read.entries more)
    ∙ joined before read.given (entries_from next (rest ++ more))
    ∙ ap (λ tokens. map Ok tokens ++ entries_from next (rest ++ more)) (sym read.appended)

pub has_read-lines : (text bytes rest : List ℕ) (line next : ℕ) (before after : List ℤ) → HasRead text line bytes before (Ok tt)
    → ReadsOn line bytes next rest before after → length after ≤ 1000000 → HasRead text next rest after (Ok tt)
has_read-lines text bytes rest line next before after so_far read few = (few, lines-read text bytes rest line next before after so_far read)

pub has_read-many : (text bytes rest : List ℕ) (line next : ℕ) (before after : List ℤ) → HasRead text line bytes before (Ok tt)
    → ReadsOn line bytes next rest before after → length after ≡ 1000001 → HasRead text next rest after (Err TooMany)
has_read-many text bytes rest line next before after so_far read full = (
  λ same. cc,
  λ told more. ap (λ entries. tokens_up_to 1000000 (map file_entry entries)) (lines-read text bytes rest line next before after so_far read more)
      ∙ ap (tokens_up_to 1000000) (file-entries after (entries_from next (rest ++ more)))
      ∙ up_to-many 1000000 after (map file_entry (entries_from next (rest ++ more))) full,
)

not-read : (fault : ReadFault) → fault ≢ StreamRead → file_fault fault ≢ Read
not-read StreamRead other same = other refl
not-read (StreamSyntax line) other same = cc
not-read (StreamRange line) other same = cc
not-read StreamMemory other same = cc

not-memory : (fault : ReadFault) → file_fault fault ≢ Memory → fault ≢ StreamMemory
not-memory fault other same = other (ap file_fault same)

pub has_read-fault : (text bytes rest : List ℕ) (line next : ℕ) (before after : List ℤ) (fault : ReadFault) → HasRead text line bytes before (Ok tt)
    → ReadsOn line bytes next rest before after → length after ≤ 1000000 → fault ≢ StreamRead → (fault ≢ StreamMemory → IsFaulty next rest fault)
    → HasRead text next rest after (Err (file_fault fault))
has_read-fault text bytes rest line next before after fault so_far read few other faulty = (
  not-read fault other,
  λ told more. let first = faulty (not-memory fault told) more in
      ap (λ entries. tokens_up_to 1000000 (map file_entry entries)) (lines-read text bytes rest line next before after so_far read more
      ∙ ap (λ entries. map Ok after ++ entries) first.1)
      ∙ ap (tokens_up_to 1000000) (file-entries after (Err fault ∷ first.0))
      ∙ up_to-fault 1000000 after (file_fault fault) (map file_entry first.0) few,
)

-- ---- a file's whole text

last-entries : (text bytes : List ℕ) (line : ℕ) (before : List ℤ) → HasRead text line bytes before (Ok tt) → IsOneLine bytes
    → entries_from 1 text ≡ map Ok before ++ entry_at line bytes
last-entries text bytes line before so_far one =
    ap (entries_from 1) (sym (append-nil text)) ∙ so_far.1 []
    ∙ ap (λ rest. map Ok before ++ entries_from line rest) (append-nil bytes)
    ∙ ap (λ entries. map Ok before ++ entries) (entries_from-one line bytes one)

last-read : (text bytes : List ℕ) (line : ℕ) (before after : List ℤ) → HasRead text line bytes before (Ok tt) → IsOneLine bytes
    → ReadsEntry line bytes before after → entries_from 1 text ≡ map Ok after
last-read text bytes line before after so_far one read =
    last-entries text bytes line before so_far one
    ∙ ap (λ entries. map Ok before ++ entries) (read.entries ∙ sym (append-nil (map Ok read.given)))
    ∙ joined before read.given [] ∙ append-nil (map Ok (before ++ read.given)) ∙ ap (map Ok) (sym read.appended)

file-all : (tokens : List ℤ) → map file_entry (map Ok tokens) ≡ map Ok tokens
file-all [] = refl
file-all (token ∷ tokens) = ap (λ others. Ok token ∷ others) (file-all tokens)

pub tells-tokens : (text bytes : List ℕ) (line : ℕ) (before after : List ℤ) → HasRead text line bytes before (Ok tt) → IsOneLine bytes
    → ReadsEntry line bytes before after → length after ≤ 1000000 → Tells text (Ok after)
tells-tokens text bytes line before after so_far one read few =
    ap (λ entries. tokens_up_to 1000000 (map file_entry entries)) (last-read text bytes line before after so_far one read)
    ∙ ap (tokens_up_to 1000000) (file-all after) ∙ up_to-end 1000000 after few

pub tells-many : (text bytes : List ℕ) (line : ℕ) (before after : List ℤ) → HasRead text line bytes before (Ok tt) → IsOneLine bytes
    → ReadsEntry line bytes before after → 1000000 < length after → Tells text (Err TooMany)
tells-many text bytes line before after so_far one read many =
    let full : length after ≡ 1000001 =
    let few = so_far.0 in omega (arith, few, many, ap length read.appended, length-append before read.given, read.one) in (
      λ same. cc,
      λ told. ap (λ entries. tokens_up_to 1000000 (map file_entry entries)) (last-read text bytes line before after so_far one read)
          ∙ ap (tokens_up_to 1000000) (file-all after ∙ sym (append-nil (map Ok after))) ∙ up_to-many 1000000 after [] full,
    )

pub tells-fault : (text bytes : List ℕ) (line : ℕ) (before : List ℤ) (fault : ReadFault) → HasRead text line bytes before (Ok tt) → IsOneLine bytes
    → fault ≢ StreamRead → (fault ≢ StreamMemory → entry_at line bytes ≡ Err fault ∷ []) → Tells text (Err (file_fault fault))
tells-fault text bytes line before fault so_far one other faulty = (
  not-read fault other,
  λ told. ap (λ entries. tokens_up_to 1000000 (map file_entry entries)) (last-entries text bytes line before so_far one
      ∙ ap (λ entries. map Ok before ++ entries) (faulty (not-memory fault told)))
      ∙ ap (tokens_up_to 1000000) (file-entries before (Err fault ∷ []))
      ∙ up_to-fault 1000000 before (file_fault fault) [] so_far.0,
)

-- a fault that was found before the end
pub tells-found : (text bytes : List ℕ) (line : ℕ) (tokens : List ℤ) (fault : TokenFault) → HasRead text line bytes tokens (Err fault) → Tells text (Err fault)
tells-found text bytes line tokens fault read = (read.0, λ told. ap file_tokens (sym (append-nil text)) ∙ read.1 told [])

-- ---- what the code tests

above : (n : ℕ) → nat_lt 1000000 n ≡ true → 1000000 < n
above n is = grind (arith, nat_tests)

not-above : (n : ℕ) → nat_lt 1000000 n ≡ false → n ≤ 1000000
not-above n is = grind (arith, nat_tests)

next-test : (text bytes rest : List ℕ) (line next : ℕ) (before after : List ℤ) → HasRead text line bytes before (Ok tt)
    → ReadsOn line bytes next rest before after → length after ≤ 1000001 → (test : Bool) → nat_lt 1000000 (length after) ≡ test
    → HasRead text next rest after (cond test (Err TooMany) (Ok tt))
next-test text bytes rest line next before after so_far read full true is =
    has_read-many text bytes rest line next before after so_far read (let many = above (length after) is in omega (arith, many, full))
next-test text bytes rest line next before after so_far read full false is =
    has_read-lines text bytes rest line next before after so_far read (not-above (length after) is)

-- one token more than the limit is too many
pub has_read-next : (text bytes rest : List ℕ) (line next most : ℕ) (before after : List ℤ) (result : Result (Unit {0}) TokenFault)
    → HasRead text line bytes before (Ok tt) → ReadsOn line bytes next rest before after → length after ≤ length before + most → most ≡ 1000001 - length before
    → result ≡ cond (nat_lt 1000000 (length after)) (Err TooMany) (Ok tt) → HasRead text next rest after result
has_read-next text bytes rest line next most before after result so_far read few room is =
    let full : length after ≤ 1000001 = let least = so_far.0 in omega (arith, least, few, room) in
    subst (HasRead text next rest after) (sym is) (next-test text bytes rest line next before after so_far read full (nat_lt 1000000 (length after)) refl)

-- what is told where these are the tokens
abbrev pub told_of : List ℤ → Result (Unit {0}) TokenFault → Result (List ℤ) TokenFault
told_of tokens result = result_map_both (λ _. tokens) (λ fault. fault) result

end-test : (text bytes : List ℕ) (line : ℕ) (before after : List ℤ) → HasRead text line bytes before (Ok tt) → IsOneLine bytes
    → ReadsEntry line bytes before after → (test : Bool) → nat_lt 1000000 (length after) ≡ test
    → Tells text (told_of after (cond test (Err TooMany) (Ok tt)))
end-test text bytes line before after so_far one read true is = tells-many text bytes line before after so_far one read (above (length after) is)
end-test text bytes line before after so_far one read false is = tells-tokens text bytes line before after so_far one read (not-above (length after) is)

pub tells-end : (text bytes : List ℕ) (line : ℕ) (before after : List ℤ) (result : Result (Unit {0}) TokenFault) → HasRead text line bytes before (Ok tt)
    → IsOneLine bytes → ReadsEntry line bytes before after → result ≡ cond (nat_lt 1000000 (length after)) (Err TooMany) (Ok tt)
    → Tells text (told_of after result)
tells-end text bytes line before after result so_far one read is =
    subst (λ told. Tells text (told_of after told)) (sym is)
    (end-test text bytes line before after so_far one read (nat_lt 1000000 (length after)) refl)

-- what is told of all the bytes that a device had
pub file-told : {V : Type 0} (result : Result (Result V TokenFault) InputFault) (outcome : Result V TokenFault) (items : V → List ℤ) (left rest : Option (List ℕ))
    (text : List ℕ) → IfOk result (λ told. told ≡ outcome) → IfOk result (λ told. IfErr told (λ fault. fault ≢ Memory))
    → Tells text (result_map_both items (λ fault. fault) outcome) → Consumes left rest text → IsAtEnd rest → length text ≤ 16777216
    → IfOk result (λ told. IfSome left (λ bytes. tokens_up_to 1000000 (map entry_of (words_from 1 bytes)) ≡ result_map_both items (λ fault. fault) told))
file-told (Err cause) outcome items left rest text same told tells taken ended short = tt
file-told (Ok (Ok v)) outcome items left rest text same told tells taken ended short =
    Consumes-whole left rest text (λ bytes. tokens_up_to 1000000 (map entry_of (words_from 1 bytes)) ≡ Ok (items v)) taken ended
    (sym (file_tokens-short text short) ∙ subst (λ found. Tells text (result_map_both items (λ fault. fault) found)) (sym same) tells)
file-told (Ok (Err fault)) outcome items left rest text same told tells taken ended short =
    let cause = subst (λ found. Tells text (result_map_both items (λ fault. fault) found)) (sym same) tells in
    Consumes-whole left rest text (λ bytes. tokens_up_to 1000000 (map entry_of (words_from 1 bytes)) ≡ Err fault) taken ended
    (sym (file_tokens-short text short) ∙ cause.1 told)

not-longer : (limit n : ℕ) → n ≤ limit → nat_lt limit n ≡ false
not-longer limit n short = grind (arith, nat_tests)

-- a text that is not too long has the tokens of its lines
tokens_in-short : (text : List ℕ) → length text ≤ 16777216 → tokens_in text ≡ file_tokens text
tokens_in-short text short =
    ap (λ test. cond test (Err TooMany) (tokens_up_to 1000000 (map entry_of (words_from 1 text)))) (not-longer 16777216 (length text) short)
    ∙ sym (file_tokens-short text short)

-- what is told of the bytes that came
pub file-came : {V : Type 0} (result : Result (Result V TokenFault) InputFault) (outcome : Result V TokenFault) (items : V → List ℤ) (left rest : Option (List ℕ))
    (text : List ℕ) → IfOk result (λ told. told ≡ outcome) → IfOk result (λ told. IfErr told (λ fault. fault ≢ Memory))
    → Tells text (result_map_both items (λ fault. fault) outcome) → Consumes left rest text → length text ≤ 16777216
    → IfOk result (λ told. (came : List ℕ) × Consumes left rest came × (tokens_in came ≡ result_map_both items (λ fault. fault) told))
file-came (Err cause) outcome items left rest text same told tells taken short = tt
file-came (Ok (Ok v)) outcome items left rest text same told tells taken short =
    (text, taken, tokens_in-short text short ∙ subst (λ found. Tells text (result_map_both items (λ fault. fault) found)) (sym same) tells)
file-came (Ok (Err fault)) outcome items left rest text same told tells taken short =
    let cause = subst (λ found. Tells text (result_map_both items (λ fault. fault) found)) (sym same) tells in
    (text, taken, tokens_in-short text short ∙ cause.1 told)

pub file-cause : {V : Type 0} (result : Result (Result V TokenFault) InputFault) (outcome : Result V TokenFault) (items : V → List ℤ) (text : List ℕ)
    → IfOk result (λ told. told ≡ outcome) → IfOk result (λ told. IfErr told (λ fault. fault ≢ Memory))
    → Tells text (result_map_both items (λ fault. fault) outcome)
    → IfOk result (λ told. IfErr told (λ fault. (fault ≢ Read) × (fault ≢ Memory)))
file-cause (Err cause) outcome items text same told tells = tt
file-cause (Ok (Ok v)) outcome items text same told tells = tt
file-cause (Ok (Err fault)) outcome items text same told tells =
    let cause = subst (λ found. Tells text (result_map_both items (λ fault. fault) found)) (sym same) tells in (cause.0, told)

pub on_ok : {T E : Type 0} (r : Result T E) (P : Type 0) → P → OnOk r P
on_ok (Ok t) P holds = holds
on_ok (Err e) P holds = tt

-- bytes that were taken are among those that there were
pub taken-long : (left rest : Option (List ℕ)) (text : List ℕ) (n : ℕ) → Consumes left rest text → n < length text → IfSome left (λ bytes. n < length bytes)
taken-long None rest text n taken long = tt
taken-long (Some xs) None text n taken long = absurd taken
taken-long (Some xs) (Some ys) text n taken long = omega (arith, ap length taken, length-append text ys, long)
