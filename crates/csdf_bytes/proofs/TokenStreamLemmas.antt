-- The entries of a text, line by line, and what is read of a stream.
use Rattle.std.proofs.Common.{◌≡◌, ℕ, ◌+◌, ◌<◌, ◌≤◌, Bool, true, false, cond, List, [], ◌∷◌, ◌++◌, length, map, take, drop, get_or, refl, sym, ◌∙◌, ap, subst}
use Rattle.std.proofs.Common.{arith, append_assoc, append-nil, length-append, Ok, Err, Result}
use Rattle.std.specs.Prelude.{ℤ, ◌≢◌, min, nat_lt, ◌||◌, Option, None, Some, IfErr}
use Rattle.std.specs.Io.KnownBytes.{IsAtEnd, Keeps}
use Rattle.std.specs.List.{enumerate_from, filter, list_any, position, position_or_len, slice_split, All}
use Rattle.std.specs.Option.{option_map}
use Rattle.std.specs.Result.{result_map_both}
use Rattle.std.proofs.lemmas.Bool.Decides.{nat_tests}
use Rattle.std.proofs.lemmas.List.{drop-drop, get_or-take, length-take-le, map-append, nil_from_length, take-append-drop}
use Rattle.std.proofs.lemmas.List.Elements.{All-cons, All-from_get_or, All-nil}
use Rattle.std.proofs.lemmas.List.Folds.{list_any-append, list_any_none}
use Rattle.std.proofs.lemmas.List.Splits.{slice_split_at, slice_split_none}
use Rattle.std.proofs.lemmas.List.Sums.{fails_before_first, passes_at_first, split_at_first}
use Rattle.csdf_bytes.specs.Buffered.{FetchesTo}
use Rattle.csdf_bytes.specs.QuickLine.{QuickLine}
use Rattle.csdf_bytes.specs.declared.token_reader.ReadFault.{ReadFault}
use Rattle.csdf_bytes.specs.declared.token_reader.ReadFault.TheVariants.{Memory}
use Rattle.csdf_bytes.specs.declared.token_word.WordFault.{WordFault}
use Rattle.csdf_bytes.specs.TokenStream.{GivesTokens, HasLine, IsFaulty, IsNext, IsOneLine, Loses, ReadsEntry, ReadsOn, entries_from, entry_at}
use Rattle.csdf_bytes.specs.TokenStream.{line_fault, next_line, stream_entry_of}
use Rattle.csdf_bytes.specs.TokenText.{is_newline, token_in, word_of}

-- ---- numbers of lines

same-next : (n m most : ℕ) → min n most ≡ min m most → min (n + 1) most ≡ min (m + 1) most
same-next n m most same = omega (arith, same)

next-same : (n most : ℕ) → min (n + 1) most ≡ min (min (n + 1) most) most
next-same n most = omega arith

-- an entry that counts
abbrev has_word : ℕ × List ℕ → Bool
has_word entry = nat_lt 0 (length entry.1)

-- the entries of these words, which are numbered from n
abbrev entries_of : ℕ → List (List ℕ) → List (Result ℤ ReadFault)
entries_of n words = map stream_entry_of (filter has_word (enumerate_from n words))

map-first : {X Y : Type 0} (f : X → Y) (test : Bool) (x : X) (xs : List X) → map f (cond test (x ∷ xs) xs) ≡ cond test (f x ∷ []) [] ++ map f xs
map-first f true x xs = refl
map-first f false x xs = refl

entries_of-first : (n : ℕ) (word : List ℕ) (words : List (List ℕ))
    → entries_of n (word ∷ words) ≡ cond (nat_lt 0 (length word)) (stream_entry_of (n, word) ∷ []) [] ++ entries_of (n + 1) words
entries_of-first n word words = map-first stream_entry_of (nat_lt 0 (length word)) (n, word) (filter has_word (enumerate_from (n + 1) words))

-- numbers that are told alike
entries_of-alike : (words : List (List ℕ)) (n m : ℕ) → min n 18446744073709551615 ≡ min m 18446744073709551615 → entries_of n words ≡ entries_of m words
entries_of-alike [] n m same = refl
entries_of-alike (word ∷ words) n m same =
    entries_of-first n word words
    ∙ ap (λ number. cond (nat_lt 0 (length word)) (result_map_both (λ token. token) (line_fault number) (token_in word) ∷ []) [] ++ entries_of (n + 1) words) same
    ∙ ap (λ others. cond (nat_lt 0 (length word)) (stream_entry_of (m, word) ∷ []) [] ++ others)
    (entries_of-alike words (n + 1) (m + 1) (same-next n m 18446744073709551615 same))
    ∙ sym (entries_of-first m word words)

-- ---- the first line of a text, and the last

entries_from-line : (n : ℕ) (line rest : List ℕ) → All (λ byte. is_newline byte ≡ false) line
    → entries_from n (line ++ 10 ∷ rest) ≡ entry_at n line ++ entries_from (next_line n) rest
unfolding entries_from entry_at
entries_from-line n line rest one =
    ap (λ lines. entries_of n (map word_of lines)) (slice_split_at is_newline line 10 rest one refl)
    ∙ entries_of-first n (word_of line) (map word_of (slice_split is_newline rest))
    ∙ ap (λ others. cond (nat_lt 0 (length (word_of line))) (stream_entry_of (n, word_of line) ∷ []) [] ++ others)
    (entries_of-alike (map word_of (slice_split is_newline rest)) (n + 1) (next_line n) (next-same n 18446744073709551615))

entries_from-last : (n : ℕ) (line : List ℕ) → All (λ byte. is_newline byte ≡ false) line → entries_from n line ≡ entry_at n line
unfolding entries_from entry_at
entries_from-last n line one =
    ap (λ lines. entries_of n (map word_of lines)) (slice_split_none is_newline line one)
    ∙ entries_of-first n (word_of line) []
    ∙ append-nil (cond (nat_lt 0 (length (word_of line))) (stream_entry_of (n, word_of line) ∷ []) [])

entries_from-nil : (n : ℕ) → entries_from n [] ≡ []
unfolding entries_from
entries_from-nil n = refl

-- the first newline of a text is at this place
record EndsAt (text : List ℕ) (end : ℕ) : Type 0 where
  within : end < length text
  parts : text ≡ take end text ++ 10 ∷ drop (end + 1) text
  one : All (λ byte. is_newline byte ≡ false) (take end text)

is-ten : (byte : ℕ) → is_newline byte ≡ true → byte ≡ 10
is-ten byte is = grind (arith, nat_tests)

ends-first : (text : List ℕ) → position_or_len is_newline text < length text → EndsAt text (position_or_len is_newline text)
ends-first text within =
    let end : ℕ = position_or_len is_newline text in
    let here : get_or text end 0 ≡ 10 = is-ten (get_or text end 0) (passes_at_first is_newline text 0 within) in
    record {
      within = within;
      parts = split_at_first is_newline text 0 within ∙ ap (λ byte. take end text ++ byte ∷ drop (end + 1) text) here;
      one = All-from_get_or (λ byte. is_newline byte ≡ false) (take end text) 0
          (λ k inside. let before : k < end = omega (arith, length-take-le end text (omega (arith, within)), inside) in
          ap is_newline (get_or-take end text k 0 before) ∙ fails_before_first is_newline text k 0 before);
    }

some-place : (test : Bool) (at end : ℕ) → cond test (Some at) None ≡ Some end → (test ≡ true) × (at ≡ end)
some-place true at end is = (refl, cc)
some-place false at end is = absurd (cc)

no-place : (test : Bool) (at : ℕ) → cond test (Some at) None ≡ None → test ≡ false
no-place true at is = absurd (cc)
no-place false at is = refl

lt-test : (n m : ℕ) → nat_lt n m ≡ true → n < m
lt-test n m is = grind (arith, nat_tests)

ge-test : (n m : ℕ) → nat_lt n m ≡ false → m ≤ n
ge-test n m is = grind (arith, nat_tests)

ends-at : (text : List ℕ) (end : ℕ) → position is_newline text ≡ Some end → EndsAt text end
ends-at text end found =
    let place = some-place (nat_lt (position_or_len is_newline text) (length text)) (position_or_len is_newline text) end found in
    subst (EndsAt text) place.1 (ends-first text (lt-test _ _ place.0))

pub ends-within : (text : List ℕ) (end : ℕ) → position is_newline text ≡ Some end → end < length text
ends-within text end found = (ends-at text end found).within

or-true : (a b : Bool) → b ≡ true → (a || b) ≡ true
or-true true b is = refl
or-true false b is = is

-- a text whose rest has a newline
pub has-line : (text : List ℕ) (used end : ℕ) → position is_newline (drop used text) ≡ Some end → HasLine text
has-line text used end found =
    let place = ends-at (drop used text) end found in
    ap (list_any is_newline) (sym (take-append-drop used text) ∙ ap (λ rest. take used text ++ rest) place.parts)
    ∙ list_any-append is_newline (take used text) (take end (drop used text) ++ 10 ∷ drop (end + 1) (drop used text))
    ∙ or-true (list_any is_newline (take used text)) _
    (list_any-append is_newline (take end (drop used text)) (10 ∷ drop (end + 1) (drop used text))
    ∙ or-true (list_any is_newline (take end (drop used text))) true refl)

-- a text with no newline
pub one-line : (text : List ℕ) → position is_newline text ≡ None → IsOneLine text
one-line text none =
    let past = ge-test _ _ (no-place (nat_lt (position_or_len is_newline text) (length text)) (position_or_len is_newline text) none) in
    list_any_none is_newline text
    (All-from_get_or (λ byte. is_newline byte ≡ false) text 0 (λ k inside. fails_before_first is_newline text k 0 (omega (arith, past, inside))))

neither : (a b : Bool) → (a || b) ≡ false → (a ≡ false) × (b ≡ false)
neither true b none = absurd (cc)
neither false b none = (refl, none)

each-fails : (text : List ℕ) → IsOneLine text → All (λ byte. is_newline byte ≡ false) text
each-fails [] none = All-nil (λ byte. is_newline byte ≡ false)
each-fails (byte ∷ bytes) none =
    let both = neither (is_newline byte) (list_any is_newline bytes) none in
    All-cons (λ byte. is_newline byte ≡ false) byte bytes both.0 (each-fails bytes both.1)

pub entries_from-one : (n : ℕ) (line : List ℕ) → IsOneLine line → entries_from n line ≡ entry_at n line
entries_from-one n line one = entries_from-last n line (each-fails line one)

-- ---- one line

-- a line with no word
pub reads-blank : (line : ℕ) (bytes word : List ℕ) (tokens : List ℤ) → word ≡ word_of bytes → length word ≡ 0 → ReadsEntry line bytes tokens tokens
unfolding entry_at
reads-blank line bytes word tokens is none = record {
  given = [];
  one = omega arith;
  appended = sym (append-nil tokens);
  entries = ap (λ test. cond test (stream_entry_of (line, word_of bytes) ∷ []) []) (let size : length (word_of bytes) ≡ 0 = ap length (sym is) ∙ none in
      (let test : nat_lt 0 (length (word_of bytes)) ≡ false = grind (arith, nat_tests) in test));
}

-- a line with a word
entry_at-word : (line : ℕ) (bytes word : List ℕ) → word ≡ word_of bytes → 0 < length word → entry_at line bytes ≡ stream_entry_of (line, word) ∷ []
unfolding entry_at
entry_at-word line bytes word is some =
    ap (λ text. cond (nat_lt 0 (length text)) (stream_entry_of (line, text) ∷ []) []) (sym is)
    ∙ ap (λ test. cond test (stream_entry_of (line, word) ∷ []) []) (let test : nat_lt 0 (length word) ≡ true = grind (arith, nat_tests) in test)

pub reads-token : (line : ℕ) (bytes word : List ℕ) (token : ℤ) (before after : List ℤ) → word ≡ word_of bytes → 0 < length word → token_in word ≡ Ok token
    → after ≡ before ++ token ∷ [] → ReadsEntry line bytes before after
reads-token line bytes word token before after is some reads grown = record {
  given = token ∷ [];
  one = omega arith;
  appended = grown;
  entries = entry_at-word line bytes word is some ∙ ap (λ found. result_map_both (λ t. t) (line_fault (min line 18446744073709551615)) found ∷ []) reads;
}

least : (n most : ℕ) → n ≤ most → min n most ≡ n
least n most within = omega arith

pub reads-fault : (line : ℕ) (bytes word : List ℕ) (fault : WordFault) → line ≤ 18446744073709551615 → word ≡ word_of bytes → 0 < length word
    → token_in word ≡ Err fault → entry_at line bytes ≡ Err (line_fault line fault) ∷ []
reads-fault line bytes word fault within is some reads =
    entry_at-word line bytes word is some
    ∙ ap (λ found. result_map_both (λ t. t) (line_fault (min line 18446744073709551615)) found ∷ []) reads
    ∙ ap (λ number. Err (line_fault number fault) ∷ []) (least line 18446744073709551615 within)

-- ---- what is read of a text

pub reads-nothing : (line : ℕ) (bytes : List ℕ) (tokens : List ℤ) → ReadsOn line bytes line bytes tokens tokens
reads-nothing line bytes tokens = record { given = []; appended = sym (append-nil tokens); entries = λ more. refl }

-- the first line of a text, and what follows
first-line : (line : ℕ) (text : List ℕ) (end : ℕ) (more : List ℕ) → position is_newline text ≡ Some end
    → entries_from line (text ++ more) ≡ entry_at line (take end text) ++ entries_from (next_line line) (drop (end + 1) text ++ more)
first-line line text end more found =
    let place = ends-at text end found in
    ap (λ bytes. entries_from line (bytes ++ more)) place.parts
    ∙ ap (entries_from line) (append_assoc (take end text) (10 ∷ drop (end + 1) text) more)
    ∙ entries_from-line line (take end text) (drop (end + 1) text ++ more) place.one

-- one line more
pub reads-line : (first line : ℕ) (text : List ℕ) (used end : ℕ) (before mid after : List ℤ) → ReadsOn first text line (drop used text) before mid
    → position is_newline (drop used text) ≡ Some end → ReadsEntry line (take end (drop used text)) mid after
    → ReadsOn first text (next_line line) (drop (used + (end + 1)) text) before after
reads-line first line text used end before mid after so_far found one =
    let step = λ (more : List ℕ). first-line line (drop used text) end more found
    ∙ ap (λ entries. entries ++ entries_from (next_line line) (drop (end + 1) (drop used text) ++ more)) one.entries
    ∙ ap (λ rest. map Ok one.given ++ entries_from (next_line line) (rest ++ more)) (drop-drop (end + 1) used text) in
    record {
      given = so_far.given ++ one.given;
      appended = one.appended ∙ ap (λ tokens. tokens ++ one.given) so_far.appended ∙ append_assoc before so_far.given one.given;
      entries = λ more. so_far.entries more ∙ ap (λ entries. map Ok so_far.given ++ entries) (step more)
          ∙ sym (append_assoc (map Ok so_far.given) (map Ok one.given) (entries_from (next_line line) (drop (used + (end + 1)) text ++ more)))
          ∙ ap (λ entries. entries ++ entries_from (next_line line) (drop (used + (end + 1)) text ++ more)) (sym (map-append Ok so_far.given one.given));
    }

pub length-reads-line : (mid after : List ℤ) (line : ℕ) (bytes : List ℕ) → ReadsEntry line bytes mid after
    → (length mid ≤ length after) × (length after ≤ length mid + 1)
length-reads-line mid after line bytes one =
    (omega (arith, ap length one.appended, length-append mid one.given), omega (arith, ap length one.appended, length-append mid one.given, one.one))

-- lines of what is left
pub reads-then : (first line next : ℕ) (text : List ℕ) (used more_used : ℕ) (before mid after : List ℤ) → ReadsOn first text line (drop used text) before mid
    → ReadsOn line (drop used text) next (drop more_used (drop used text)) mid after
    → ReadsOn first text next (drop (used + more_used) text) before after
reads-then first line next text used more_used before mid after so_far then' = record {
  given = so_far.given ++ then'.given;
  appended = then'.appended ∙ ap (λ tokens. tokens ++ then'.given) so_far.appended ∙ append_assoc before so_far.given then'.given;
  entries = λ more. so_far.entries more ∙ ap (λ entries. map Ok so_far.given ++ entries) (then'.entries more)
      ∙ sym (append_assoc (map Ok so_far.given) (map Ok then'.given) (entries_from next (drop more_used (drop used text) ++ more)))
      ∙ ap (λ entries. entries ++ entries_from next (drop more_used (drop used text) ++ more)) (sym (map-append Ok so_far.given then'.given))
      ∙ ap (λ rest. map Ok (so_far.given ++ then'.given) ++ entries_from next (rest ++ more)) (drop-drop more_used used text);
}

-- a line of the common form
pub reads-quick : (first line : ℕ) (text : List ℕ) (used end : ℕ) (token : ℤ) (before mid after : List ℤ) → ReadsOn first text line (drop used text) before mid
    → QuickLine (drop used text) token end → after ≡ mid ++ token ∷ [] → ReadsOn first text (next_line line) (drop (used + (end + 1)) text) before after
reads-quick first line text used end token before mid after so_far quick grown =
    let place = ends-at (drop used text) end quick.ends in
    let some : 0 < length (take end (drop used text)) = let some = quick.some in
    omega (arith, some, length-take-le end (drop used text) (let within = place.within in omega (arith, within))) in
    reads-line first line text used end before mid after so_far quick.ends
    (reads-token line (take end (drop used text)) (take end (drop used text)) token mid after (sym quick.plain) some quick.read grown)

pub next-told : (n most : ℕ) → min (min n most + 1) most ≡ min (n + 1) most
next-told n most = omega arith

-- a fault of the first line
pub faulty-line : (line : ℕ) (text : List ℕ) (end : ℕ) (fault : ReadFault) → position is_newline text ≡ Some end
    → entry_at line (take end text) ≡ Err fault ∷ [] → IsFaulty line text fault
faulty-line line text end fault found is = λ more. (
  entries_from (next_line line) (drop (end + 1) text ++ more),
  first-line line text end more found ∙ ap (λ entries. entries ++ entries_from (next_line line) (drop (end + 1) text ++ more)) is,
)

-- a fault that stopped a reading
pub stop-fault : (outcome : Result (Unit {0}) ReadFault) (fault : ReadFault) (line : ℕ) (bytes rest : List ℕ) → outcome ≡ Err fault
    → IfErr outcome (λ cause. cause ≢ Memory → IsFaulty line bytes cause) → rest ≡ bytes → fault ≢ Memory → IsFaulty line rest fault
stop-fault (Ok u) fault line bytes rest is faulty same told = absurd (cc)
stop-fault (Err cause) fault line bytes rest is faulty same told =
    let cause_is : cause ≡ fault = cc in
    subst (λ text. IsFaulty line text fault) (sym same) (subst (IsFaulty line bytes) cause_is (faulty (λ memory. told (sym cause_is ∙ memory))))

-- ---- a stream, whose device tells what it has left

-- the entries of what was fetched and of what is left
abbrev pub known : ℕ → List ℕ → Option (List ℕ) → Option (List (Result ℤ ReadFault))
known line bytes left = option_map (λ rest. entries_from line (bytes ++ rest)) left

loses-kept : (line : ℕ) (bytes : List ℕ) (left rest : Option (List ℕ)) → Keeps left rest → Loses (known line bytes left) (known line bytes rest) []
loses-kept line bytes None rest kept = tt
loses-kept line bytes (Some xs) None kept = absurd kept
loses-kept line bytes (Some xs) (Some ys) kept = ap (λ more. entries_from line (bytes ++ more)) (sym kept)

loses-fetched : (line : ℕ) (bytes after : List ℕ) (n : ℕ) (left rest : Option (List ℕ)) → FetchesTo left rest bytes after n
    → Loses (known line bytes left) (known line after rest) []
loses-fetched line bytes after n None rest fetched = tt
loses-fetched line bytes after n (Some xs) None fetched = absurd fetched.taken
loses-fetched line bytes after n (Some xs) (Some ys) fetched =
    ap (λ more. entries_from line (bytes ++ more)) fetched.taken ∙ ap (entries_from line) (sym (append_assoc bytes fetched.bytes ys))
    ∙ ap (λ held. entries_from line (held ++ ys)) (sym fetched.appended)

loses-read : (line next : ℕ) (bytes rest : List ℕ) (before after : List ℤ) (left : Option (List ℕ)) (read : ReadsOn line bytes next rest before after)
    → Loses (known line bytes left) (known next rest left) read.given
loses-read line next bytes rest before after None read = tt
loses-read line next bytes rest before after (Some more) read = read.entries more

loses-last : (line next : ℕ) (bytes : List ℕ) (before after : List ℤ) (left : Option (List ℕ)) (read : ReadsEntry line bytes before after) → IsOneLine bytes
    → IsAtEnd left → Loses (known line bytes left) (known next [] left) read.given
loses-last line next bytes before after None read one ended = tt
loses-last line next bytes before after (Some more) read one ended =
    ap (λ rest. entries_from line (bytes ++ rest)) ended ∙ ap (entries_from line) (append-nil bytes)
    ∙ entries_from-one line bytes one ∙ read.entries ∙ sym (append-nil (map Ok read.given))
    ∙ ap (λ entries. map Ok read.given ++ entries) (sym (ap (entries_from next) ended ∙ entries_from-nil next))

-- nothing was taken, and then these
loses-then : (a b c : Option (List (Result ℤ ReadFault))) (given : List ℤ) → Loses a b [] → Loses b c given → Loses a c given
loses-then None b c given first next = tt
loses-then (Some x) None c given first next = absurd first
loses-then (Some x) (Some y) None given first next = absurd next
loses-then (Some x) (Some y) (Some z) given first next = first ∙ next

few-given : (most : ℕ) (before after given : List ℤ) → after ≡ before ++ given → length after ≤ length before + most → length given ≤ most
few-given most before after given grown few = omega (arith, ap length grown, length-append before given, few)

loses-nothing : (line : ℕ) (bytes : List ℕ) (left : Option (List ℕ)) → Loses (known line bytes left) (known line bytes left) []
loses-nothing line bytes None = tt
loses-nothing line bytes (Some more) = refl

pub gives-nothing : (most line : ℕ) (bytes : List ℕ) (left : Option (List ℕ)) (tokens : List ℤ)
    → GivesTokens most (known line bytes left) (known line bytes left) tokens tokens
gives-nothing most line bytes left tokens = record {
  given = [];
  few = omega arith;
  appended = sym (append-nil tokens);
  taken = loses-nothing line bytes left;
}

pub gives-read : (most line next : ℕ) (bytes rest : List ℕ) (left : Option (List ℕ)) (before after : List ℤ) → ReadsOn line bytes next rest before after
    → length after ≤ length before + most → GivesTokens most (known line bytes left) (known next rest left) before after
gives-read most line next bytes rest left before after read few = record {
  given = read.given;
  few = few-given most before after read.given read.appended few;
  appended = read.appended;
  taken = loses-read line next bytes rest before after left read;
}

-- the device failed, or memory was wanting
pub gives-kept : (most line : ℕ) (bytes : List ℕ) (left rest : Option (List ℕ)) (tokens : List ℤ) → Keeps left rest
    → GivesTokens most (known line bytes left) (known line bytes rest) tokens tokens
gives-kept most line bytes left rest tokens kept = record {
  given = [];
  few = omega arith;
  appended = sym (append-nil tokens);
  taken = loses-kept line bytes left rest kept;
}

-- bytes came, and lines of them were read
pub gives-fetched : (most line next n : ℕ) (bytes held rest : List ℕ) (left more : Option (List ℕ)) (before after : List ℤ) → FetchesTo left more bytes held n
    → ReadsOn line held next rest before after → length after ≤ length before + most
    → GivesTokens most (known line bytes left) (known next rest more) before after
gives-fetched most line next n bytes held rest left more before after fetched read few = record {
  given = read.given;
  few = few-given most before after read.given read.appended few;
  appended = read.appended;
  taken = loses-then _ _ _ read.given (loses-fetched line bytes held n left more fetched) (loses-read line next held rest before after more read);
}

-- nothing came, and nothing was read
pub gives-fault : (most line n : ℕ) (bytes held : List ℕ) (left more : Option (List ℕ)) (tokens : List ℤ) → FetchesTo left more bytes held n
    → GivesTokens most (known line bytes left) (known line held more) tokens tokens
gives-fault most line n bytes held left more tokens fetched = record {
  given = [];
  few = omega arith;
  appended = sym (append-nil tokens);
  taken = loses-fetched line bytes held n left more fetched;
}

-- nothing came, and the last line was read
pub gives-last : (most line next n : ℕ) (bytes held : List ℕ) (left more : Option (List ℕ)) (before after : List ℤ) → FetchesTo left more bytes held n
    → ReadsEntry line held before after → IsOneLine held → IsAtEnd more → 0 < most
    → GivesTokens most (known line bytes left) (known next [] more) before after
gives-last most line next n bytes held left more before after fetched read one ended some = record {
  given = read.given;
  few = let one = read.one in omega (arith, one, some);
  appended = read.appended;
  taken = loses-then _ _ _ read.given (loses-fetched line bytes held n left more fetched) (loses-last line next held before after more read one ended);
}

pub next-fault : (line : ℕ) (bytes : List ℕ) (fault : ReadFault) (left : Option (List ℕ)) → IsFaulty line bytes fault → IsNext fault (known line bytes left)
next-fault line bytes fault None faulty = tt
next-fault line bytes fault (Some more) faulty = faulty more

pub next-last : (line : ℕ) (bytes : List ℕ) (fault : ReadFault) (left : Option (List ℕ)) → entry_at line bytes ≡ Err fault ∷ [] → IsOneLine bytes → IsAtEnd left
    → IsNext fault (known line bytes left)
next-last line bytes fault None is one ended = tt
next-last line bytes fault (Some more) is one ended = (
  [],
  ap (λ rest. entries_from line (bytes ++ rest)) ended ∙ ap (entries_from line) (append-nil bytes)
      ∙ entries_from-one line bytes one ∙ is,
)

-- the same after a reading that read nothing
pub gives-ended : (most line next n : ℕ) (bytes held rest : List ℕ) (left more : Option (List ℕ)) (before after : List ℤ) (first : ℕ) (fetched : List ℕ)
    (tokens : List ℤ) → line ≡ first → bytes ≡ fetched → before ≡ tokens → rest ≡ [] → FetchesTo left more bytes held n → ReadsEntry line held before after
    → IsOneLine held → IsAtEnd more → 0 < most → GivesTokens most (known first fetched left) (known next rest more) tokens after
gives-ended most line next n bytes held rest left more before after first fetched tokens same_line same_bytes same_tokens emptied came read one ended some =
    subst (λ l. GivesTokens most (known l fetched left) (known next rest more) tokens after) same_line
    (subst (λ b. GivesTokens most (known line b left) (known next rest more) tokens after) same_bytes
    (subst (λ t. GivesTokens most (known line bytes left) (known next rest more) t after) same_tokens
    (subst (λ b. GivesTokens most (known line bytes left) (known next b more) before after) (sym emptied)
    (gives-last most line next n bytes held left more before after came read one ended some))))

pub next-ended : (line next : ℕ) (bytes rest : List ℕ) (fault : ReadFault) (left : Option (List ℕ)) → next ≡ line → rest ≡ bytes
    → entry_at line bytes ≡ Err fault ∷ [] → IsOneLine bytes → IsAtEnd left → IsNext fault (known next rest left)
next-ended line next bytes rest fault left same_line same_bytes is one ended =
    subst (λ l. IsNext fault (known l rest left)) (sym same_line)
    (subst (λ b. IsNext fault (known line b left)) (sym same_bytes) (next-last line bytes fault left is one ended))

-- nothing came: what is held is what was held
pub held-same : (n : ℕ) (bytes held : List ℕ) (left more : Option (List ℕ)) → FetchesTo left more bytes held n → n ≡ 0 → held ≡ bytes
held-same n bytes held left more fetched none =
    fetched.appended ∙ ap (λ more. bytes ++ more) (nil_from_length fetched.bytes (fetched.count ∙ none)) ∙ append-nil bytes

-- a line that was there is no longer missing
pub both-lines : (bytes : List ℕ) (P : Type 0) → HasLine bytes → IsOneLine bytes → P
both-lines bytes P has none = absurd (let e : true ≡ false = sym has ∙ none in cc)
