-- What is written for tokens is read as these tokens.
use Rattle.std.proofs.Common.{◌≡◌, ℕ, suc, ◌+◌, ◌*◌, ◌-◌, ◌^◌, ◌<◌, ◌≤◌, true, false, cond, List, [], ◌∷◌, ◌++◌, length, map, take, drop, get_or, refl, sym}
use Rattle.std.proofs.Common.{◌∙◌, ap, subst, arith, append_assoc, length-append, lit<, Ok, Err}
use Rattle.std.specs.Prelude.{ℤ, pos, negsuc, neg_ℤ, nat_eq, nat_lt, ◌&&◌, reverse}
use Rattle.std.specs.Char.{is_ascii_digit}
use Rattle.std.specs.Fmt.{decimal, signed_decimal}
use Rattle.std.specs.Int.{IsInRange}
use Rattle.std.specs.List.{All, enumerate_from, filter, list_all, slice_split}
use Rattle.std.specs.Result.{result_map_both}
use Rattle.std.specs.Str.Lines.{strip_carriage_return}
use Rattle.std.specs.Str.Parse.{AllDigits, digits_value, signed_digits_value, without_leading_sign}
use Rattle.std.proofs.lemmas.Bool.Decides.{nat_tests}
use Rattle.std.proofs.lemmas.Fmt.{decimal_is_IsNumeral, length_signed_le}
use Rattle.std.proofs.lemmas.List.{length-map, reverse-append, reverse-reverse, take_all}
use Rattle.std.proofs.lemmas.List.Elements.{All-append, All-cons, All-head, All-tail}
use Rattle.std.proofs.lemmas.List.Splits.{slice_split_at}
use Rattle.std.proofs.lemmas.Str.Parse.{digit_from_value}
use mir.Syntax.{w32}
use mir.Val.{SFits}
use Rattle.csdf_bytes.specs.declared.token_word.WordFault.TheVariants.{Malformed, OutOfRange}
use Rattle.csdf_bytes.specs.declared.tokens.TokenFault.TheVariants.{TooMany}
use Rattle.csdf_bytes.specs.TokenText.{collected, entry_of, is_blank, is_newline, is_numeral, is_token, no_more_than, token_in, token_line, token_text}
use Rattle.csdf_bytes.specs.TokenText.{tokens_in, tokens_up_to, at_line, trim_end, trim_start, word_of, words_from}
use Rattle.csdf_bytes.proofs.TokenTextLemmas.{kept, within}

-- ---- digits and a sign stand above all blanks

-- from `-` on: neither a newline nor a carriage return nor a blank
abbrev pub IsMark : ℕ → Type 0
IsMark byte = 45 ≤ byte

digit-mark : (c : ℕ) → IsInRange 48 57 c → IsMark c
digit-mark c h = omega (arith, h)

digits-marks : (ds : List ℕ) → AllDigits 10 ds → All IsMark ds
digits-marks [] h = λ k d within. absurd (omega arith)
digits-marks (c ∷ cs) h = All-cons IsMark c cs (digit-mark c (digit_from_value c h.0)) (digits-marks cs h.1)

decimal-marks : (n : ℕ) → n < 2 ^ 64 → All IsMark (decimal n)
decimal-marks n h = digits-marks (decimal n) (decimal_is_IsNumeral n h).0.1

-- the bounds of a token
pub pos-fits : (n : ℕ) → SFits w32 (pos n) → n < 2 ^ 31
pos-fits n h = omega (arith, h.sfits)

pub negsuc-fits : (n : ℕ) → SFits w32 (negsuc n) → n < 2 ^ 31
negsuc-fits n h = omega (arith, h.sfits)

wide : (n : ℕ) → n < 2 ^ 31 → n < 2 ^ 64
wide n h = omega (arith, lit< {m = 2 ^ 31} {n = 2 ^ 64} tt)

wide-suc : (n : ℕ) → n < 2 ^ 31 → suc n < 2 ^ 64
wide-suc n h = omega (arith, lit< {m = 2 ^ 31} {n = 2 ^ 63} tt)

pub signed_decimal-marks : (z : ℤ) → SFits w32 z → All IsMark (signed_decimal z)
signed_decimal-marks (pos n) h = decimal-marks n (wide n (pos-fits n h))
signed_decimal-marks (negsuc n) h = All-cons IsMark 45 (decimal (suc n)) (omega arith) (decimal-marks (suc n) (wide-suc n (negsuc-fits n h)))

-- ---- a line of marks is its own word

pub mark-not : (b c : ℕ) → IsMark b → c < 45 → nat_eq b c ≡ false
mark-not b c high low = grind (arith, nat_tests)

strip-marks : (line : List ℕ) → All IsMark line → strip_carriage_return line ≡ line
strip-marks [] h = refl
strip-marks (b ∷ bs) h =
    ap (λ test. cond test (take (length (b ∷ bs) - 1) (b ∷ bs)) (b ∷ bs))
    (mark-not (get_or (b ∷ bs) (length (b ∷ bs) - 1) 0) 13 (h (length (b ∷ bs) - 1) 0 (omega arith)) (lit< tt))

trim_start-marks : (line : List ℕ) → All IsMark line → trim_start line ≡ line
trim_start-marks [] h = refl
trim_start-marks (b ∷ bs) h =
    let high = All-head IsMark b bs h in
    let blank : is_blank b ≡ false = grind (arith, nat_tests) in
    ap (λ test. cond test (trim_start bs) (b ∷ bs)) blank

All-reverse : (line : List ℕ) → All IsMark line → All IsMark (reverse line)
All-reverse [] h = h
All-reverse (b ∷ bs) h =
    subst (All IsMark) (sym (reverse-append (b ∷ []) bs))
    (All-append IsMark (reverse bs) (b ∷ []) (All-reverse bs (All-tail IsMark b bs h))
    (All-cons IsMark b [] (All-head IsMark b bs h) (λ k d within. absurd (omega arith))))

pub word_of-marks : (line : List ℕ) → All IsMark line → word_of line ≡ line
word_of-marks line h =
    ap (λ text. trim_end (trim_start text)) (strip-marks line h) ∙ ap trim_end (trim_start-marks line h)
    ∙ ap reverse (trim_start-marks (reverse line) (All-reverse line h)) ∙ reverse-reverse line

-- ---- a written token is read as that token

digits-test : (ds : List ℕ) → AllDigits 10 ds → list_all is_ascii_digit ds ≡ true
digits-test [] h = refl
digits-test (c ∷ cs) h =
    let range = digit_from_value c h.0 in
    let first : is_ascii_digit c ≡ true = grind (arith, nat_tests) in
    ap (λ test. test && list_all is_ascii_digit cs) first ∙ digits-test cs h.1

pub below-test : (n limit : ℕ) → n < limit → nat_lt n limit ≡ true
below-test n limit h = grind (arith, nat_tests)

decimal-numeral : (n : ℕ) → n < 2 ^ 64 → is_numeral (decimal n) ≡ true
decimal-numeral n h =
    let numeral = (decimal_is_IsNumeral n h).0 in
    ap (λ test. test && list_all is_ascii_digit (decimal n)) (below-test 0 (length (decimal n)) numeral.0) ∙ digits-test (decimal n) numeral.1

-- a text of digits has no sign
digit-sign : (c : ℕ) → IsInRange 48 57 c → (nat_eq c 45 ≡ false) × (nat_eq c 43 ≡ false)
digit-sign c h = (grind (arith, nat_tests), grind (arith, nat_tests))

pub no-sign : (ds : List ℕ) → AllDigits 10 ds → 0 < length ds → (without_leading_sign ds ≡ ds) × (signed_digits_value 10 ds ≡ pos (digits_value 10 ds))
no-sign [] h some = absurd (omega arith)
no-sign (c ∷ cs) h some =
    let sign = digit-sign c (digit_from_value c h.0) in
    let plain : without_leading_sign (c ∷ cs) ≡ c ∷ cs =
    ap (λ minus. cond minus cs (drop (cond (nat_eq c 43) 1 0) (c ∷ cs))) sign.0 ∙ ap (λ plus. drop (cond plus 1 0) (c ∷ cs)) sign.1 in (
      plain,
      ap (λ minus. cond minus (neg_ℤ (pos (digits_value 10 (without_leading_sign (c ∷ cs))))) (pos (digits_value 10 (without_leading_sign (c ∷ cs))))) sign.0
          ∙ ap (λ ds. pos (digits_value 10 ds)) plain,
    )

-- a word by its parts
pub token_in-parts : (word : List ℕ) (z : ℤ) → is_numeral (without_leading_sign word) ≡ true → signed_digits_value 10 word ≡ z → is_token z ≡ true
    → token_in word ≡ Ok z
unfolding token_in
token_in-parts word z numeral is in_range =
    ap (λ test. cond test (cond (is_token (signed_digits_value 10 word)) (Ok (signed_digits_value 10 word)) (Err OutOfRange)) (Err Malformed)) numeral
    ∙ ap (λ value. cond (is_token value) (Ok value) (Err OutOfRange)) is
    ∙ ap (λ test. cond test (Ok z) (Err OutOfRange)) in_range

pub token_in-written : (z : ℤ) → SFits w32 z → token_in (signed_decimal z) ≡ Ok z
token_in-written (pos n) h =
    let small = pos-fits n h in
    let digits = decimal_is_IsNumeral n (wide n small) in
    let plain = no-sign (decimal n) digits.0.1 digits.0.0 in
    token_in-parts (decimal n) (pos n) (ap is_numeral plain.0 ∙ decimal-numeral n (wide n small)) (plain.1 ∙ ap pos digits.1) (below-test n (2 ^ 31) small)
token_in-written (negsuc n) h =
    let small = negsuc-fits n h in
    let digits = decimal_is_IsNumeral (suc n) (wide-suc n small) in
    token_in-parts (45 ∷ decimal (suc n)) (negsuc n) (decimal-numeral (suc n) (wide-suc n small)) (ap (λ value. neg_ℤ (pos value)) digits.1)
    (below-test n (2 ^ 31) small)

-- ---- a written text

-- each token is in range
abbrev pub AllFit : List ℤ → Type 0
AllFit tokens = (k : ℕ) → k < length tokens → SFits w32 (get_or tokens k (pos 0))

fits-first : (token : ℤ) (tokens : List ℤ) → AllFit (token ∷ tokens) → SFits w32 token
fits-first token tokens h = h 0 (omega arith)

fits-others : (token : ℤ) (tokens : List ℤ) → AllFit (token ∷ tokens) → AllFit tokens
fits-others token tokens h = λ k inside. h (suc k) (omega (arith, inside))

marks-newline : (line : List ℕ) → All IsMark line → All (λ byte. is_newline byte ≡ false) line
marks-newline line h = λ k d inside. mark-not (get_or line k d) 10 (h k d inside) (lit< tt)

-- the first line of a text
words_from-line : (n : ℕ) (line rest : List ℕ) → All IsMark line → 0 < length line
    → words_from n ((line ++ 10 ∷ []) ++ rest) ≡ (n, line) ∷ words_from (n + 1) rest
words_from-line n line rest h some =
    let cut : slice_split is_newline ((line ++ 10 ∷ []) ++ rest) ≡ line ∷ slice_split is_newline rest =
    ap (slice_split is_newline) (append_assoc line (10 ∷ []) rest) ∙ slice_split_at is_newline line 10 rest (marks-newline line h) refl in
    ap (λ lines. filter (λ entry. nat_lt 0 (length entry.1)) (enumerate_from n (map word_of lines))) cut
    ∙ ap (λ word. kept (n, word) (words_from (n + 1) rest)) (word_of-marks line h)
    ∙ ap (λ test. cond test ((n, line) ∷ words_from (n + 1) rest) (words_from (n + 1) rest)) (below-test 0 (length line) some)

signed_decimal-nonempty : (z : ℤ) → SFits w32 z → 0 < length (signed_decimal z)
signed_decimal-nonempty (pos n) h = (decimal_is_IsNumeral n (wide n (pos-fits n h))).0.0
signed_decimal-nonempty (negsuc n) h = omega arith

-- the entries of a written text are its tokens
entries-written : (n : ℕ) (tokens : List ℤ) → AllFit tokens → map entry_of (words_from n (token_text tokens)) ≡ map Ok tokens
entries-written n [] h = refl
entries-written n (token ∷ tokens) h =
    let first = fits-first token tokens h in
    ap (map entry_of) (words_from-line n (signed_decimal token) (token_text tokens) (signed_decimal-marks token first) (signed_decimal-nonempty token first))
    ∙ ap (λ entry. entry ∷ map entry_of (words_from (n + 1) (token_text tokens))) (ap (result_map_both (λ t. t) (at_line n)) (token_in-written token first))
    ∙ ap (λ entries. Ok token ∷ entries) (entries-written (n + 1) tokens (fits-others token tokens h))

collected-tokens : (tokens : List ℤ) → collected (map Ok tokens) ≡ Ok tokens
collected-tokens [] = refl
collected-tokens (token ∷ tokens) = ap (result_map_both (λ more. token ∷ more) (λ fault. fault)) (collected-tokens tokens)

tokens_up_to-tokens : (limit : ℕ) (tokens : List ℤ) → length tokens ≤ limit → tokens_up_to limit (map Ok tokens) ≡ Ok tokens
unfolding tokens_up_to
tokens_up_to-tokens limit tokens few =
    ap (λ entries. no_more_than limit (collected entries)) (take_all (limit + 1) (map Ok tokens) (simp length-map (omega (arith, few))))
    ∙ ap (no_more_than limit) (collected-tokens tokens)
    ∙ ap (λ test. cond test (Err TooMany) (Ok tokens)) (within limit tokens few)

-- a line has twelve bytes at most
length-token_line : (z : ℤ) → SFits w32 z → length (token_line z) ≤ 12
length-token_line z h =
    let word = length_signed_le 10 z (omega (arith, h.sfits, lit< {m = 2 ^ 31} {n = 10 ^ 10} tt)) (omega (arith, h.sfits, lit< {m = 2 ^ 31} {n = 2 ^ 63} tt)) in
    omega (arith, word, length-append (signed_decimal z) (10 ∷ []))

length-token_text : (tokens : List ℤ) → AllFit tokens → length (token_text tokens) ≤ 12 * length tokens
length-token_text [] h = omega arith
length-token_text (token ∷ tokens) h =
    let first = length-token_line token (fits-first token tokens h) in
    let others = length-token_text tokens (fits-others token tokens h) in
    omega (arith, first, others, length-append (token_line token) (token_text tokens))

at-most-test : (most n : ℕ) → n ≤ most → nat_lt most n ≡ false
at-most-test most n h = grind (arith, nat_tests)

pub tokens_in-written : (tokens : List ℤ) → AllFit tokens → length tokens ≤ 1000000 → tokens_in (token_text tokens) ≡ Ok tokens
tokens_in-written tokens h few =
    let short = length-token_text tokens h in
    ap (λ test. cond test (Err TooMany) (tokens_up_to 1000000 (map entry_of (words_from 1 (token_text tokens)))))
    (at-most-test 16777216 (length (token_text tokens)) (omega (arith, short, few)))
    ∙ ap (tokens_up_to 1000000) (entries-written 1 tokens h)
    ∙ tokens_up_to-tokens 1000000 tokens few
