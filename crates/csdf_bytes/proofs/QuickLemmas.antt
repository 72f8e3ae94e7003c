-- Lines of the common form are read as lines.
use Rattle.std.proofs.Common.{◌≡◌, ℕ, suc, ◌+◌, ◌*◌, ◌-◌, ◌%◌, ◌^◌, ◌<◌, ◌≤◌, Bool, true, false, cond, List, [], ◌∷◌, ◌++◌, length, take, drop, get_or, refl, sym, ◌∙◌, ap, subst}
use Rattle.std.proofs.Common.{arith, zero-add, length-drop, lit<, Ok, Some, None}
use Rattle.std.specs.Prelude.{ℤ, pos, neg_ℤ, nat_lt, ◌&&◌}
use Rattle.std.specs.Char.{is_ascii_digit}
use Rattle.std.specs.List.{list_all, position, position_or_len, All}
use Rattle.std.specs.Str.Parse.{AllDigits, digits_value}
use Rattle.std.proofs.Math.Nat.{pow-le-pow_right}
use Rattle.std.proofs.Math.Seq.{take-add}
use Prim.Native.Nat.{zero}
use mir.Val.{bool_byte}
use Rattle.std.proofs.lemmas.Bool.Decides.{nat_tests}
use Rattle.std.proofs.lemmas.Grind.{common_steps}
use Rattle.std.proofs.lemmas.Int.Digits.{digits_value_more}
use Rattle.std.proofs.lemmas.List.{get_or-drop, get_or-take, length-take-le}
use Rattle.std.proofs.lemmas.List.Elements.{All-cons, All-weaker}
use Rattle.std.proofs.lemmas.List.Folds.{list_all_more}
use Rattle.std.proofs.lemmas.List.Sums.{AllPass-from_list_all, position_or_len_is}
use Rattle.csdf_bytes.specs.QuickLine.{QuickDigits, QuickLine}
use Rattle.csdf_bytes.specs.TokenText.{is_newline, is_token, signed, token_in}
use Rattle.csdf_bytes.proofs.TokenWordLemmas.{digit_value-digit}
use Rattle.csdf_bytes.proofs.WrittenLemmas.{IsMark, below-test, mark-not, no-sign, token_in-parts, word_of-marks}

-- ---- digits

both-true : (a b : Bool) → (a && b) ≡ true → (a ≡ true) × (b ≡ true)
both-true true b all = (refl, all)
both-true false b all = absurd (cc)

digits-all : (ds : List ℕ) → list_all is_ascii_digit ds ≡ true → AllDigits 10 ds
digits-all [] all = tt
digits-all (c ∷ cs) all =
    let both = both-true (is_ascii_digit c) (list_all is_ascii_digit cs) all in
    let digit = digit_value-digit c both.0 in
    (omega (arith, digit.0, digit.1, digit.2), digits-all cs both.1)

digits-marks : (ds : List ℕ) → list_all is_ascii_digit ds ≡ true → All IsMark ds
digits-marks ds all =
    All-weaker (λ c. is_ascii_digit c ≡ true) IsMark (λ c is. let digit = digit_value-digit c is in omega (arith, digit.1)) ds
    (AllPass-from_list_all is_ascii_digit ds all)

-- a digit more
pub digits-more : (text : List ℕ) (count number digit : ℕ) → count < length text → list_all is_ascii_digit (take count text) ≡ true
    → number ≡ digits_value 10 (take count text) → is_ascii_digit (get_or text count 0) ≡ true → digit ≡ get_or text count 0 - 48
    → (digit ≤ 9) × (list_all is_ascii_digit (take (count + 1) text) ≡ true) × (number * 10 + digit ≡ digits_value 10 (take (count + 1) text))
digits-more text count number digit within all is test here =
    let value = digit_value-digit (get_or text count 0) test in (
      omega (arith, value.1, value.2, here),
      list_all_more is_ascii_digit text count 0 within ∙ ap (λ front. front && is_ascii_digit (get_or text count 0)) all ∙ test,
      let step = digits_value_more 10 text count within in omega (arith, step, is, value.0, here),
    )

power-step : (n : ℕ) → 10 ^ (n + 1) ≡ 10 ^ n * 10
power-step n = grind (arith, common_steps)

-- and the number stays small
pub small-more : (count number digit : ℕ) → count < 9 → number < 10 ^ count → digit ≤ 9 → (number * 10 + digit < 10 ^ (count + 1)) × (number * 10 + digit < 4294967296)
small-more count number digit few small one =
    let most : 10 ^ count ≤ 10 ^ 8 = pow-le-pow_right {n = 10} (omega arith) {i = count} {j = 8} (omega (arith, few)) in
    (omega (arith, power-step count, small, one), omega (arith, most, small, one))

pub small-end : (count number : ℕ) → count ≤ 9 → number < 10 ^ count → number < 1000000000
small-end count number few small =
    let most : 10 ^ count ≤ 10 ^ 9 = pow-le-pow_right {n = 10} (omega arith) {i = count} {j = 9} few in omega (arith, most, small)

-- ---- a word of digits

abbrev sign : Bool → List ℕ
sign true = 45 ∷ []
sign false = []

signed-token : (negative : Bool) (n : ℕ) → n < 1000000000 → is_token (signed negative n) ≡ true
signed-token false n small = below-test n (2 ^ 31) (omega (arith, small))
signed-token true zero small = below-test 0 (2 ^ 31) (lit< tt)
signed-token true (suc n) small = below-test n (2 ^ 31) (omega (arith, small))

token_in-digits : (negative : Bool) (ds : List ℕ) → list_all is_ascii_digit ds ≡ true → 0 < length ds → digits_value 10 ds < 1000000000
    → token_in (sign negative ++ ds) ≡ Ok (signed negative (digits_value 10 ds))
token_in-digits true ds all some small =
    token_in-parts (45 ∷ ds) (neg_ℤ (pos (digits_value 10 ds))) (ap (λ test. test && list_all is_ascii_digit ds) (below-test 0 (length ds) some) ∙ all) refl
    (signed-token true (digits_value 10 ds) small)
token_in-digits false ds all some small =
    let plain = no-sign ds (digits-all ds all) some in
    token_in-parts ds (pos (digits_value 10 ds))
    (ap (λ digits. nat_lt 0 (length digits) && list_all is_ascii_digit digits) plain.0
    ∙ ap (λ test. test && list_all is_ascii_digit ds) (below-test 0 (length ds) some) ∙ all)
    plain.1 (signed-token false (digits_value 10 ds) small)

sign-marks : (negative : Bool) (ds : List ℕ) → list_all is_ascii_digit ds ≡ true → All IsMark (sign negative ++ ds)
sign-marks true ds all = All-cons IsMark 45 ds (omega arith) (digits-marks ds all)
sign-marks false ds all = digits-marks ds all

-- ---- a line of digits

position-at : (text : List ℕ) (end : ℕ) → end < length text → All IsMark (take end text) → get_or text end 0 ≡ 10 → position is_newline text ≡ Some end
position-at text end within marks here =
    let place : position_or_len is_newline text ≡ end =
    position_or_len_is is_newline text end 0 (omega (arith, within))
    (λ k before. ap is_newline (sym (get_or-take end text k 0 before))
    ∙ mark-not (get_or (take end text) k 0) 10 (marks k 0 (omega (arith, length-take-le end text (omega (arith, within)), before))) (lit< tt))
    (λ _. let test : is_newline (get_or text end 0) ≡ true = grind (arith, nat_tests) in test) in
    ap (λ at. cond (nat_lt at (length text)) (Some at) None) place ∙ ap (λ test. cond test (Some end) None) (below-test end (length text) within)

line-front : (negative : Bool) (text : List ℕ) (count : ℕ) → 0 < length text → (negative ≡ true → get_or text 0 0 ≡ 45)
    → take (bool_byte negative + count) text ≡ sign negative ++ take count (drop (bool_byte negative) text)
line-front true [] count some minus = absurd (omega arith)
line-front true (byte ∷ bytes) count some minus =
    take-add 1 count (byte ∷ bytes) ∙ ap (λ first. first ∷ take count bytes) (minus refl)
line-front false text count some minus = take-add 0 count text

byte-small : (test : Bool) (n : ℕ) → n ≡ bool_byte test → n ≤ 1
byte-small true n is = omega (arith, is)
byte-small false n is = omega (arith, is)

pub quick-line : (negative : Bool) (text : List ℕ) (count number : ℕ) → bool_byte negative + count < length text → (negative ≡ true → get_or text 0 0 ≡ 45)
    → list_all is_ascii_digit (take count (drop (bool_byte negative) text)) ≡ true → 0 < count → number ≡ digits_value 10 (take count (drop (bool_byte negative) text))
    → number < 1000000000 → count ≤ 9 → get_or text (bool_byte negative + count) 0 ≡ 10 → QuickLine text (signed negative number) (bool_byte negative + count)
quick-line negative text count number within minus all some is small few here =
    let start : ℕ = bool_byte negative in
    let digits : List ℕ = take count (drop start text) in
    let front = line-front negative text count (omega (arith, within)) minus in
    let size : length digits ≡ count = length-take-le count (drop start text) (omega (arith, length-drop start text, within)) in
    let marks : All IsMark (take (start + count) text) = subst (All IsMark) (sym front) (sign-marks negative digits all) in
    record {
      ends = position-at text (start + count) within marks here;
      some = omega (arith, some);
      short = let sign = byte-small negative (bool_byte negative) refl in omega (arith, few, sign);
      plain = word_of-marks (take (start + count) text) marks;
      read = ap token_in front
          ∙ token_in-digits negative digits all (omega (arith, size, some)) (omega (arith, is, small))
          ∙ ap (λ n. Ok (signed negative n)) (sym is);
    }

pub quick-plain : (text : List ℕ) (count number : ℕ) (token : ℤ) → count < length text → QuickDigits text number count → token ≡ pos number
    → QuickLine text token count
quick-plain text count number token within found told =
    subst (λ t. QuickLine text t count) (sym told)
    (subst (QuickLine text (pos number)) (zero-add count)
    (quick-line false text count number (omega (arith, within)) (λ no. absurd (cc)) found.digits found.some found.value found.small found.few
    (ap (λ k. get_or text k 0) (zero-add count) ∙ found.ended)))

pub quick-minus : (text : List ℕ) (count number : ℕ) (token : ℤ) → 1 + count < length text → get_or text 0 0 ≡ 45 → QuickDigits (drop 1 text) number count
    → token ≡ neg_ℤ (pos number) → QuickLine text token (1 + count)
quick-minus text count number token within minus found told =
    subst (λ t. QuickLine text t (1 + count)) (sym told)
    (quick-line true text count number within (λ _. minus) found.digits found.some found.value found.small found.few
    (sym (get_or-drop 1 text count 0) ∙ found.ended))

pub digit-small : (byte digit : ℕ) → byte < 256 → digit ≡ (byte + 4294967248) % 4294967296 → digit ≤ 9
    → (is_ascii_digit byte ≡ true) × (digit ≡ byte - 48)
digit-small byte digit small is few =
    let here : byte ≡ 48 + digit = omega (arith, small, is, few) in
    (let test : is_ascii_digit byte ≡ true = grind (arith, nat_tests) in test, omega (arith, here))
