-- The command that a parse met, and the words and numbers after it.
use Rattle.std.proofs.Common.{◌≡◌, ◌≢◌, ◌≤◌, ◌||◌, ◌<◌, ◌^◌, ℕ, Bool, true, false, cond, List, [], ◌∷◌, Option, Some, None, codes, option_map, refl, sym, subst, ap, ap₂, ◌∙◌, Bor, arith}
use Rattle.std.specs.Prelude.{Box, IfNone, IfSome, find, option_and_then, unwrap_or}
use Rattle.std.specs.Option.{option_map_or}
use Rattle.std.specs.Box.{box_value}
use Rattle.std.specs.Str.{bytes_eq}
use Rattle.std.specs.Str.Parse.{IsNumeral, digits_value, without_leading_plus}
use Rattle.std.proofs.lemmas.Bool.{false_from_ne_true}
use Rattle.std.proofs.lemmas.Slice.Eq.{bytes_eq-Decides}
use Rattle.clap.specs.Words.{Row, Text, first_of, subcommand_name_of, subcommand_rows, subcommand_rows_of}
use Rattle.clap.specs.declared.parser.matches.ArgMatches.{ArgMatches}
use Rattle.clap.specs.declared.parser.matches.ArgMatches.TheViews.{out-ArgMatches, out-SubCommand}
use Rattle.clap.specs.declared.parser.matches.SubCommand.{SubCommand}
use Rattle.clap.specs.ValueTests.{is_unsigned_in}
use Rattle.clap.specs.declared.builder.value_parser.ValueParser.TheVariants.{Unsigned}
use Rattle.clap.proofs.ValueTestLemmas.{accepts-Accepts, Accepts-accepts}
use Rattle.csdf_analysis.specs.declared.room.Room.{Room}
use Rattle.csdf_bytes.specs.declared.sample_format.SampleFormat.TheVariants as samples
use Rattle.csdf_stream.specs.declared.options.TokenFormat.{TokenFormat}
use Rattle.csdf_stream.specs.declared.options.TokenFormat.TheVariants as formats
use Rattle.csdf_stream.specs.Formats.{format_name}
use Rattle.csdf_words.specs.declared.workers.Workers.TheVariants as workers
use Rattle.csdf_words.specs.CommandLine.{asked_of, asked, format_in, number_in, number_of, room_in, room_of, token_formats, workers_in, workers_of}

-- a text, or another where there is none
pub text_or : (o : Option (Bor (List ℕ))) (d r : Bor (List ℕ)) → r ≡ unwrap_or o d → r.now ≡ unwrap_or (option_map (λ s. s.now) o) d.now
text_or None d r e = ap (λ s. s.now) e
text_or (Some s) d r e = ap (λ s. s.now) e

-- the number of an option that was given
pub number_given : (least most : ℕ) (option : Text) (rows : List Row) (o : Option (Bor (List ℕ))) (s : Bor (List ℕ)) → o ≡ Some s
    → option_map (λ s. s.now) o ≡ first_of option rows → number_in least most s.now ≡ number_of least most option rows
number_given least most option rows o s is found =
    ap (option_and_then (number_in least most)) (sym (ap (option_map (λ s. s.now)) is) ∙ found)

-- and of one that was not
pub number_absent : (least most : ℕ) (option : Text) (rows : List Row) (o : Option (Bor (List ℕ))) → o ≡ None
    → option_map (λ s. s.now) o ≡ first_of option rows → None ≡ number_of least most option rows
number_absent least most option rows o is found =
    ap (option_and_then (number_in least most)) (sym (ap (option_map (λ (s : Bor (List ℕ)). s.now)) is) ∙ found)

-- the room of the option that was given
pub room_given : (absent : Room) (rows : List Row) (o : Option (Bor (List ℕ))) (s : Bor (List ℕ)) → o ≡ Some s
    → option_map (λ s. s.now) o ≡ first_of (codes "room") rows → room_in s.now ≡ room_of absent rows
room_given absent rows o s is found =
    ap (λ q. option_map_or room_in q (Some absent)) (sym (ap (option_map (λ s. s.now)) is) ∙ found)

-- and of one that was not
pub room_absent : (absent : Room) (rows : List Row) (o : Option (Bor (List ℕ))) → o ≡ None
    → option_map (λ s. s.now) o ≡ first_of (codes "room") rows → Some absent ≡ room_of absent rows
room_absent absent rows o is found =
    ap (λ q. option_map_or room_in q (Some absent)) (sym (ap (option_map (λ (s : Bor (List ℕ)). s.now)) is) ∙ found)

-- the workers of the option that was given
pub workers_given : (rows : List Row) (o : Option (Bor (List ℕ))) (s : Bor (List ℕ)) → o ≡ Some s
    → option_map (λ s. s.now) o ≡ first_of (codes "workers") rows → workers_in s.now ≡ workers_of rows
workers_given rows o s is found =
    ap (λ q. option_map_or workers_in q (Some (workers.Count 1))) (sym (ap (option_map (λ s. s.now)) is) ∙ found)

-- and of one that was not
pub workers_absent : (rows : List Row) (o : Option (Bor (List ℕ))) → o ≡ None
    → option_map (λ s. s.now) o ≡ first_of (codes "workers") rows → Some (workers.Count 1) ≡ workers_of rows
workers_absent rows o is found =
    ap (λ q. option_map_or workers_in q (Some (workers.Count 1))) (sym (ap (option_map (λ (s : Bor (List ℕ)). s.now)) is) ∙ found)

-- the text is a number of 32 bits
abbrev pub IsNumber : Text → Type 0
IsNumber text = IsNumeral 10 (without_leading_plus text) × (digits_value 10 (without_leading_plus text) < 2 ^ 32)

-- the number that a text is read as, where it is in the range
pub number_read : (least most n : ℕ) (text : Text) → IsNumber text × (n ≡ digits_value 10 (without_leading_plus text)) → least ≤ n → n ≤ most
    → Some n ≡ number_in least most text
number_read least most n text parsed low high =
    let inside : is_unsigned_in least most text ≡ true =
    Accepts-accepts false (Unsigned least most) text
    (parsed.0.0, omega (arith, parsed.0.1), omega (arith, parsed.1, low), omega (arith, parsed.1, high)) in
    ap Some parsed.1 ∙ sym (ap (λ b. cond b (Some (digits_value 10 (without_leading_plus text))) None) inside)

-- a text that is no number in the range
none_in : (least most : ℕ) (text : Text) → (is_unsigned_in least most text ≡ true → ⊥) → None ≡ number_in least most text
none_in least most text out = by (is_unsigned_in least most text) refl
  where
    by : (b : Bool) → is_unsigned_in least most text ≡ b → None ≡ cond b (Some (digits_value 10 (without_leading_plus text))) None
    by true e = absurd (out e)
    by false e = refl

pub number_refused : (least most : ℕ) (text : Text) → (IsNumber text → ⊥) → most < 2 ^ 32 → None ≡ number_in least most text
number_refused least most text refused few = none_in least most text (λ inside.
    let h = accepts-Accepts false (Unsigned least most) text inside in
    refused (h.0, omega (arith, few, h.3)))

met : (q : Option (Text × List Row)) (name : Text) (rows : List Row) → Some name ≡ option_map (λ p. p.0) q → Some rows ≡ option_map (λ p. p.1) q
    → asked_of name rows ≡ asked q
met None name rows named given = absurd (let no : Some name ≡ None = named in cc)
met (Some p) name rows named given =
    let first : name ≡ p.0 = cc in
    let second : rows ≡ p.1 = cc in
    ap₂ asked_of first second

named_in : {Z : Type 0} (o : Option (Box SubCommand Z))
    → option_map (λ b. (out-SubCommand (box_value b)).name.now) o ≡ option_map (λ p. p.0) (subcommand_rows o)
named_in None = refl
named_in (Some b) = refl

named_of : (m : ArgMatches) → subcommand_name_of m ≡ option_map (λ p. p.0) (subcommand_rows_of m)
named_of m = named_in (out-ArgMatches m).subcommand

-- the rows of the command that was met
pub rows_met : (m : ArgMatches) (rows : List Row) (P : List Row → Type 0) → Some rows ≡ option_map (λ p. p.1) (subcommand_rows_of m) → P rows
    → IfSome (subcommand_rows_of m) (λ met. P met.1)
rows_met m rows P given holds = by (subcommand_rows_of m) given
  where
    by : (q : Option (Text × List Row)) → Some rows ≡ option_map (λ p. p.1) q → IfSome q (λ met. P met.1)
    by None given = tt
    by (Some p) given = let same : rows ≡ p.1 = cc in subst P same holds

pub asked_met : (m : ArgMatches) (name : Text) (rows : List Row) → Some name ≡ subcommand_name_of m
    → Some rows ≡ option_map (λ p. p.1) (subcommand_rows_of m) → asked_of name rows ≡ asked (subcommand_rows_of m)
asked_met m name rows named given = met (subcommand_rows_of m) name rows (named ∙ named_of m) given

-- or with what is false
pub or_false : (a b : Bool) → b ≡ false → (a || b) ≡ a
or_false true b e = refl
or_false false b e = e

-- a name of no format is none of these
no_format : (name : Text) (some : List TokenFormat) → ((format : TokenFormat) → name ≢ format_name format)
    → None ≡ find (λ format. bytes_eq name (format_name format)) some
no_format name [] unknown = refl
no_format name (format ∷ some) unknown =
    let other : bytes_eq name (format_name format) ≡ false = false_from_ne_true _ (λ same. unknown format ((bytes_eq-Decides name (format_name format)).0 same)) in
    rw other (no_format name some unknown)

-- the format of a format's name
own_name : (format : TokenFormat) → Some format ≡ format_in (format_name format)
own_name formats.Text = refl
own_name (formats.Samples samples.U8) = refl
own_name (formats.Samples samples.S8) = refl
own_name (formats.Samples samples.S16Le) = refl
own_name (formats.Samples samples.S16Be) = refl
own_name (formats.Samples samples.S32Le) = refl
own_name (formats.Samples samples.S32Be) = refl

-- the format of a name, where it is one, and none where it is not
pub format_found : (name : Text) (o : Option TokenFormat) → IfSome o (λ format. name ≡ format_name format)
    → IfNone o ((format : TokenFormat) → name ≢ format_name format) → o ≡ format_in name
format_found name None named unknown = no_format name token_formats unknown
format_found name (Some format) named unknown = own_name format ∙ ap format_in (sym named)
