-- A line that is shown is text.
use Rattle.std.proofs.Common.{◌≡◌, ◌<◌, ℕ, true, List, [], ◌∷◌, length, arith}
use Rattle.std.specs.Prelude.{IsAscii, IsUtf8, nat_lt}
use Rattle.std.specs.List.{list_all}
use Rattle.std.proofs.lemmas.Bool.{and_parts}
use Rattle.std.proofs.lemmas.Bool.Decides.{nat_tests}
use Rattle.std.proofs.lemmas.Str.{IsUtf8-from_ascii}
use Rattle.std.proofs.lemmas.Str.Ascii.{IsAscii-cons, IsAscii-nil}
use Rattle.csdf_explain.specs.TokenNotes.{is_short, is_visible}

visible_below : (byte : ℕ) → is_visible byte ≡ true → byte < 128
visible_below byte h = grind (arith, nat_tests)

visible_ascii : (line : List ℕ) → list_all is_visible line ≡ true → IsAscii line
visible_ascii [] h = IsAscii-nil
visible_ascii (byte ∷ bytes) h =
    let parts = and_parts (is_visible byte) (list_all is_visible bytes) h in
    IsAscii-cons byte bytes (visible_below byte parts.0) (visible_ascii bytes parts.1)

pub short_utf8 : (line : List ℕ) → is_short line ≡ true → IsUtf8 line
short_utf8 line h = IsUtf8-from_ascii line (visible_ascii line (and_parts (nat_lt (length line) 41) (list_all is_visible line) h).1)
