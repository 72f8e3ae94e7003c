-- Names, and the numbers that stand for them.
use Rattle.std.specs.Prelude.{ℕ, Bool, false, ◌&&◌, ◌||◌, ◌==◌, nat_lt, List, [], ◌∷◌, length, map, Option, position, slice_index_or}
use Rattle.csdf_model.specs.declared.limits.TheConstants.{MAX_NAME_BYTES}
use Rattle.std.specs.Char.{is_ascii_alphabetic, is_ascii_alphanumeric}
use Rattle.std.specs.List.{list_all}
use Rattle.std.specs.Str.{bytes_eq}
use Rattle.csdf_model.specs.Graph.{Actor, Channel}

abbrev pub is_word_byte : ℕ → Bool
is_word_byte c = is_ascii_alphanumeric c || c == 95

-- an ASCII letter, and then letters, digits or underscores, of the most bytes of a name at most
abbrev pub is_name : List ℕ → Bool
is_name [] = false
is_name (c ∷ cs) = is_ascii_alphabetic c && (nat_lt (length cs) MAX_NAME_BYTES && list_all is_word_byte cs)

-- the place of a name, which is its number
abbrev pub number_in : List (List ℕ) → List ℕ → Option ℕ
number_in names name = position (bytes_eq name) names

-- the names of actors, and those of channels
abbrev pub actor_names : List Actor → List (List ℕ)
actor_names actors = map (λ (a : Actor). a.name) actors

abbrev pub channel_names : List Channel → List (List ℕ)
channel_names channels = map (λ (c : Channel). c.name) channels

-- the name with this number; the empty text where there is none
abbrev pub name_at : List (List ℕ) → ℕ → List ℕ
name_at names number = slice_index_or names number []
