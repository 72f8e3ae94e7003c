-- What is read off a table's values.
use Rattle.std.specs.Prelude.{ℕ, ℤ, Bool, true, ◌&&◌, List, [], ◌∷◌, Option, Some, None, option_map, option_and_then}
use Rattle.std.specs.List.{list_any}
use Rattle.std.specs.Str.{bytes_eq}
use Rattle.toml.specs.Data.{Data, as_str, as_integer, as_array, as_table, get_member, Items, no_items, item, Members, no_members, member}

-- the key is one of these
abbrev pub is_among : List (List ℕ) → List ℕ → Bool
is_among keys key = list_any (λ k. bytes_eq k key) keys

-- each key of the table is one of these
abbrev pub has_only : List (List ℕ) → Members → Bool
has_only keys no_members = true
has_only keys (member k d ms) = is_among keys k && has_only keys ms

-- the items as a list
abbrev pub data_of : Items → List Data
data_of no_items = []
data_of (item d ds) = d ∷ data_of ds

-- what `f` finds in each, or nothing where it finds nothing in one of them
abbrev pub all_some : {A B : Type 0} → (A → Option B) → List A → Option (List B)
all_some f [] = Some []
all_some f (x ∷ xs) = option_and_then (λ y. option_map (λ ys. y ∷ ys) (all_some f xs)) (f x)

-- the default where the key is absent, and what is read where it is not
abbrev pub found_or : {A : Type 0} → A → (Data → Option A) → Option Data → Option A
found_or default f None = Some default
found_or default f (Some d) = f d

-- a text and an integer at a key, and an integer that may be absent
abbrev pub text_at : List ℕ → Members → Option (List ℕ)
text_at key ms = option_and_then as_str (get_member key ms)

abbrev pub integer_at : List ℕ → Members → Option ℤ
integer_at key ms = option_and_then as_integer (get_member key ms)

abbrev pub integer_or : ℤ → List ℕ → Members → Option ℤ
integer_or default key ms = found_or default as_integer (get_member key ms)

abbrev pub optional_integer_at : List ℕ → Members → Option (Option ℤ)
optional_integer_at key ms = found_or None (λ d. option_map Some (as_integer d)) (get_member key ms)

-- the elements of an array
abbrev pub elements_of : Data → Option (List Data)
elements_of d = option_map data_of (as_array d)

-- the array at a key, and one that has no elements where the key is absent
abbrev pub array_at : List ℕ → Members → Option (List Data)
array_at key ms = option_and_then elements_of (get_member key ms)

abbrev pub array_or_none : List ℕ → Members → Option (List Data)
array_or_none key ms = found_or [] elements_of (get_member key ms)

-- arrays of integers, of tables and of texts
abbrev pub integers_at : List ℕ → Members → Option (List ℤ)
integers_at key ms = option_and_then (all_some as_integer) (array_at key ms)

abbrev pub integers_or_none : List ℕ → Members → Option (List ℤ)
integers_or_none key ms = option_and_then (all_some as_integer) (array_or_none key ms)

abbrev pub optional_integers_at : List ℕ → Members → Option (Option (List ℤ))
optional_integers_at key ms = found_or None (λ d. option_map Some (option_and_then (all_some as_integer) (elements_of d))) (get_member key ms)

abbrev pub tables_at : List ℕ → Members → Option (List Members)
tables_at key ms = option_and_then (all_some as_table) (array_at key ms)

abbrev pub tables_or_none : List ℕ → Members → Option (List Members)
tables_or_none key ms = option_and_then (all_some as_table) (array_or_none key ms)

abbrev pub texts_or_none : List ℕ → Members → Option (List (List ℕ))
texts_or_none key ms = option_and_then (all_some as_str) (array_or_none key ms)
