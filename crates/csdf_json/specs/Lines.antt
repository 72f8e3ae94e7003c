-- JSON values on lines of their own.
use Rattle.std.specs.Prelude.{◌≡◌, ℕ, Bool, List, [], ◌∷◌, ◌++◌, Some}
use Rattle.std.specs.Fmt.{decimal}
use Rattle.json.specs.Json.{Json, boolean, number, string, array, Items, no_items, item, Members, member, document}
use Rattle.json.specs.Print.{print}
use Rattle.json.specs.Token.{Token}
use Rattle.json.specs.Tree.{json_tokens}

-- ---- lines

-- the text of a value and a newline; what stands before the newline reads back as the value
pub record IsLineOf (value : Json) (text : List ℕ) : Type 0 where
  pub line : text ≡ print (json_tokens value) ++ 10 ∷ []
  pub reads_back : document (print (json_tokens value)) ≡ Some value

-- ---- values

-- a member that is a text, a number, a flag or a list, and the members after it
abbrev pub text_member : List ℕ → List ℕ → Members → Members
text_member name text rest = member name (string text) rest

abbrev pub number_member : List ℕ → ℕ → Members → Members
number_member name n rest = member name (number (decimal n)) rest

abbrev pub flag_member : List ℕ → Bool → Members → Members
flag_member name flag rest = member name (boolean flag) rest

abbrev pub list_member : List ℕ → Items → Members → Members
list_member name list rest = member name (array list) rest

-- a value for each of a list, in order
abbrev pub items_by : {A : Type 0} → (A → Json) → List A → Items
items_by value_of [] = no_items
items_by value_of (x ∷ xs) = item (value_of x) (items_by value_of xs)

-- ---- tokens

-- those of such a member, and those that a list begins with
abbrev pub text_tokens : List ℕ → List ℕ → List Token
text_tokens name text = Token.key name ∷ Token.string text ∷ []

abbrev pub number_tokens : List ℕ → ℕ → List Token
number_tokens name n = Token.key name ∷ Token.number (decimal n) ∷ []

abbrev pub flag_tokens : List ℕ → Bool → List Token
flag_tokens name flag = Token.key name ∷ Token.boolean flag ∷ []

abbrev pub list_tokens : List ℕ → List Token
list_tokens name = Token.key name ∷ Token.begin_array ∷ []
