-- Lines read back, lists of values do not nest deeper than these, and what is written in steps is written.
use Rattle.std.proofs.Common.{◌≡◌, ℕ, ◌≤◌, List, [], ◌∷◌, ◌++◌, Some, option_and_then, sym, subst, ap, ◌∙◌, append_assoc, append-nil, arith}
use Rattle.json.specs.Json.{Json, value, if_last, max_depth, document}
use Rattle.json.specs.Lex.{tokens}
use Rattle.json.specs.Print.{print}
use Rattle.json.specs.Token.{Token}
use Rattle.json.specs.Tree.{json_tokens, depth, items_depth}
use Rattle.json.proofs.Printed.Trees.{value-json_tokens}
use Rattle.csdf_json.specs.Lines.{IsLineOf, items_by}

-- what is printed for a value reads back as the value, where its tokens do
document-print : (j : Json) → depth j ≤ max_depth → tokens (print (json_tokens j)) ≡ json_tokens j → document (print (json_tokens j)) ≡ Some j
document-print j shallow same =
    ap (option_and_then (λ p. if_last p.0 p.1))
    (ap (value max_depth) (same ∙ sym (append-nil (json_tokens j))) ∙ value-json_tokens j max_depth [] shallow)

-- the line that is made of the tokens of a value
pub line_made : (j : Json) (written : List Token) (before bytes line : List ℕ) → depth j ≤ max_depth → written ≡ json_tokens j → before ≡ []
    → bytes ≡ before ++ print written → line ≡ bytes ++ 10 ∷ [] → tokens (print written) ≡ written → IsLineOf j line
line_made j written before bytes line shallow same none made longer read = record {
  line = longer ∙ ap (λ text. text ++ 10 ∷ []) (made ∙ ap (λ text. text ++ print written) none ∙ ap print same);
  reads_back = document-print j shallow (subst (λ ts. tokens (print ts) ≡ ts) same read);
}

-- a list of values nests no deeper than each of them
pub items_by-depth : {A : Type 0} (value_of : A → Json) (n : ℕ) → ((x : A) → depth (value_of x) ≤ n) → (xs : List A) → items_depth (items_by value_of xs) ≤ n
items_by-depth value_of n each [] = omega arith
items_by-depth value_of n each (x ∷ xs) = omega (arith, each x, items_by-depth value_of n each xs)

-- what was written in two steps, in four and in five
goes_on : (start first more now after : List Token) → now ≡ start ++ first → after ≡ now ++ more → after ≡ start ++ (first ++ more)
goes_on start first more now after one two = two ∙ ap (λ ts. ts ++ more) one ∙ append_assoc start first more

pub wrote_four : (start a b c d t u v w : List Token) → t ≡ start ++ a → u ≡ t ++ b → v ≡ u ++ c → w ≡ v ++ d → w ≡ start ++ (a ++ (b ++ (c ++ d)))
wrote_four start a b c d t u v w one two three four =
    goes_on start a (b ++ (c ++ d)) t w one (goes_on t b (c ++ d) u w two (goes_on u c d v w three four))

pub wrote_five : (start a b c d e t u v w x : List Token) → t ≡ start ++ a → u ≡ t ++ b → v ≡ u ++ c → w ≡ v ++ d → x ≡ w ++ e
    → x ≡ start ++ (a ++ (b ++ (c ++ (d ++ e))))
wrote_five start a b c d e t u v w x one two three four five =
    goes_on start a (b ++ (c ++ (d ++ e))) t x one (wrote_four t b c d e u v w x two three four five)
