-- Dots, one for each token.
use Rattle.std.proofs.Common.{◌≡◌, ℕ, ◌+◌, ◌<◌, List, ◌++◌, ℤ, pos, length, drop, ap, sym, ◌∙◌}
use Rattle.std.proofs.lemmas.List.{append_assoc, at_drop_more}
use Rattle.std.specs.List.{flat_map}
use Rattle.csdf_answers.specs.Drawing.{dot}

-- a dot for each token
abbrev pub each_dot : List ℤ → List ℕ
each_dot tokens = flat_map (λ token. dot) tokens

-- a text and the dots of the tokens from i on, where it becomes longer by one dot
pub one_more : (tokens : List ℤ) (i : ℕ) (before after whole : List ℕ) → i < length tokens → after ≡ before ++ dot
    → before ++ each_dot (drop i tokens) ≡ whole → after ++ each_dot (drop (i + 1) tokens) ≡ whole
one_more tokens i before after whole within longer known =
    ap (λ text. text ++ each_dot (drop (i + 1) tokens)) longer
    ∙ append_assoc before dot (each_dot (drop (i + 1) tokens))
    ∙ ap (λ text. before ++ text) (sym (at_drop_more each_dot tokens i (pos 0) within))
    ∙ known
