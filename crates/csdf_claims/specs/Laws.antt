-- What it means for a board to be lawful, place by place.
use Rattle.std.specs.Prelude.{◌≡◌, ℕ, ◌/◌, ◌<◌, ◌≤◌, List, [], ◌∷◌}
use mathlib.Core.Option.{some}
use lib.ListN.{get_elem?}
use Rattle.csdf_claims.specs.declared.rule.View.{View}
use Rattle.csdf_claims.specs.Board.{IsLawful, IsHolding, HasFinished, word_of, track_of, times}

-- two places that hold an actor are one place
abbrev pub OneHolds : Type 0
OneHolds =
    (actors : ℕ) (words : List ℕ) (places : List View) → IsLawful actors words places
    → (a : ℕ) → a < actors
    → (i j : ℕ) (v w : View) → get_elem? places i ≡ some v
    → get_elem? places j ≡ some w → IsHolding v a → IsHolding w a → i ≡ j

-- two places that finished a firing are one place
abbrev pub OneFinished : Type 0
OneFinished =
    (actors : ℕ) (words : List ℕ) (places : List View) → IsLawful actors words places
    → (a x : ℕ) → a < actors
    → (i j : ℕ) (v w : View) → get_elem? places i ≡ some v
    → get_elem? places j ≡ some w → HasFinished v a x → HasFinished w a x → i ≡ j

-- no place finished a firing twice
abbrev pub FinishedOnce : Type 0
FinishedOnce =
    (actors : ℕ) (words : List ℕ) (places : List View) → IsLawful actors words places
    → (a x : ℕ) → a < actors
    → (i : ℕ) (v : View) → get_elem? places i ≡ some v → times x (track_of v a).finished ≤ 1

-- the firings below the word's are those that some place finished
abbrev pub FinishedBelow : Type 0
FinishedBelow =
    (actors : ℕ) (words : List ℕ) (places : List View) → IsLawful actors words places
    → (a x : ℕ) → a < actors
    → (x < word_of words a / 2 → (i : ℕ) × (v : View) × (get_elem? places i ≡ some v) × HasFinished v a x)
    × ((i : ℕ) (v : View) → get_elem? places i ≡ some v → HasFinished v a x → x < word_of words a / 2)

-- a place that finished firing 0 of the one actor and has seen it so
abbrev pub first_done : View
first_done = record { tracks = record { held = []; finished = 0 ∷ []; seen = 1 } ∷ []; found = 1 }

-- a place that holds the actor at firing 1
abbrev pub second_held : View
second_held = record { tracks = record { held = 1 ∷ []; finished = []; seen = 1 } ∷ []; found = 2 }
