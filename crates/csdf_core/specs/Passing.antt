-- What several firings of one actor leave in its channels, told for all of them at once.
use Rattle.std.specs.Prelude.{ℕ, ◌≡◌, ◌+◌, ◌≤◌, ◌==◌, if◌then◌else◌, List, [], ◌∷◌, ◌++◌, ℤ, take, drop, slice_set}
use Rattle.csdf_core.specs.Blocks.{takes_at}
use Rattle.csdf_core.specs.Engine.{gives_to}
use Rattle.csdf_core.specs.Plan.{Channel, from_at, to_at}
use Rattle.csdf_core.specs.Ports.{inputs_at, outputs_at, give_at, tokens_at, takes_over}
use Rattle.csdf_core.specs.Rows.{gift, shares}

-- how many tokens n firings take of an input that another actor fills, and none of a channel to the actor itself
abbrev pub takes_apart : List Channel → ℕ → ℕ → ℕ → ℕ → ℕ
takes_apart channels a k n c = if from_at channels c == a then 0 else takes_at channels k n c

-- how many they take of an output: none, unless it is a channel to the actor itself
abbrev pub takes_back : List Channel → ℕ → ℕ → ℕ → ℕ → ℕ
takes_back channels a k n c = if to_at channels c == a then takes_at channels k n c else 0

-- what n firings that write v leave in an output: what it held and what they give to it, without what they take of it
abbrev pub passed : List Channel → ℕ → ℕ → ℕ → List ℤ → ℕ → List ℤ → List ℤ
passed channels a k n v c tokens = drop (takes_back channels a k n c) (tokens ++ gives_to channels a c k n v)

-- each of the channels becomes what is made of it, by its number
abbrev pub changed : (ℕ → List ℤ → List ℤ) → List ℕ → List (List ℤ) → List (List ℤ)
changed make [] tokens = tokens
changed make (c ∷ numbers) tokens = changed make numbers (slice_set tokens c (make c (tokens_at tokens c)))

-- all channels after n firings that write v: first the inputs that other actors fill give up what is taken of them, then the outputs change
abbrev pub after_block : List Channel → ℕ → ℕ → ℕ → List ℤ → List (List ℤ) → List (List ℤ)
after_block channels a k n v tokens =
    changed (passed channels a k n v) (outputs_at channels a) (takes_over (takes_apart channels a k n) (inputs_at channels a) tokens)

-- of whatever firing number k writes, so many tokens in all, those from a place on, so many, are the share of channel c
pub record IsShare (channels : List Channel) (a c k all from own : ℕ) : Type 0 where
  pub all_is : all ≡ gift a k channels
  pub own_is : own ≡ give_at channels k c
  pub fits : from + own ≤ all
  pub share : (v : List ℤ) → take own (drop from v) ≡ tokens_at (shares a k channels v) c
