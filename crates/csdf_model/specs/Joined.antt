-- When actors are joined by channels, directions ignored.
use Rattle.std.specs.Prelude.{◌≡◌, ℕ, ◌<◌, ◌⊎◌, List, [], ◌∷◌}
use Rattle.csdf_model.specs.Graph.{Channel}

-- a channel stands between two actors, in one direction or the other
abbrev pub IsEdge : List Channel → ℕ → ℕ → Type 0
IsEdge [] a b = ⊥
IsEdge (c ∷ cs) a b = ((c.from ≡ a) × (c.to ≡ b)) ⊎ (((c.from ≡ b) × (c.to ≡ a)) ⊎ IsEdge cs a b)

-- a walk along channels leads from one actor to another
pub data Joined (channels : List Channel) : ℕ → ℕ → Type 0 where
  here : {a : ℕ} → Joined channels a a
  along : {a b c : ℕ} → IsEdge channels b c → Joined channels a b → Joined channels a c

-- the ends of the channels are among n actors
abbrev pub HasEnds : ℕ → List Channel → Type 0
HasEnds n [] = Unit {0}
HasEnds n (c ∷ cs) = (c.from < n) × (c.to < n) × HasEnds n cs

-- any two of n actors are joined
abbrev pub AreJoined : ℕ → List Channel → Type 0
AreJoined n channels = (a b : ℕ) → a < n → b < n → Joined channels a b
