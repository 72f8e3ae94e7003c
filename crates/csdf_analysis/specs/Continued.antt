-- An accepted graph that goes on: its channels begin with other tokens, as many as before.
use Rattle.std.specs.Prelude.{ℕ, suc, List, [], ◌∷◌, ℤ, map}
use Rattle.std.specs.Global.{Vec}
use Rattle.csdf_model.specs.Holding.{channels_holding, beginning_with, HaveAsMany}
use Rattle.csdf_analysis.specs.Acceptance.{Accepted, IsAccepted}

-- the accepted graph, where its channels begin with these tokens
abbrev pub continued : List (List ℤ) → Accepted → Accepted
continued tokens a = record {
  graph = record { actors = a.graph.actors; channels = channels_holding tokens a.graph.channels; cells = a.graph.cells };
  r = a.r;
  q = a.q;
  capacities = a.capacities;
}

-- the same of one channel
abbrev pub accepted_beginning : ℕ → List ℤ → Accepted → Accepted
accepted_beginning n tokens a = record { graph = beginning_with n tokens a.graph; r = a.r; q = a.q; capacities = a.capacities }

-- the contents of lists
abbrev pub lists_in : List (Vec ℤ) → List (List ℤ)
lists_in lists = map (λ (list : Vec ℤ). list.items) lists

-- the channels from this number on begin with these tokens, one channel after the other
abbrev pub beginning_from : ℕ → List (List ℤ) → Accepted → Accepted
beginning_from n [] a = a
beginning_from n (tokens ∷ more) a = beginning_from (suc n) more (accepted_beginning n tokens a)

-- which tokens wait doesn't matter, only how many: with as many others the graph is accepted too, with the same vector and the same capacities
abbrev pub ContinuedIsAccepted : Type 0
ContinuedIsAccepted = (a : Accepted) (tokens : List (List ℤ)) → IsAccepted a → HaveAsMany tokens a.graph.channels → IsAccepted (continued tokens a)
