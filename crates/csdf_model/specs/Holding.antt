-- A graph whose channels begin with other tokens, as many as before.
use Rattle.std.specs.Prelude.{◌≡◌, ℕ, zero, suc, List, [], ◌∷◌, ℤ, length, map}
use Rattle.std.specs.List.{zip, AllZip}
use Rattle.csdf_model.specs.Graph.{Channel, Graph}

-- the channel, beginning with these tokens
abbrev pub with_initial : Channel × List ℤ → Channel
with_initial row = record {
  name = row.0.name;
  from = row.0.from;
  to = row.0.to;
  produce = row.0.produce;
  consume = row.0.consume;
  initial = row.1;
  capacity = row.0.capacity;
}

-- as many tokens as the channel begins with
abbrev pub HasAsMany : Channel → List ℤ → Type 0
HasAsMany c tokens = length tokens ≡ length c.initial

-- the channels, each beginning with its tokens
abbrev pub channels_holding : List (List ℤ) → List Channel → List Channel
channels_holding tokens channels = map with_initial (zip channels tokens)

-- as many for each channel
abbrev pub HaveAsMany : List (List ℤ) → List Channel → Type 0
HaveAsMany tokens channels = AllZip HasAsMany channels tokens

-- the channels, where the one of this number begins with these tokens
abbrev pub channels_beginning : ℕ → List ℤ → List Channel → List Channel
channels_beginning n tokens [] = []
channels_beginning zero tokens (c ∷ cs) = with_initial (c, tokens) ∷ cs
channels_beginning (suc n) tokens (c ∷ cs) = c ∷ channels_beginning n tokens cs

-- the same graph, where this channel begins with these tokens
abbrev pub beginning_with : ℕ → List ℤ → Graph → Graph
beginning_with n tokens g = record { actors = g.actors; channels = channels_beginning n tokens g.channels; cells = g.cells }
