-- What a graph keeps with the names that its numbers stand for.
use Rattle.std.specs.Prelude.{◌≡◌, ℕ, List, map}
use Rattle.std.specs.List.{range_with_len}
use Rattle.csdf_model.specs.Graph.{Graph, Actor, Channel, Ports, ports_of}
use Rattle.csdf_model.specs.WellFormed.{IsFitting, IsWellFormed}

-- the names of actors and of channels, by number
pub record IsNumbered (actor_names channel_names : List (List ℕ)) (g : Graph) : Type 0 where
  pub actors : actor_names ≡ map (λ (a : Actor). a.name) g.actors
  pub channels : channel_names ≡ map (λ (c : Channel). c.name) g.channels

-- what holds of a graph before it is known whether its actors are joined
pub record IsUnjoined (actor_names channel_names : List (List ℕ)) (g : Graph) : Type 0 where
  pub numbered : IsNumbered actor_names channel_names g
  pub fitting : IsFitting g

-- what holds of every graph
pub record IsKept (actor_names channel_names : List (List ℕ)) (g : Graph) : Type 0 where
  pub numbered : IsNumbered actor_names channel_names g
  pub well_formed : IsWellFormed g

-- the ports of each of so many actors
abbrev pub all_ports : List Channel → ℕ → List Ports
all_ports channels n = map (ports_of channels) (range_with_len 0 n)
