-- How the test of connection goes: groups of actors, joined channel by channel.
use Rattle.std.specs.Prelude.{ℕ, Bool, List, [], ◌∷◌, map, slice_index, Option, Some, None, slice_get, ◌==◌, if◌then◌else◌}
use Rattle.std.specs.List.{list_all, range_with_len}
use Rattle.csdf_model.specs.Graph.{Channel}

-- one group takes the number of another
abbrev pub relabel : ℕ → ℕ → List ℕ → List ℕ
relabel old new groups = map (λ g. if g == old then new else g) groups

abbrev pub merge : Option ℕ → Option ℕ → List ℕ → List ℕ
merge (Some a) (Some b) groups = relabel a b groups
merge (Some a) None groups = groups
merge None b groups = groups

-- the groups once each channel has joined those of its ends
abbrev pub join_all : List ℕ → List Channel → List ℕ
join_all groups [] = groups
join_all groups (c ∷ cs) = join_all (merge (slice_get groups c.from) (slice_get groups c.to) groups) cs

-- the groups of n actors
abbrev pub groups_of : ℕ → List Channel → List ℕ
groups_of n channels = join_all (range_with_len 0 n) channels

-- they end up in one group
abbrev pub are_one_group : ℕ → List Channel → Bool
are_one_group n channels = list_all (λ g. g == slice_index (groups_of n channels) 0) (groups_of n channels)
