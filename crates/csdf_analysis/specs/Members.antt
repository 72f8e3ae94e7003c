-- How the least vector is found: the channels looked at join actors to groups, and each group has a least vector of its own.
use Rattle.std.specs.Prelude.{◌≡◌, ℕ, ◌*◌, ◌/◌, ◌<◌, ◌≤◌, ◌==◌, if◌then◌else◌, List, [], ◌∷◌, ◌++◌, length, map, All, Option, Some, None, slice_index}
use Rattle.std.specs.Prelude.{slice_index_or}
use Rattle.std.specs.List.{range_with_len}
use Rattle.csdf_model.specs.declared.limits.TheConstants.{MAX_CYCLES_PER_PERIOD, MAX_PHASES, MAX_TOKENS_PER_FIRING}
use Rattle.csdf_model.specs.Graph.{Actor, Channel}
use Rattle.csdf_analysis.specs.declared.members.Member.{Member}
use Rattle.csdf_analysis.specs.declared.members.Merge.{Merge}
use Rattle.csdf_analysis.specs.Divisor.{IsGreatestDivisor}
use Rattle.csdf_analysis.specs.Repetition.{cycle_produced, cycle_consumed, Balances, CanBalance}

-- a channel between two of the actors, where a cycle of either moves 1 to 1,024 tokens
pub record IsLink (actors : List Actor) (c : Channel) : Type 0 where
  pub from : c.from < length actors
  pub to : c.to < length actors
  pub some_put : 1 ≤ cycle_produced actors c
  pub few_put : cycle_produced actors c ≤ MAX_PHASES * MAX_TOKENS_PER_FIRING
  pub some_taken : 1 ≤ cycle_consumed actors c
  pub few_taken : cycle_consumed actors c ≤ MAX_PHASES * MAX_TOKENS_PER_FIRING

abbrev pub nobody : Member
nobody = record { group = 0; entry = 0 }

-- the number of an actor's group, and its entry in the group's vector
abbrev pub group_at : List Member → ℕ → ℕ
group_at members a = (slice_index_or members a nobody).group

abbrev pub entry_at : List Member → ℕ → ℕ
entry_at members a = (slice_index_or members a nobody).entry

-- each of n actors has an entry from 1 to 1,024
pub record AreEntries (n : ℕ) (members : List Member) : Type 0 where
  pub each_actor : length members ≡ n
  pub within : All (λ m. (1 ≤ m.entry) × (m.entry ≤ MAX_CYCLES_PER_PERIOD)) members

-- the entries balance the channels, whose ends are of one group; and every vector that balances them is on each group a multiple of the entries
pub record AreMembers (actors : List Actor) (channels : List Channel) (members : List Member) : Type 0 where
  pub entries : AreEntries (length actors) members
  pub ends : All (λ c. (c.from < length actors) × (c.to < length actors)) channels
  pub balanced : All (λ c. entry_at members c.from * cycle_produced actors c ≡ entry_at members c.to * cycle_consumed actors c) channels
  pub joined : All (λ c. group_at members c.from ≡ group_at members c.to) channels
  pub every : (w : List ℕ) → Balances actors w channels → (k : ℕ → ℕ)
      × ((a : ℕ) → a < length actors → slice_index w a ≡ k (group_at members a) * entry_at members a)

-- each actor in a group of its own
abbrev pub alone : ℕ → List Member
alone n = map (λ a. record { group = a; entry = 1 }) (range_with_len 0 n)

-- by what the entries of a group are scaled where one group goes into another
abbrev pub factor : Merge → ℕ → ℕ
factor m group = if group == m.gone then m.gone_factor else (if group == m.into then m.into_factor else 1)

abbrev pub moved : Merge → Member → Member
moved m a = record { group = if a.group == m.gone then m.into else a.group; entry = a.entry * factor m a.group }

-- the members after a merge, each entry at most 1,024; or nothing where some entry would be greater
abbrev pub Moves : Merge → List Member → Option (List Member) → Type 0
Moves m members None = (a : ℕ) × (a < length members) × (MAX_CYCLES_PER_PERIOD < entry_at (map (moved m) members) a)
Moves m members (Some next) = (next ≡ map (moved m) members) × All (λ a. a.entry ≤ MAX_CYCLES_PER_PERIOD) next

-- the group of one member goes into that of another, where a cycle of the one, as often as its entry, puts in so many tokens, and of the other takes out so
-- many: the factors are what a greatest common divisor leaves of these
pub record IsMergeOf (from to : Member) (put taken : ℕ) (m : Merge) : Type 0 where
  pub gone : m.gone ≡ from.group
  pub into : m.into ≡ to.group
  pub divisor : ℕ
  pub greatest : IsGreatestDivisor put taken divisor
  pub gone_factor : m.gone_factor ≡ taken / divisor
  pub into_factor : m.into_factor ≡ put / divisor

-- for any channels that the members stand for, the next ones stand for these and the new one; or no vector with entries up to 1,024 balances all of them
abbrev pub Joins : List Actor → Channel → List Member → Option (List Member) → Type 0
Joins actors c members None = (done : List Channel) → AreMembers actors done members → CanBalance actors (done ++ c ∷ []) → ⊥
Joins actors c members (Some next) = (done : List Channel) → AreMembers actors done members → AreMembers actors (done ++ c ∷ []) next
