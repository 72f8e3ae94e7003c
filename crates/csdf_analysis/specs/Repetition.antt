-- The least repetition vector: how often each actor fires in a period (Lee and Messerschmitt 1987).
use Rattle.std.specs.Prelude.{◌≡◌, ℕ, suc, ◌+◌, ◌*◌, ◌<◌, ◌≤◌, List, length, take, All, EachIndex, slice_index, slice_get, Some}
use Rattle.csdf_model.specs.declared.limits.TheConstants.{MAX_CYCLES_PER_PERIOD, MAX_TOKENS_PER_FIRING, MAX_INITIAL_TOKENS, MAX_CAPACITY}
use Rattle.csdf_model.specs.Graph.{Actor, Channel, phases_of}
use Rattle.csdf_model.specs.Rates.{produced, consumed}
use Rattle.csdf_analysis.specs.declared.fault.AcceptFault.{AcceptFault}
use Rattle.csdf_analysis.specs.declared.fault.AcceptFault.TheVariants as fault

-- how many tokens one cycle of all phases of its producer puts into a channel, and how many one of its consumer takes out
abbrev pub cycle_produced : List Actor → Channel → ℕ
cycle_produced actors c = produced c (phases_of actors c.from)

abbrev pub cycle_consumed : List Actor → Channel → ℕ
cycle_consumed actors c = consumed c (phases_of actors c.to)

-- so many cycles of each actor put into a channel as many tokens as they take out
abbrev pub IsBalanced : List Actor → List ℕ → Channel → Type 0
IsBalanced actors r c = slice_index r c.from * cycle_produced actors c ≡ slice_index r c.to * cycle_consumed actors c

-- a vector balances each of the channels
abbrev pub Balances : List Actor → List ℕ → List Channel → Type 0
Balances actors r channels = All (IsBalanced actors r) channels

-- a vector has an entry for each actor, each at least 1
pub record IsVector (actors : List Actor) (r : List ℕ) : Type 0 where
  pub each_actor : length r ≡ length actors
  pub positive : All (λ n. 1 ≤ n) r

-- each entry is at most 1,024
abbrev pub IsSmall : List ℕ → Type 0
IsSmall r = All (λ n. n ≤ MAX_CYCLES_PER_PERIOD) r

-- it balances all channels, and no vector that does so has a smaller entry anywhere
pub record IsLeastRepetition (actors : List Actor) (channels : List Channel) (r : List ℕ) : Type 0 where
  pub vector : IsVector actors r
  pub balances : Balances actors r channels
  pub least : (w : List ℕ) → IsVector actors w → Balances actors w channels → EachIndex r (λ a. slice_index r a ≤ slice_index w a)

-- the firings of each actor: its phases times its cycles
pub record AreFirings (actors : List Actor) (r q : List ℕ) : Type 0 where
  pub each_actor : length q ≡ length actors
  pub firings : EachIndex q (λ a. slice_index q a ≡ phases_of actors a * slice_index r a)

-- the initial tokens of a channel and all that its producer puts in within a period
abbrev pub full_capacity : List ℕ → Channel → ℕ
full_capacity q c = length c.initial + produced c (slice_index q c.from)

-- a channel from one of n actors, with rates up to 64 and up to 256 initial tokens
pub record IsWithin (n : ℕ) (c : Channel) : Type 0 where
  pub from : c.from < n
  pub small : All (λ x. x ≤ MAX_TOKENS_PER_FIRING) c.produce
  pub few_initial : length c.initial ≤ MAX_INITIAL_TOKENS

-- each full capacity is at most 65,535
abbrev pub HaveRoom : List ℕ → List Channel → Type 0
HaveRoom q channels = All (λ c. full_capacity q c ≤ MAX_CAPACITY) channels

-- the least vector and its firings, within the limits
pub record IsRepetition (actors : List Actor) (channels : List Channel) (r q : List ℕ) : Type 0 where
  pub least : IsLeastRepetition actors channels r
  pub small : IsSmall r
  pub firings : AreFirings actors r q
  pub room : HaveRoom q channels

-- a vector with entries up to 1,024 balances the channels
pub record CanBalance (actors : List Actor) (channels : List Channel) : Type 0 where
  pub r : List ℕ
  pub vector : IsVector actors r
  pub small : IsSmall r
  pub balances : Balances actors r channels

-- such a vector balances the channels before this one, and none these and this one
pub record IsFirstUnbalanced (actors : List Actor) (channels : List Channel) (c : ℕ) : Type 0 where
  pub exists : c < length channels
  pub before : CanBalance actors (take c channels)
  pub with_it : CanBalance actors (take (suc c) channels) → ⊥

-- this channel is the first with a greater full capacity
pub record IsFirstOver (q : List ℕ) (channels : List Channel) (c : ℕ) : Type 0 where
  pub channel : Channel
  pub place : slice_get channels c ≡ Some channel
  pub above : MAX_CAPACITY < full_capacity q channel
  pub before : HaveRoom q (take c channels)

-- the least vector is within the limit, and this channel is the first whose full capacity is not
pub record IsFirstTooLarge (actors : List Actor) (channels : List Channel) (c : ℕ) : Type 0 where
  pub r : List ℕ
  pub q : List ℕ
  pub least : IsLeastRepetition actors channels r
  pub small : IsSmall r
  pub firings : AreFirings actors r q
  pub over : IsFirstOver q channels c

-- when a graph has no such vector; want of memory says nothing of it
abbrev pub IsRefused : List Actor → List Channel → AcceptFault → Type 0
IsRefused actors channels (fault.Unbalanced c) = IsFirstUnbalanced actors channels c
IsRefused actors channels (fault.TooLarge c) = IsFirstTooLarge actors channels c
IsRefused actors channels fault.Deadlock = ⊥
IsRefused actors channels fault.TooTight = ⊥
IsRefused actors channels fault.Memory = Unit {0}
