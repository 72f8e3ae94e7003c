-- A cyclo-static dataflow graph, without where it lies in memory (Bilsen et al. 1996).
use Rattle.std.specs.Prelude.{ℕ, zero, suc, Bool, ◌==◌, if◌then◌else◌, List, [], ◌∷◌, ℤ, Option, Some, None, string_bytes, count_by, map, slice_get, option_map, unwrap_or}
use Rattle.csdf_model.specs.declared.parts.Kernel.{Kernel}
use Rattle.csdf_model.specs.declared.parts.Actor.{Actor as ActorCode}
use Rattle.csdf_model.specs.declared.parts.Channel.{Channel as ChannelCode}
use Rattle.csdf_model.specs.declared.ports.Ports.{Ports as PortsCode}

-- an actor: its firing number k, counted from 0, is in phase k modulo its number of phases
pub record Actor : Type 0 where
  pub name : List ℕ
  pub kernel : Kernel
  pub phases : ℕ

-- a queue from one actor to another, with a rate for each phase of either, the tokens that it begins with, and the capacity that it is given
pub record Channel : Type 0 where
  pub name : List ℕ
  pub from : ℕ
  pub to : ℕ
  pub produce : List ℕ
  pub consume : List ℕ
  pub initial : List ℤ
  pub capacity : Option ℕ

abbrev pub actor_view : ActorCode → Actor
actor_view a = record { name = string_bytes a.name; kernel = a.kernel; phases = a.phases }

abbrev pub channel_view : ChannelCode → Channel
channel_view d = record {
  name = string_bytes d.name;
  from = d.from;
  to = d.to;
  produce = d.produce.items;
  consume = d.consume.items;
  initial = d.initial.items;
  capacity = d.capacity;
}

-- actors and channels, numbered from 0 in file order, and the number of cells that the file gives
pub record Graph : Type 0 where
  pub actors : List Actor
  pub channels : List Channel
  pub cells : Option ℕ

abbrev pub graph_view : List ActorCode → List ChannelCode → Option ℕ → Graph
graph_view actors channels cells = record { actors = map actor_view actors; channels = map channel_view channels; cells = cells }

-- the same graph, where no number of cells is given
abbrev pub without_cells : Graph → Graph
without_cells g = record { actors = g.actors; channels = g.channels; cells = None }

-- the channel, given this capacity
abbrev pub with_capacity : ℕ → Channel → Channel
with_capacity capacity c = record c { capacity = Some capacity }

-- the channels, where the one of this number is given this capacity
abbrev pub channels_with : ℕ → ℕ → List Channel → List Channel
channels_with n capacity [] = []
channels_with zero capacity (c ∷ cs) = with_capacity capacity c ∷ cs
channels_with (suc n) capacity (c ∷ cs) = c ∷ channels_with n capacity cs

-- the same graph, where this channel is given this capacity
abbrev pub with_capacity_at : ℕ → ℕ → Graph → Graph
with_capacity_at n capacity g = record { actors = g.actors; channels = channels_with n capacity g.channels; cells = g.cells }

-- the numbers of the elements that pass a test, in order, where the first element has this number
abbrev pub numbers_from : {A : Type 0} → ℕ → (A → Bool) → List A → List ℕ
numbers_from i test [] = []
numbers_from i test (x ∷ xs) = if test x then i ∷ numbers_from (suc i) test xs else numbers_from (suc i) test xs

-- the channels that end at an actor, and those that begin at it
abbrev pub inputs_of : List Channel → ℕ → List ℕ
inputs_of channels a = numbers_from 0 (λ c. c.to == a) channels

abbrev pub outputs_of : List Channel → ℕ → List ℕ
outputs_of channels a = numbers_from 0 (λ c. c.from == a) channels

-- the numbers of an actor's channels
pub record Ports : Type 0 where
  pub inputs : List ℕ
  pub outputs : List ℕ

abbrev pub ports_view : PortsCode → Ports
ports_view p = record { inputs = p.inputs.items; outputs = p.outputs.items }

abbrev pub ports_of : List Channel → ℕ → Ports
ports_of channels a = record { inputs = inputs_of channels a; outputs = outputs_of channels a }

-- how many channels end at an actor, and how many begin at it
abbrev pub input_count : List Channel → ℕ → ℕ
input_count channels a = count_by (λ c. c.to == a) channels

abbrev pub output_count : List Channel → ℕ → ℕ
output_count channels a = count_by (λ c. c.from == a) channels

-- how many phases an actor has, and none where there is no such actor
abbrev pub phases_of : List Actor → ℕ → ℕ
phases_of actors a = unwrap_or (option_map (λ (actor : Actor). actor.phases) (slice_get actors a)) 0
