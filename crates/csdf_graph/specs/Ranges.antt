-- Numbers and counts are within their limits.
use Rattle.std.specs.Prelude.{ℕ, ◌-◌, ◌^◌, ℤ, pos, negsuc, max, nat_le, nat_lt, sum_by, Bool, ◌&&◌, List, ◌++◌, length, replicate, map, Option, Some, None}
use Rattle.std.specs.Prelude.{option_map, if◌then◌else◌, Result, Ok, Err}
use Rattle.csdf_graph.specs.declared.fault.GraphFault.{GraphFault}
use Rattle.csdf_graph.specs.declared.fault.GraphFault.TheVariants as fault
use Rattle.csdf_graph.specs.declared.fault.At.TheVariants as at
use Rattle.csdf_model.specs.declared.limits.TheConstants.{MAX_ACTORS, MAX_CHANNELS, MAX_PHASES, MAX_WEIGHTS, MAX_SHIFT, MAX_TOKENS_PER_FIRING}
use Rattle.csdf_model.specs.declared.limits.TheConstants.{MAX_INITIAL_TOKENS, MAX_CAPACITY, MAX_CELLS}
use Rattle.csdf_model.specs.declared.parts.Kernel.{Kernel}
use Rattle.csdf_model.specs.declared.parts.Kernel.TheVariants as kernel
use Rattle.csdf_graph.specs.declared.ranges.RangedChannel.{RangedChannel as RangedCode}
use Rattle.csdf_graph.specs.declared.ranges.RangedLists.{RangedLists as ListsCode}
use Rattle.csdf_graph.specs.declared.ranges.Ranged.{Ranged as FileCode}
use Rattle.csdf_model.specs.Graph.{Actor, actor_view}
use Rattle.csdf_graph.specs.Shape.{KernelDraft, source, sink, copy, sum, fir, ActorDraft, ChannelDraft, GraphDraft}
use Rattle.csdf_graph.specs.Passes as passes
use Rattle.csdf_graph.specs.FaultPlace.{fault_place}
use Rattle.csdf_graph.specs.Optional.{◌>>=◌}
use Rattle.csdf_graph.specs.Passes.{or_fault, each}
use Rattle.csdf_graph.specs.Tree.{all_some}

-- a whole number from low to high
abbrev pub number_within : ℕ → ℕ → ℤ → Option ℕ
number_within low high (pos n) = if nat_le low n && nat_le n high then Some n else None
number_within low high (negsuc n) = None

-- a number of so many bits and a sign
abbrev pub signed_within : ℕ → ℤ → Option ℤ
signed_within bits (pos n) = if nat_lt n (2 ^ bits) then Some (pos n) else None
signed_within bits (negsuc n) = if nat_lt n (2 ^ bits) then Some (negsuc n) else None

-- the weights, with zeros up to the most
unfoldable pub weights_within : List ℤ → Option (List ℤ)
weights_within ws =
    if nat_le 1 (length ws) && nat_le (length ws) MAX_WEIGHTS
    then option_map (λ zs. zs ++ replicate (MAX_WEIGHTS - length ws) (pos 0)) (all_some (signed_within 15) ws)
    else None

unfoldable pub kernel_within : KernelDraft → Option Kernel
kernel_within source = Some kernel.Source
kernel_within sink = Some kernel.Sink
kernel_within copy = Some kernel.Copy
kernel_within sum = Some kernel.Sum
kernel_within (fir ws s) = do
  weights ← weights_within ws
  shift ← number_within 0 MAX_SHIFT s
  Some (kernel.Fir weights (length ws) shift)

unfoldable pub actor_within : ActorDraft → Option Actor
actor_within a = do
  kernel ← kernel_within a.kernel
  phases ← number_within 1 MAX_PHASES a.phases
  Some (record { name = a.name; kernel = kernel; phases = phases })

-- a channel in range, with its ends by name
pub record RangedChannel : Type 0 where
  pub name : List ℕ
  pub from : List ℕ
  pub to : List ℕ
  pub produce : List ℕ
  pub consume : List ℕ
  pub initial : List ℤ
  pub capacity : Option ℕ

abbrev pub ranged_view : RangedCode → RangedChannel
ranged_view d = record {
  name = d.name.now;
  from = d.from.now;
  to = d.to.now;
  produce = d.produce.items;
  consume = d.consume.items;
  initial = d.initial.items;
  capacity = d.capacity;
}

abbrev pub rates_within : List ℤ → Option (List ℕ)
rates_within = all_some (number_within 0 MAX_TOKENS_PER_FIRING)

unfoldable pub tokens_within : List ℤ → Option (List ℤ)
tokens_within zs = if nat_le (length zs) MAX_INITIAL_TOKENS then all_some (signed_within 31) zs else None

abbrev pub capacity_within : ℕ → Option ℤ → Option (Option ℕ)
capacity_within held None = Some None
capacity_within held (Some z) = option_map Some (number_within (max 1 held) MAX_CAPACITY z)

-- the lists of a channel, in range
pub record RangedLists : Type 0 where
  pub produce : List ℕ
  pub consume : List ℕ
  pub initial : List ℤ

abbrev pub lists_view : ListsCode → RangedLists
lists_view l = record { produce = l.produce.items; consume = l.consume.items; initial = l.initial.items }

unfoldable pub lists_within : ChannelDraft → Option RangedLists
lists_within d = do
  produce ← rates_within d.produce
  consume ← rates_within d.consume
  initial ← tokens_within d.initial
  Some (record { produce = produce; consume = consume; initial = initial })

unfoldable pub channel_within : ChannelDraft → Option RangedChannel
channel_within d = do
  capacity ← capacity_within (length d.initial) d.capacity
  produce ← rates_within d.produce
  consume ← rates_within d.consume
  initial ← tokens_within d.initial
  Some (record { name = d.name; from = d.from; to = d.to; produce = produce; consume = consume; initial = initial; capacity = capacity })

abbrev pub ranged_actor : ℕ → ActorDraft → Result Actor GraphFault
ranged_actor i a = or_fault (fault.Range (at.Actor (fault_place i))) (actor_within a)

abbrev pub ranged_channel : ℕ → ChannelDraft → Result RangedChannel GraphFault
ranged_channel i d = or_fault (fault.Range (at.Channel (fault_place i))) (channel_within d)

-- a file whose numbers are in range
pub record Ranged : Type 0 where
  pub actors : List Actor
  pub channels : List RangedChannel
  pub cells : Option ℕ

abbrev pub file_view : FileCode → Ranged
file_view f = record { actors = map actor_view f.actors.items; channels = map ranged_view f.channels.items; cells = f.cells }

-- some actors, and no more actors or channels than the most
abbrev pub counts_fit : GraphDraft → Bool
counts_fit d = (nat_le 1 (length d.actors) && nat_le (length d.actors) MAX_ACTORS) && nat_le (length d.channels) MAX_CHANNELS

-- how many tokens the channels begin with
abbrev pub initial_count : List ChannelDraft → ℕ
initial_count channels = sum_by (λ (d : ChannelDraft). length d.initial) channels

-- a number of cells has room for all initial tokens
abbrev pub cells_within : List ChannelDraft → Option ℤ → Option (Option ℕ)
cells_within channels None = Some None
cells_within channels (Some z) = option_map Some (number_within (initial_count channels) MAX_CELLS z)

unfoldable pub range_of : GraphDraft → Result Ranged GraphFault
range_of d =
    if counts_fit d
    then passes.◌>>=◌ (or_fault (fault.Range at.File) (cells_within d.channels d.cells)) (λ cells.
    passes.◌>>=◌ (each ranged_actor 0 d.actors) (λ actors.
    passes.◌>>=◌ (each ranged_channel 0 d.channels) (λ channels.
    Ok (record { actors = actors; channels = channels; cells = cells }))))
    else Err (fault.Range at.File)
