-- The shape of a file: each table has its keys, of their kinds, and no others.
use Rattle.std.specs.Prelude.{ℕ, ℤ, pos, codes, ◌||◌, List, [], ◌∷◌, Option, Some, None, option_and_then, option_map, is_some, if◌then◌else◌, map, Result, Ok}
use Rattle.std.specs.Str.{bytes_eq}
use Rattle.toml.specs.Data.{Members, no_members, get_member, as_table}
use Rattle.csdf_graph.specs.declared.fault.GraphFault.{GraphFault}
use Rattle.csdf_graph.specs.declared.fault.GraphFault.TheVariants.{Shape}
use Rattle.csdf_graph.specs.declared.fault.At.TheVariants.{File, Actor, Channel}
use Rattle.csdf_graph.specs.declared.shape.KernelDraft.{KernelDraft as KernelCode}
use Rattle.csdf_graph.specs.declared.shape.KernelDraft.TheVariants as code
use Rattle.csdf_graph.specs.declared.shape.ActorDraft.{ActorDraft as ActorCode}
use Rattle.csdf_graph.specs.declared.shape.ChannelDraft.{ChannelDraft as ChannelCode}
use Rattle.csdf_graph.specs.declared.shape.ChannelLists.{ChannelLists as ListsCode}
use Rattle.csdf_graph.specs.declared.shape.FileTables.{FileTables}
use Rattle.csdf_graph.specs.declared.shape.GraphDraft.{GraphDraft as DraftCode}
use Rattle.toml.specs.View.{table_view}
use Rattle.csdf_graph.specs.Passes as passes
use Rattle.csdf_graph.specs.FaultPlace.{fault_place}
use Rattle.csdf_graph.specs.Optional.{◌>>=◌}
use Rattle.csdf_graph.specs.Passes.{or_fault, each}
use Rattle.csdf_graph.specs.Tree.{has_only, text_at, integer_at, integer_or, integers_at, optional_integer_at, integers_or_none, tables_at, tables_or_none}
use Rattle.csdf_graph.specs.Tree.{found_or}

pub data KernelDraft : Type 0 where
  source : KernelDraft
  sink : KernelDraft
  copy : KernelDraft
  sum : KernelDraft
  fir : List ℤ → ℤ → KernelDraft

pub record ActorDraft : Type 0 where
  pub name : List ℕ
  pub kernel : KernelDraft
  pub phases : ℤ

-- what the code's drafts show
abbrev pub kernel_view : KernelCode → KernelDraft
kernel_view code.Source = source
kernel_view code.Sink = sink
kernel_view code.Copy = copy
kernel_view code.Sum = sum
kernel_view (code.Fir weights shift) = fir weights.items shift

abbrev pub actor_view : ActorCode → ActorDraft
actor_view a = record { name = a.name.now; kernel = kernel_view a.kernel; phases = a.phases }

-- a kernel with no numbers of its own
unfoldable pub plain_kernel : List ℕ → Option KernelDraft
plain_kernel word =
    if bytes_eq word (codes "source") then Some source
    else if bytes_eq word (codes "sink") then Some sink
    else if bytes_eq word (codes "copy") then Some copy
    else if bytes_eq word (codes "sum") then Some sum
    else None

unfoldable pub kernel_of : List ℕ → Members → Option KernelDraft
kernel_of word ms =
    if bytes_eq word (codes "fir")
    then option_and_then (λ weights. option_map (λ shift. fir weights shift) (integer_at (codes "shift") ms)) (integers_at (codes "weights") ms)
    else if is_some (get_member (codes "weights") ms) || is_some (get_member (codes "shift") ms) then None
    else plain_kernel word

-- the kernel of a word, with the weights and the shift that stand beside it
unfoldable pub kernel_with : List ℕ → Option (List ℤ) → Option ℤ → Option KernelDraft
kernel_with word weights shift =
    if bytes_eq word (codes "fir")
    then option_and_then (λ ws. option_map (λ s. fir ws s) shift) weights
    else if is_some weights || is_some shift then None
    else plain_kernel word

abbrev pub actor_keys : List (List ℕ)
actor_keys = codes "name" ∷ codes "kernel" ∷ codes "phases" ∷ codes "weights" ∷ codes "shift" ∷ []

unfoldable pub actor_of : Members → Option ActorDraft
actor_of ms = if has_only actor_keys ms then (do
  name ← text_at (codes "name") ms
  word ← text_at (codes "kernel") ms
  phases ← integer_or (pos 1) (codes "phases") ms
  kernel ← kernel_of word ms
  Some (record { name = name; kernel = kernel; phases = phases })) else None

pub record ChannelDraft : Type 0 where
  pub name : List ℕ
  pub from : List ℕ
  pub to : List ℕ
  pub produce : List ℤ
  pub consume : List ℤ
  pub initial : List ℤ
  pub capacity : Option ℤ

abbrev pub channel_view : ChannelCode → ChannelDraft
channel_view d = record {
  name = d.name.now;
  from = d.from.now;
  to = d.to.now;
  produce = d.produce.items;
  consume = d.consume.items;
  initial = d.initial.items;
  capacity = d.capacity;
}

abbrev pub channel_keys : List (List ℕ)
channel_keys = codes "name" ∷ codes "from" ∷ codes "to" ∷ codes "produce" ∷ codes "consume" ∷ codes "initial" ∷ codes "capacity" ∷ []

-- the lists of a channel
pub record ChannelLists : Type 0 where
  pub produce : List ℤ
  pub consume : List ℤ
  pub initial : List ℤ

abbrev pub lists_view : ListsCode → ChannelLists
lists_view l = record { produce = l.produce.items; consume = l.consume.items; initial = l.initial.items }

unfoldable pub lists_of : Members → Option ChannelLists
lists_of ms = do
  produce ← integers_at (codes "produce") ms
  consume ← integers_at (codes "consume") ms
  initial ← integers_or_none (codes "initial") ms
  Some (record { produce = produce; consume = consume; initial = initial })

unfoldable pub channel_of : Members → Option ChannelDraft
channel_of ms = if has_only channel_keys ms then (do
  name ← text_at (codes "name") ms
  from ← text_at (codes "from") ms
  to ← text_at (codes "to") ms
  capacity ← optional_integer_at (codes "capacity") ms
  produce ← integers_at (codes "produce") ms
  consume ← integers_at (codes "consume") ms
  initial ← integers_or_none (codes "initial") ms
  Some (record { name = name; from = from; to = to; produce = produce; consume = consume; initial = initial; capacity = capacity })) else None

abbrev pub actor_at : ℕ → Members → Result ActorDraft GraphFault
actor_at i ms = or_fault (Shape (Actor (fault_place i))) (actor_of ms)

abbrev pub channel_at : ℕ → Members → Result ChannelDraft GraphFault
channel_at i ms = or_fault (Shape (Channel (fault_place i))) (channel_of ms)

-- the tables of a file, and its number of cells
pub record Tables : Type 0 where
  pub actors : List Members
  pub channels : List Members
  pub cells : Option ℤ

abbrev pub tables_view : FileTables → Tables
tables_view f = record {
  actors = map (λ t. table_view t.now) f.actors.items;
  channels = map (λ t. table_view t.now) f.channels.items;
  cells = f.cells;
}

abbrev pub file_keys : List (List ℕ)
file_keys = codes "actor" ∷ codes "channel" ∷ codes "script" ∷ codes "cells" ∷ []

unfoldable pub tables_of_file : Members → Option Tables
tables_of_file ms = if has_only file_keys ms then (do
  actors ← tables_at (codes "actor") ms
  channels ← tables_or_none (codes "channel") ms
  cells ← optional_integer_at (codes "cells") ms
  if is_some (found_or no_members as_table (get_member (codes "script") ms)) then Some (record { actors = actors; channels = channels; cells = cells })
      else None) else None

-- a file of the right shape
pub record GraphDraft : Type 0 where
  pub actors : List ActorDraft
  pub channels : List ChannelDraft
  pub cells : Option ℤ

abbrev pub draft_view : DraftCode → GraphDraft
draft_view d = record { actors = map actor_view d.actors.items; channels = map channel_view d.channels.items; cells = d.cells }

unfoldable pub draft_of : Members → Result GraphDraft GraphFault
draft_of ms =
    passes.◌>>=◌ (or_fault (Shape File) (tables_of_file ms)) (λ tables.
    passes.◌>>=◌ (each actor_at 0 tables.actors) (λ actors.
    passes.◌>>=◌ (each channel_at 0 tables.channels) (λ channels.
    Ok (record { actors = actors; channels = channels; cells = tables.cells }))))
