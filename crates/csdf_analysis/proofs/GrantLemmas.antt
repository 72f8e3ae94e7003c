-- Channels that are given room, one after another.
use Rattle.std.proofs.Common.{◌≡◌, ℕ, zero, suc, ◌*◌, ◌<◌, ◌≤◌, Option, Some, None, List, [], ◌∷◌, length, get_or, map, refl, sym, ap, ◌∙◌}
use Rattle.std.proofs.Common.{arith, mul-le-mul}
use Rattle.std.specs.Prelude.{IfSome, slice_get, unwrap_or}
use Rattle.std.proofs.lemmas.List.{length-map}
use Rattle.std.proofs.lemmas.Option.{slice_get_within}
use Rattle.csdf_model.specs.declared.parts.Channel.{Channel as ChannelCode}
use Rattle.csdf_model.specs.Graph.{Actor, Channel, Graph, channel_view, with_capacity, channels_with, with_capacity_at}
use Rattle.csdf_model.specs.Rates.{produced}
use Rattle.csdf_model.specs.WellFormed.{IsChannel, IsCapacity, IsWellFormed}
use Rattle.csdf_analysis.specs.Repetition.{full_capacity, IsRepetition, IsWithin}
use Rattle.csdf_analysis.specs.Room.{room_for, capacity_with_room, channel_with_room, with_room}
use Rattle.csdf_analysis.proofs.FitLemmas.{at}
use Rattle.csdf_analysis.proofs.BoundLemmas.{within_of}
use Rattle.csdf_analysis.proofs.LowerLemmas.{seen_channel}
use Rattle.csdf_analysis.proofs.SearchLemmas.{fit_of}

-- ---- the first so many channels

pub roomy_front : List ℕ → ℕ → ℕ → List Channel → List Channel
roomy_front q m zero cs = cs
roomy_front q m (suc n) [] = []
roomy_front q m (suc n) (c ∷ cs) = channel_with_room q m c ∷ roomy_front q m n cs

pub roomy_graph : List ℕ → ℕ → ℕ → Graph → Graph
roomy_graph q m n g = record { actors = g.actors; channels = roomy_front q m n g.channels; cells = g.cells }

front_all : (q : List ℕ) (m n : ℕ) (cs : List Channel) → length cs ≤ n → roomy_front q m n cs ≡ map (channel_with_room q m) cs
unfolding roomy_front
front_all q m zero [] le = refl
front_all q m zero (c ∷ cs) le = absurd (omega arith)
front_all q m (suc n) [] le = refl
front_all q m (suc n) (c ∷ cs) le = ap (λ (xs : List Channel). channel_with_room q m c ∷ xs) (front_all q m n cs (omega arith))

front_length : (q : List ℕ) (m n : ℕ) (cs : List Channel) → length (roomy_front q m n cs) ≡ length cs
unfolding roomy_front
front_length q m zero cs = refl
front_length q m (suc n) [] = refl
front_length q m (suc n) (c ∷ cs) = ap suc (front_length q m n cs)

-- the next one has nothing yet
front_next : (q : List ℕ) (m n : ℕ) (cs : List Channel) → slice_get (roomy_front q m n cs) n ≡ slice_get cs n
unfolding roomy_front
front_next q m zero cs = refl
front_next q m (suc n) [] = refl
front_next q m (suc n) (c ∷ cs) = front_next q m n cs

front_more : (q : List ℕ) (m n b : ℕ) (cs : List Channel) (c : Channel) → slice_get cs n ≡ Some c → b ≡ capacity_with_room q m c
    → channels_with n b (roomy_front q m n cs) ≡ roomy_front q m (suc n) cs
unfolding roomy_front
front_more q m n b [] c is e = absurd (let lt = slice_get_within [] n c is in omega arith)
front_more q m zero b (d ∷ cs) c is e =
    let same : d ≡ c = cc in
    ap (λ k. with_capacity k d ∷ cs) (e ∙ ap (capacity_with_room q m) (sym same))
front_more q m (suc n) b (d ∷ cs) c is e = ap (λ (xs : List Channel). channel_with_room q m d ∷ xs) (front_more q m n b cs c is e)

pub graph_first : (q : List ℕ) (m : ℕ) (g : Graph) → g ≡ roomy_graph q m 0 g
unfolding roomy_graph roomy_front
graph_first q m g = refl

pub graph_length : (q : List ℕ) (m n : ℕ) (g h : Graph) → h ≡ roomy_graph q m n g → length h.channels ≡ length g.channels
unfolding roomy_graph
graph_length q m n g h e = ap (λ (x : Graph). length x.channels) e ∙ front_length q m n g.channels

pub graph_next : (q : List ℕ) (m n : ℕ) (g h : Graph) (c : Channel) → h ≡ roomy_graph q m n g → slice_get h.channels n ≡ Some c
    → slice_get g.channels n ≡ Some c
unfolding roomy_graph
graph_next q m n g h c e is = sym (front_next q m n g.channels) ∙ sym (ap (λ (x : Graph). slice_get x.channels n) e) ∙ is

pub graph_more : (q : List ℕ) (m n b : ℕ) (g h : Graph) (c : Channel) → h ≡ roomy_graph q m n g → slice_get h.channels n ≡ Some c
    → b ≡ capacity_with_room q m c → with_capacity_at n b h ≡ roomy_graph q m (suc n) g
unfolding roomy_graph
graph_more q m n b g h c e is same =
    ap (with_capacity_at n b) e
    ∙ ap {B = Graph} (λ (xs : List Channel). record { actors = g.actors; channels = xs; cells = g.cells })
    (front_more q m n b g.channels c (graph_next q m n g h c e is) same)

pub graph_last : (q : List ℕ) (m n : ℕ) (g h : Graph) → h ≡ roomy_graph q m n g → length g.channels ≤ n → h ≡ with_room q m g
unfolding roomy_graph
graph_last q m n g h e le = e ∙ ap {B = Graph} (λ (xs : List Channel). record { actors = g.actors; channels = xs; cells = g.cells })
    (front_all q m n g.channels le)

-- ---- room is a capacity

pub room_some : (q : List ℕ) (m : ℕ) (c : Channel) → 1 ≤ m → 1 ≤ produced c (get_or q c.from 0) → 1 ≤ room_for q m c
room_some q m c some put =
    let p : ℕ = produced c (get_or q c.from 0) in
    let more : 1 * 1 ≤ m * p = mul-le-mul some put in
    (let x : ℕ = m * p in omega arith)

room_is_capacity : (q : List ℕ) (m : ℕ) (c : Channel) → 1 ≤ m → 1 ≤ produced c (get_or q c.from 0) → length c.initial ≤ 256 → IsCapacity c (room_for q m c)
room_is_capacity q m c some put few = record {
  some = room_some q m c some put;
  fits = (let x : ℕ = m * produced c (get_or q c.from 0) in omega arith);
  within = (let x : ℕ = m * produced c (get_or q c.from 0) in omega arith);
}

given_or_room : (o : Option ℕ) (b : ℕ) (c : Channel) → IfSome o (IsCapacity c) → IsCapacity c b → IsCapacity c (unwrap_or o b)
given_or_room None b c given room = room
given_or_room (Some x) b c given room = given

pub is_capacity : (actors : List Actor) (q : List ℕ) (m : ℕ) (c : Channel) → IsChannel actors c → 1 ≤ m → 1 ≤ produced c (get_or q c.from 0)
    → IsCapacity c (capacity_with_room q m c)
is_capacity actors q m c is some put = given_or_room c.capacity (room_for q m c) c is.capacity (room_is_capacity q m c some put is.few_initial)

pub granted : (g : Graph) (r q : List ℕ) (m n : ℕ) (c : Channel) → IsWellFormed g → IsRepetition g.actors g.channels r q → 1 ≤ m
    → slice_get g.channels n ≡ Some c → IsCapacity c (capacity_with_room q m c)
granted g r q m n c whole is some here =
    is_capacity g.actors q m c (at (IsChannel g.actors) g.channels n c whole.fitting.channels here) some
    (at (λ d. 1 ≤ produced d (get_or q d.from 0)) g.channels n c (fit_of g r q whole is).some_put here)

-- ---- a channel as the code holds it

pub record IsPlaced (g h : Graph) (items : List ChannelCode) (x : ChannelCode) (n : ℕ) : Type 0 where
  pub within : n < length items
  pub inside : n < length h.channels
  pub now : slice_get h.channels n ≡ Some (channel_view x)
  pub first : slice_get g.channels n ≡ Some (channel_view x)

pub count_of : (q : List ℕ) (m n : ℕ) (g h : Graph) (firsts items : List ChannelCode) → h ≡ roomy_graph q m n g → map channel_view firsts ≡ g.channels
    → map channel_view items ≡ h.channels → length items ≡ length firsts
count_of q m n g h firsts items e one two =
    sym (length-map items channel_view) ∙ ap length two ∙ graph_length q m n g h e ∙ sym (ap length one) ∙ length-map firsts channel_view

pub placed : (q : List ℕ) (m n : ℕ) (g h : Graph) (firsts items : List ChannelCode) (x : ChannelCode) → h ≡ roomy_graph q m n g
    → map channel_view firsts ≡ g.channels → map channel_view items ≡ h.channels → n < length firsts → x ≡ get_or items n x → IsPlaced g h items x n
placed q m n g h firsts items x e one two lt is =
    let within : n < length items = (let c = count_of q m n g h firsts items e one two in omega arith) in
    let now : slice_get h.channels n ≡ Some (channel_view x) = seen_channel items h.channels n x two within is in
    record {
      within = within;
      inside = slice_get_within h.channels n (channel_view x) now;
      now = now;
      first = graph_next q m n g h (channel_view x) e now;
    }

pub within_at : (g : Graph) (r q : List ℕ) (n : ℕ) (c : Channel) → IsWellFormed g → IsRepetition g.actors g.channels r q → slice_get g.channels n ≡ Some c
    → IsWithin (length q) c
within_at g r q n c whole is here =
    at (IsWithin (length q)) g.channels n c (within_of g.actors g.channels (length q) (sym is.firings.each_actor) whole.fitting.channels) here

pub full_at : (g : Graph) (r q : List ℕ) (n : ℕ) (c : Channel) → IsRepetition g.actors g.channels r q → slice_get g.channels n ≡ Some c
    → full_capacity q c ≤ 65535
full_at g r q n c is here = at (λ d. full_capacity q d ≤ 65535) g.channels n c is.room here
