-- A graph whose passes all went through is well formed.
use Rattle.std.proofs.Common.{◌≡◌, ℕ, ◌+◌, ◌<◌, ◌≤◌, ◌==◌, true, false, not, ◌&&◌, nat_le, nat_lt, List, [], ◌∷◌, length, get_or, take, map, sum, Option, Some}
use Rattle.std.proofs.Common.{None, Ok, refl, sym, ap, subst, ◌∙◌, arith}
use Rattle.std.specs.Prelude.{All, IfSome, sum_by}
use Rattle.std.specs.List.{list_any, position_or_len}
use Rattle.std.specs.Str.{bytes_eq}
use Rattle.std.proofs.lemmas.Bool.{and_parts, not-true, leb-true, ltb-true, eqb-true, eqb-false}
use Rattle.std.proofs.lemmas.List.{get_or-take, length-take, length-map}
use Rattle.std.proofs.lemmas.List.Folds.{list_any_at}
use Rattle.std.proofs.lemmas.List.Sums.{sum-map}
use Rattle.std.proofs.lemmas.Slice.Eq.{bytes_eq-Decides}
use Rattle.csdf_graph.specs.declared.fault.GraphFault.TheVariants as fault
use Rattle.csdf_graph.specs.declared.fault.At.TheVariants as at
use Rattle.csdf_graph.specs.declared.names.Kind.{Kind}
use Rattle.csdf_graph.specs.FaultPlace.{fault_place}
use Rattle.csdf_graph.specs.Passes.{or_fault, each, check}
use Rattle.csdf_model.specs.Names.{is_name, number_in}
use Rattle.csdf_graph.specs.Names.{is_free, name_at, names_of}
use Rattle.csdf_graph.specs.Names as names
use Rattle.csdf_model.specs.Graph.{Actor, Channel, Graph, phases_of}
use Rattle.csdf_graph.specs.Shape.{ActorDraft, ChannelDraft, GraphDraft}
use Rattle.csdf_graph.specs.Ranges.{RangedChannel, Ranged, actor_within, channel_within, ranged_actor, ranged_channel, counts_fit, initial_count, cells_within}
use Rattle.csdf_graph.specs.Ranges.{range_of}
use Rattle.csdf_graph.specs.Links.{linked, linked_at}
use Rattle.csdf_model.specs.Checks.{phase_lengths_fit, has_rates, has_ports}
use Rattle.csdf_graph.specs.GraphText.{parts_of}
use Rattle.std.specs.List.{AllByRecursion}
use Rattle.std.proofs.lemmas.List.Elements.{recursion_from_All}
use Rattle.csdf_model.specs.Joined.{HasEnds}
use Rattle.csdf_model.specs.WellFormed.{AreNames, IsActor, IsCapacity, IsChannel, IsCells, initial_total}
use Rattle.csdf_model.specs.Kept.{IsUnjoined}
use Rattle.csdf_graph.proofs.PassFacts.{ok_is, some_is, bind_ok, or_fault_ok, cond_ok, cond_some, bind_some, each_keeps, each_all, each_at, check_at}
use Rattle.csdf_graph.proofs.RangeFacts.{IsRanged, actor_within_fits, channel_within_fits, cells_within_fits}

-- names that went through
pub names_kept : (kind : Kind) (ns ms : List (List ℕ)) → names_of kind ns ≡ Ok ms → ms ≡ ns
names_kept kind ns ms e = sym (itself_map ms) ∙ each_keeps (name_at kind ns) (λ n. n) (λ n. n) one 0 ns ms e ∙ itself_map ns
  where
    itself_map : (xs : List (List ℕ)) → map (λ n. n) xs ≡ xs
    itself_map [] = refl
    itself_map (x ∷ xs) = ap (λ ys. x ∷ ys) (itself_map xs)

    one : (i : ℕ) (n m : List ℕ) → name_at kind ns i n ≡ Ok m → m ≡ n
    one i n m h = let o = cond_ok (is_free n (take i ns)) (Ok n) (fault.Name (names.at kind (fault_place i))) m h in cc

name_free : (kind : Kind) (ns ms : List (List ℕ)) → names_of kind ns ≡ Ok ms → (k : ℕ) (d : List ℕ) → k < length ns → is_free (get_or ns k d) (take k ns) ≡ true
name_free kind ns ms e k d lt =
    let y = each_at (name_at kind ns) 0 ns ms e k d lt in
    let here : 0 + k ≡ k = omega arith in
    let at_k : name_at kind ns k (get_or ns k d) ≡ Ok y.0 = ap (λ j. name_at kind ns j (get_or ns k d)) (sym here) ∙ y.1 in
    (cond_ok (is_free (get_or ns k d) (take k ns)) (Ok (get_or ns k d)) (fault.Name (names.at kind (fault_place k))) y.0 at_k).0

pub names_are : (kind : Kind) (ns ms : List (List ℕ)) → names_of kind ns ≡ Ok ms → AreNames ns
names_are kind ns ms e = record {
  formed = λ k d lt. (and_parts (is_name (get_or ns k d)) _ (name_free kind ns ms e k d lt)).0;
  distinct = λ i j d lt ltj same. differ i j d lt ltj same;
}
  where
    differ : (i j : ℕ) (d : List ℕ) → i < j → j < length ns → get_or ns i d ≡ get_or ns j d → ⊥
    differ i j d lt ltj same =
        let unused : list_any (bytes_eq (get_or ns j d)) (take j ns) ≡ false =
        not-true _ (and_parts (is_name (get_or ns j d)) _ (name_free kind ns ms e j d ltj)).1 in
        let within : i < length (take j ns) = omega (arith, length-take j ns) in
        let alike : bytes_eq (get_or ns j d) (get_or (take j ns) i d) ≡ true = (bytes_eq-Decides (get_or ns j d) (get_or (take j ns) i d)).1 (sym same
        ∙ sym (get_or-take j ns i d lt)) in
        let used : list_any (bytes_eq (get_or ns j d)) (take j ns) ≡ true = list_any_at (bytes_eq (get_or ns j d)) (take j ns) i d within alike in
        absurd cc

-- ranges that went through
pub record IsInRange (d : GraphDraft) (r : Ranged) : Type 0 where
  pub actor_names : map (λ (a : Actor). a.name) r.actors ≡ map (λ (a : ActorDraft). a.name) d.actors
  pub channel_names : map (λ (c : RangedChannel). c.name) r.channels ≡ map (λ (c : ChannelDraft). c.name) d.channels
  pub some_actor : 1 ≤ length r.actors
  pub few_actors : length r.actors ≤ 64
  pub few_channels : length r.channels ≤ 128
  pub actors : All IsActor r.actors
  pub channels : All IsRanged r.channels
  pub cells : IfSome r.cells (λ n. (sum_by (λ (c : RangedChannel). length c.initial) r.channels ≤ n) × (n ≤ 8388480))

ranged_actor_fits : (i : ℕ) (d : ActorDraft) (a : Actor) → ranged_actor i d ≡ Ok a → (a.name ≡ d.name) × IsActor a
ranged_actor_fits i d a e = actor_within_fits d a (or_fault_ok (fault.Range (at.Actor (fault_place i))) (actor_within d) a e)

ranged_channel_fits : (i : ℕ) (d : ChannelDraft) (r : RangedChannel) → ranged_channel i d ≡ Ok r → (r.name ≡ d.name) × (length r.initial ≡ length d.initial)
    × IsRanged r
ranged_channel_fits i d r e = channel_within_fits d r (or_fault_ok (fault.Range (at.Channel (fault_place i))) (channel_within d) r e)

-- lists with equal lengths of tokens have equal sums of them
same_sums : {A B : Type 0} (f : A → ℕ) (g : B → ℕ) (xs : List A) (ys : List B) → map f xs ≡ map g ys → sum_by f xs ≡ sum_by g ys
same_sums f g xs ys e = sym (sum-map f xs) ∙ ap sum e ∙ sum-map g ys

same_lengths : {A B K : Type 0} (f : A → K) (g : B → K) (xs : List A) (ys : List B) → map f xs ≡ map g ys → length xs ≡ length ys
same_lengths f g xs ys e = sym (length-map xs f) ∙ ap length e ∙ length-map ys g

pub range_fits : (d : GraphDraft) (r : Ranged) → range_of d ≡ Ok r → IsInRange d r
unfolding range_of
range_fits d r e =
    let g = cond_ok (counts_fit d) _ (fault.Range at.File) r e in
    let n = bind_ok (or_fault (fault.Range at.File) (cells_within d.channels d.cells)) _ r g.1 in
    let a = bind_ok (each ranged_actor 0 d.actors) _ r n.2 in
    let c = bind_ok (each ranged_channel 0 d.channels) _ r a.2 in
    let whole : record { actors = a.0; channels = c.0; cells = n.0 } ≡ r = ok_is (record { actors = a.0; channels = c.0; cells = n.0 }) r c.2 in
    let counts = and_parts (nat_le 1 (length d.actors) && nat_le (length d.actors) 64) (nat_le (length d.channels) 128) g.0 in
    let least = and_parts (nat_le 1 (length d.actors)) (nat_le (length d.actors) 64) counts.0 in
    let names_a = each_keeps ranged_actor (λ x. x.name) (λ x. x.name) (λ i x y h. (ranged_actor_fits i x y h).0) 0 d.actors a.0 a.1 in
    let names_c = each_keeps ranged_channel (λ x. x.name) (λ x. x.name) (λ i x y h. (ranged_channel_fits i x y h).0) 0 d.channels c.0 c.1 in
    let lengths = each_keeps ranged_channel (λ x. length x.initial) (λ x. length x.initial) (λ i x y h. (ranged_channel_fits i x y h).1) 0 d.channels c.0 c.1 in
    let sums : sum_by (λ (x : RangedChannel). length x.initial) c.0 ≡ initial_count d.channels =
    same_sums (λ (x : RangedChannel). length x.initial) (λ (x : ChannelDraft). length x.initial) c.0 d.channels lengths in
    let len_a : length a.0 ≡ length d.actors = same_lengths (λ (x : Actor). x.name) (λ (x : ActorDraft). x.name) a.0 d.actors names_a in
    let len_c : length c.0 ≡ length d.channels = same_lengths (λ (x : RangedChannel). x.name) (λ (x : ChannelDraft). x.name) c.0 d.channels names_c in
    let room = cells_within_fits d.channels d.cells n.0 (or_fault_ok (fault.Range at.File) (cells_within d.channels d.cells) n.0 n.1) in
    let one = leb-true 1 (length d.actors) least.0 in
    let few = leb-true (length d.actors) 64 least.1 in
    let few_c = leb-true (length d.channels) 128 counts.1 in
    subst (IsInRange d) whole (record {
      actor_names = names_a;
      channel_names = names_c;
      some_actor = omega (arith, len_a, one);
      few_actors = omega (arith, len_a, few);
      few_channels = omega (arith, len_c, few_c);
      actors = each_all ranged_actor (λ x. Unit {0}) IsActor (λ i x y u h. (ranged_actor_fits i x y h).1) 0 d.actors a.0 (λ k x lt. tt) a.1;
      channels = each_all ranged_channel (λ x. Unit {0}) IsRanged (λ i x y u h. (ranged_channel_fits i x y h).2) 0 d.channels c.0 (λ k x lt. tt) c.1;
      cells = subst (λ total. IfSome n.0 (λ m. (total ≤ m) × (m ≤ 8388480))) (sym sums) room;
    })

-- links that went through
pub record IsPlaced (n : ℕ) (c : Channel) : Type 0 where
  pub from : c.from < n
  pub to : c.to < n
  pub produce : All (λ x. x ≤ 64) c.produce
  pub consume : All (λ x. x ≤ 64) c.consume
  pub few_initial : length c.initial ≤ 256
  pub capacity : IfSome c.capacity (λ b. (1 ≤ b) × (length c.initial ≤ b) × (b ≤ 65535))

number_in_within : (ns : List (List ℕ)) (name : List ℕ) (i : ℕ) → number_in ns name ≡ Some i → i < length ns
number_in_within ns name i e =
    let p = cond_some (nat_lt (position_or_len (bytes_eq name) ns) (length ns)) (Some (position_or_len (bytes_eq name) ns)) i e in
    subst (λ k. k < length ns) (some_is (position_or_len (bytes_eq name) ns) i p.1) (ltb-true (position_or_len (bytes_eq name) ns) (length ns) p.0)

linked_fits : (ns : List (List ℕ)) (i : ℕ) (r : RangedChannel) (c : Channel) → linked_at ns i r ≡ Ok c → (c.name ≡ r.name)
    × (length c.initial ≡ length r.initial) × (IsRanged r → IsPlaced (length ns) c)
unfolding linked
linked_fits ns i r c e =
    let w = or_fault_ok (fault.UnknownActor (fault_place i)) (linked ns r) c e in
    let p = bind_some (number_in ns r.from) _ c w in
    let q = bind_some (number_in ns r.to) _ c p.2 in
    let same = some_is (record { name = r.name; from = p.0; to = q.0; produce = r.produce; consume = r.consume; initial = r.initial; capacity = r.capacity }) c
    q.2 in
    subst (λ x. (x.name ≡ r.name) × (length x.initial ≡ length r.initial) × (IsRanged r → IsPlaced (length ns) x)) same (
      refl,
      refl,
      λ h. record {
        from = number_in_within ns r.from p.0 p.1;
        to = number_in_within ns r.to q.0 q.1;
        produce = h.produce;
        consume = h.consume;
        few_initial = h.few_initial;
        capacity = h.capacity;
      },
    )

-- a placed channel with its rates
channel_fits : (actors : List Actor) (i j : ℕ) (c : Channel) → IsPlaced (length actors) c → phase_lengths_fit actors i c ≡ true → has_rates j c ≡ true
    → IsChannel actors c
channel_fits actors i j c placed phases rates =
    let p = and_parts (length c.produce == phases_of actors c.from) (length c.consume == phases_of actors c.to) phases in
    let r = and_parts (not (sum c.produce == 0)) (not (sum c.consume == 0)) rates in
    let some_p : sum c.produce ≡ 0 → ⊥ = eqb-false (sum c.produce) 0 (not-true _ r.0) in
    let some_c : sum c.consume ≡ 0 → ⊥ = eqb-false (sum c.consume) 0 (not-true _ r.1) in
    record {
      from = placed.from;
      to = placed.to;
      produce = record { each_phase = eqb-true (length c.produce) (phases_of actors c.from) p.0; small = placed.produce; some = omega (arith, some_p) };
      consume = record { each_phase = eqb-true (length c.consume) (phases_of actors c.to) p.1; small = placed.consume; some = omega (arith, some_c) };
      few_initial = placed.few_initial;
      capacity = given c.capacity placed.capacity;
    }
  where
    given : (o : Option ℕ) → IfSome o (λ b. (1 ≤ b) × (length c.initial ≤ b) × (b ≤ 65535)) → IfSome o (IsCapacity c)
    given None h = tt
    given (Some b) h = record { some = h.0; fits = h.1; within = h.2 }

given_cells : (channels : List Channel) (o : Option ℕ) → IfSome o (λ n. (initial_total channels ≤ n) × (n ≤ 8388480)) → IfSome o (IsCells channels)
given_cells channels None h = tt
given_cells channels (Some n) h = record { fits = h.0; within = h.1 }

-- all passes went through
pub parts_fit : (d : GraphDraft) (r : Ranged) (actor_names channel_names : List (List ℕ)) (g : Graph) → IsInRange d r
    → AreNames (map (λ (a : ActorDraft). a.name) d.actors) → AreNames (map (λ (c : ChannelDraft). c.name) d.channels)
    → actor_names ≡ map (λ (a : ActorDraft). a.name) d.actors → channel_names ≡ map (λ (c : ChannelDraft). c.name) d.channels
    → parts_of actor_names r ≡ Ok g → IsUnjoined actor_names channel_names g
unfolding parts_of
parts_fit d r actor_names channel_names g range are_a are_c same_a same_c e =
    let c = bind_ok (each (linked_at actor_names) 0 r.channels) _ g e in
    let l = bind_ok (check fault.PhaseLength (phase_lengths_fit r.actors) 0 c.0) _ g c.2 in
    let z = bind_ok (check fault.ZeroRate has_rates 0 c.0) _ g l.2 in
    let p = bind_ok (check fault.KernelPorts (has_ports c.0) 0 r.actors) _ g z.2 in
    let whole : record { actors = r.actors; channels = c.0; cells = r.cells } ≡ g =
    ok_is (record { actors = r.actors; channels = c.0; cells = r.cells }) g p.2 in
    let names_c = each_keeps (linked_at actor_names) (λ x. x.name) (λ x. x.name) (λ i x y h. (linked_fits actor_names i x y h).0) 0 r.channels c.0 c.1 in
    let lengths = each_keeps (linked_at actor_names) (λ x. length x.initial) (λ x. length x.initial) (λ i x y h. (linked_fits actor_names i x y h).1) 0
    r.channels c.0 c.1 in
    let placed = each_all (linked_at actor_names) IsRanged (IsPlaced (length actor_names)) (λ i x y h k. (linked_fits actor_names i x y k).2 h) 0 r.channels c.0
    range.channels c.1 in
    let len_c : length c.0 ≡ length r.channels = same_lengths (λ (x : Channel). x.name) (λ (x : RangedChannel). x.name) c.0 r.channels names_c in
    let few = range.few_channels in
    let numbered_a : actor_names ≡ map (λ (a : Actor). a.name) r.actors = same_a ∙ sym range.actor_names in
    let count : length actor_names ≡ length r.actors = ap length numbered_a ∙ length-map r.actors (λ (a : Actor). a.name) in
    let numbered_c : channel_names ≡ map (λ (x : Channel). x.name) c.0 = same_c ∙ sym (names_c ∙ range.channel_names) in
    let sums : initial_total c.0 ≡ sum_by (λ (x : RangedChannel). length x.initial) r.channels =
    same_sums (λ (x : Channel). length x.initial) (λ (x : RangedChannel). length x.initial) c.0 r.channels lengths in
    subst (IsUnjoined actor_names channel_names) whole (record {
      numbered = record { actors = numbered_a; channels = numbered_c };
      fitting = record {
        some_actor = range.some_actor;
        few_actors = range.few_actors;
        few_channels = omega (arith, len_c, few);
        actor_names = subst AreNames (sym range.actor_names) are_a;
        channel_names = subst AreNames (sym (names_c ∙ range.channel_names)) are_c;
        actors = range.actors;
        channels = λ k x lt. channel_fits r.actors (0 + k) (0 + k) (get_or c.0 k x) (subst (λ n. IsPlaced n (get_or c.0 k x)) count (placed k x lt))
            (check_at fault.PhaseLength (phase_lengths_fit r.actors) 0 c.0 l.0 l.1 k x lt) (check_at fault.ZeroRate has_rates 0 c.0 z.0 z.1 k x lt);
        ports = λ i x lt. (let here : 0 + i ≡ i = omega arith in ap (λ j. has_ports c.0 j (get_or r.actors i x)) (sym here)
            ∙ check_at fault.KernelPorts (has_ports c.0) 0 r.actors p.0 p.1 i x lt);
        cells = given_cells c.0 r.cells (subst (λ total. IfSome r.cells (λ n. (total ≤ n) × (n ≤ 8388480))) (sym sums) range.cells);
      };
    })

-- as many names as actors in range
pub few_keys : {K : Type 0} (f : K → List ℕ) (keys : List K) (d : GraphDraft) (r : Ranged) → IsInRange d r → map f keys ≡ map (λ (a : ActorDraft). a.name) d.actors
    → length keys ≤ 64
few_keys f keys d r range same =
    let len : length keys ≡ length r.actors = same_lengths f (λ (a : Actor). a.name) keys r.actors (same ∙ sym range.actor_names) in
    let few = range.few_actors in
    omega arith

-- the ends of placed channels
pub ends_of : (actors : List Actor) (cs : List Channel) → All (IsChannel actors) cs → HasEnds (length actors) cs
ends_of actors cs all = by_parts cs (recursion_from_All (IsChannel actors) cs all)
  where
    by_parts : (xs : List Channel) → AllByRecursion (IsChannel actors) xs → HasEnds (length actors) xs
    by_parts [] h = tt
    by_parts (x ∷ xs) h = (h.0.from, h.0.to, by_parts xs h.1)
