-- Ratios in lowest terms, and what channels ask of two actors.
use Rattle.std.proofs.Common.{◌≡◌, ◌↔◌, ℕ, zero, suc, ◌*◌, ◌<◌, ◌≤◌, ◌==◌, if◌then◌else◌, inl, inr, List, length, map, take, refl, sym, ap, subst, ◌∙◌, arith}
use Rattle.std.specs.Prelude.{All, Some, slice_index, slice_index_or}
use Rattle.std.specs.Int.{◌∣◌}
use Rattle.std.proofs.Math.ListN.{get_or-map}
use Rattle.std.proofs.Math.Nat.{div-mul_cancel, mul-dvd-mul_right, dvd_of_mul-dvd-mul_right, one-dvd}
use Rattle.std.proofs.lemmas.Bool.{cases_Bool, eq-eqb, ne_eqb}
use Rattle.std.proofs.lemmas.List.{length-map, take-map}
use Rattle.std.proofs.lemmas.List.Elements.{All-map}
use Rattle.std.proofs.lemmas.Option.{slice_get-get_or}
use Rattle.csdf_model.specs.declared.parts.Actor.{Actor as ActorCode}
use Rattle.csdf_model.specs.declared.parts.Channel.{Channel as ChannelCode}
use Rattle.csdf_model.specs.Graph.{Actor, Channel, Graph, actor_view, channel_view}
use Rattle.csdf_model.specs.WellFormed.{IsWellFormed}
use Rattle.csdf_analysis.specs.declared.demand.Demand.{Demand}
use Rattle.csdf_analysis.specs.declared.demand.Ratio.{Ratio}
use Rattle.csdf_analysis.specs.declared.members.Member.{Member}
use Rattle.csdf_analysis.specs.Demands.{AskAll, AskBefore, Asks, IsDemand, IsLowest, IsLowestOf, LeaveFree}
use Rattle.csdf_analysis.specs.Members.{AreEntries, AreMembers, IsLink, entry_at, group_at, nobody}
use Rattle.csdf_analysis.specs.Repetition.{Balances, IsVector, cycle_consumed, cycle_produced}
use Rattle.csdf_analysis.proofs.BoundLemmas.{links_of}
use Rattle.csdf_analysis.proofs.DivisorLemmas.{cancel_left, divisor_some, part_some, parts_balance}
use Rattle.csdf_analysis.proofs.JoinLemmas.{entry_some}
use Rattle.csdf_analysis.proofs.LeastLemmas.{channel_at, channel_has, entries_at, entries_balance, entries_of, entries_vector}

-- ---- lowest terms

-- what divides a multiple of both parts divides the multiplier
part_whole : (m d g x a : ℕ) → x * g ≡ a → d ∣ m * x → d * g ∣ m * a
part_whole m d g x a whole divides =
    let order : (m * x) * g ≡ m * (x * g) = omega arith in
    subst (λ n. d * g ∣ n) (order ∙ ap (λ n. m * n) whole) (mul-dvd-mul_right d divides g)

pub lowest_of : (a b : ℕ) (r : Ratio) → 1 ≤ a → 1 ≤ b → IsLowestOf a b r → IsLowest r
lowest_of a b r some_a some_b is =
    let g = is.divisor in
    let h = is.greatest in
    let of_a : r.from * g ≡ a = ap (λ n. n * g) is.from_part ∙ div-mul_cancel g h.first in
    let of_b : r.to * g ≡ b = ap (λ n. n * g) is.to_part ∙ div-mul_cancel g h.second in
    let some : 0 < g = divisor_some b g h.second some_b in
    record {
      some_from = subst (λ n. 1 ≤ n) (sym is.from_part) (part_some a g h.first some_a);
      some_to = subst (λ n. 1 ≤ n) (sym is.to_part) (part_some b g h.second some_b);
      prime = record {
        first = one-dvd r.from;
        second = one-dvd r.to;
        greatest = λ m d p q.
            (let whole : d * g ∣ m * g = h.greatest m (d * g) (part_whole m d g r.from a of_a p) (part_whole m d g r.to b of_b q) in
            let one : m ≡ m * 1 = omega arith in
            subst (λ n. d ∣ n) one (dvd_of_mul-dvd-mul_right d some whole));
      };
    }

-- ---- one channel

-- numbers are balanced by two others exactly where they have the ratio of these, turned round
pub balanced_by : (put taken : ℕ) (r : Ratio) (x y : ℕ) → 1 ≤ put → IsLowestOf taken put r → (x * put ≡ y * taken) ↔ (x * r.to ≡ y * r.from)
balanced_by put taken r x y some is =
    let g = is.divisor in
    let h = is.greatest in
    let of_taken : r.from * g ≡ taken = ap (λ n. n * g) is.from_part ∙ div-mul_cancel g h.first in
    let of_put : r.to * g ≡ put = ap (λ n. n * g) is.to_part ∙ div-mul_cancel g h.second in
    let some_g : 0 < g = divisor_some put g h.second some in
    let left : g * (x * r.to) ≡ x * put = (let order : g * (x * r.to) ≡ x * (r.to * g) = omega arith in order) ∙ ap (λ n. x * n) of_put in
    let right : g * (y * r.from) ≡ y * taken = (let order : g * (y * r.from) ≡ y * (r.from * g) = omega arith in order) ∙ ap (λ n. y * n) of_taken in (
      λ same. cancel_left g (x * r.to) (y * r.from) some_g (left ∙ same ∙ sym right),
      λ same. sym left ∙ ap (λ n. g * n) same ∙ right,
    )

pub asks_of : (actors : List Actor) (c : Channel) (r : Ratio) (put taken : ℕ) → IsLink actors c → put ≡ cycle_produced actors c
    → taken ≡ cycle_consumed actors c → IsLowestOf taken put r → Asks actors c r
asks_of actors c r put taken link put_is taken_is is =
    let some_put : 1 ≤ put = subst (λ n. 1 ≤ n) (sym put_is) link.some_put in
    let some_taken : 1 ≤ taken = subst (λ n. 1 ≤ n) (sym taken_is) link.some_taken in
    let there : IsLowestOf (cycle_consumed actors c) (cycle_produced actors c) r =
    subst (λ n. IsLowestOf n (cycle_produced actors c) r) taken_is (subst (λ n. IsLowestOf taken n r) put_is is) in
    record {
      lowest = lowest_of taken put r some_taken some_put is;
      balances = λ w. balanced_by (cycle_produced actors c) (cycle_consumed actors c) r (slice_index w c.from) (slice_index w c.to) link.some_put there;
    }

-- ---- the channels before it

-- multiples of two numbers have the ratio of these
multiples_have : (k u v x y : ℕ) (r : Ratio) → x ≡ k * u → y ≡ k * v → IsLowestOf u v r → x * r.to ≡ y * r.from
multiples_have k u v x y r at_x at_y is =
    let parts : u * r.to ≡ v * r.from = ap (λ n. u * n) is.to_part ∙ parts_balance u v is.divisor is.greatest ∙ ap (λ n. v * n) (sym is.from_part) in
    ap (λ n. n * r.to) at_x ∙ (let order : (k * u) * r.to ≡ k * (u * r.to) = omega arith in order) ∙ ap (λ n. k * n) parts
    ∙ (let order : k * (v * r.from) ≡ (k * v) * r.from = omega arith in order) ∙ ap (λ n. n * r.from) (sym at_y)

pub ask_all : (actors : List Actor) (done : List Channel) (c : Channel) (ms : List Member) (u v : ℕ) (r : Ratio) → IsLink actors c
    → group_at ms c.from ≡ group_at ms c.to → u ≡ entry_at ms c.from → v ≡ entry_at ms c.to → IsLowestOf u v r → AreMembers actors done ms
    → AskAll actors done c r
ask_all actors done c ms u v r link same u_is v_is is members =
    let there : IsLowestOf (entry_at ms c.from) (entry_at ms c.to) r =
    subst (λ n. IsLowestOf n (entry_at ms c.to) r) u_is (subst (λ n. IsLowestOf u n r) v_is is) in
    record {
      lowest = lowest_of (entry_at ms c.from) (entry_at ms c.to) r (entry_some (length actors) ms c.from members.entries link.from)
          (entry_some (length actors) ms c.to members.entries link.to) there;
      every = λ w balances.
          (let found = members.every w balances in
          multiples_have (found.0 (group_at ms c.from)) (entry_at ms c.from) (entry_at ms c.to) (slice_index w c.from) (slice_index w c.to) r
          (found.1 c.from link.from) (found.1 c.to link.to ∙ ap (λ g. found.0 g * entry_at ms c.to) (sym same)) there);
    }

-- ---- actors of different groups

-- the entries of one group doubled
abbrev times : ℕ → ℕ → ℕ
times gone group = if group == gone then 2 else 1

abbrev doubled : ℕ → List Member → List ℕ
doubled gone ms = map (λ (m : Member). times gone m.group * m.entry) ms

doubled_at : (gone : ℕ) (ms : List Member) (a : ℕ) → slice_index (doubled gone ms) a ≡ times gone (group_at ms a) * entry_at ms a
doubled_at gone ms a =
    ap (λ d. slice_index_or (doubled gone ms) a d) (let none : 0 ≡ times gone 0 * 0 = omega arith in none)
    ∙ get_or-map (λ (m : Member). times gone m.group * m.entry) ms a nobody

times_some : (gone group : ℕ) → 1 ≤ times gone group
times_some gone group = elim (cases_Bool (group == gone)) [ inl y ↦ rw y (omega arith) | inr n ↦ rw n (omega arith) ]

doubled_some : (k e : ℕ) → 1 ≤ k → 1 ≤ e → 1 ≤ k * e
doubled_some (suc k) (suc e) a b = omega arith
doubled_some (suc k) zero a b = absurd (omega arith)
doubled_some zero e a b = absurd (omega arith)

doubled_vector : (actors : List Actor) (gone : ℕ) (ms : List Member) → AreEntries (length actors) ms → IsVector actors (doubled gone ms)
doubled_vector actors gone ms entries = record {
  each_actor = length-map ms (λ (m : Member). times gone m.group * m.entry) ∙ entries.each_actor;
  positive = All-map (λ n. 1 ≤ n) (λ (m : Member). times gone m.group * m.entry) ms
      (λ i d lt. let m = slice_index_or ms i d in doubled_some (times gone m.group) m.entry (times_some gone m.group) (entries.within i d lt).0);
}

doubled_balances : (actors : List Actor) (done : List Channel) (gone : ℕ) (ms : List Member) → AreMembers actors done ms
    → Balances actors (doubled gone ms) done
doubled_balances actors done gone ms members i d lt =
    let c = slice_index_or done i d in
    let k = times gone (group_at ms c.from) in
    let put = cycle_produced actors c in
    let taken = cycle_consumed actors c in
    let u = entry_at ms c.from in
    let v = entry_at ms c.to in
    let there : times gone (group_at ms c.to) ≡ k = ap (times gone) (sym (members.joined i d lt)) in
    ap (λ n. n * put) (doubled_at gone ms c.from) ∙ (let order : (k * u) * put ≡ k * (u * put) = omega arith in order)
    ∙ ap (λ n. k * n) (members.balanced i d lt) ∙ (let order : k * (v * taken) ≡ (k * v) * taken = omega arith in order)
    ∙ ap (λ n. (n * v) * taken) (sym there) ∙ ap (λ n. n * taken) (sym (doubled_at gone ms c.to))

twice_differs : (p q u v w z : ℕ) → 1 ≤ u → 1 ≤ v → p ≡ u → q ≡ 1 * v → w ≡ 2 * u → z ≡ v → p * q ≡ w * z → ⊥
twice_differs p q u v w z some_u some_v p_is q_is w_is z_is same =
    let some : 1 ≤ u * v = doubled_some u v some_u some_v in
    let one : p * q ≡ u * v = ap (λ n. n * q) p_is ∙ ap (λ n. u * n) q_is ∙ (let order : u * (1 * v) ≡ u * v = omega arith in order) in
    let two : w * z ≡ 2 * (u * v) = ap (λ n. n * z) w_is ∙ ap (λ n. (2 * u) * n) z_is ∙ (let order : (2 * u) * v ≡ 2 * (u * v) = omega arith in order) in
    absurd (omega arith)

pub leave_free : (actors : List Actor) (done : List Channel) (c : Channel) (ms : List Member) → IsLink actors c
    → (group_at ms c.from ≡ group_at ms c.to → ⊥) → AreMembers actors done ms → LeaveFree actors done c
leave_free actors done c ms link apart members =
    let gone = group_at ms c.from in
    let v = entries_of ms in
    let twice : times gone (group_at ms c.from) ≡ 2 = rw (eq-eqb gone gone refl) refl in
    let once : times gone (group_at ms c.to) ≡ 1 = rw (ne_eqb (group_at ms c.to) gone (λ e. apart (sym e))) refl in
    record {
      v = v;
      w = doubled gone ms;
      v_vector = entries_vector actors ms members.entries;
      w_vector = doubled_vector actors gone ms members.entries;
      v_balances = entries_balance actors done ms members;
      w_balances = doubled_balances actors done gone ms members;
      differ = λ same. twice_differs (slice_index v c.from) (slice_index (doubled gone ms) c.to) (entry_at ms c.from) (entry_at ms c.to)
          (slice_index (doubled gone ms) c.from) (slice_index v c.to) (entry_some (length actors) ms c.from members.entries link.from)
          (entry_some (length actors) ms c.to members.entries link.to) (entries_at ms c.from)
          (doubled_at gone ms c.to ∙ ap (λ n. n * entry_at ms c.to) once)
          (doubled_at gone ms c.from ∙ ap (λ n. n * entry_at ms c.from) twice) (entries_at ms c.to) same;
    }

-- ---- what the code reads

pub front_seen : (channels : List ChannelCode) (n : ℕ) → map channel_view (take n channels) ≡ take n (map channel_view channels)
front_seen channels n = sym (take-map channel_view n channels)

pub links_seen : (g : Graph) (actors : List ActorCode) (channels : List ChannelCode) → IsWellFormed g → map actor_view actors ≡ g.actors
    → map channel_view channels ≡ g.channels → All (IsLink (map actor_view actors)) (map channel_view channels)
links_seen g actors channels whole seen_actors seen_channels =
    subst (λ (them : List Actor). All (IsLink them) (map channel_view channels)) (sym seen_actors)
    (subst (λ (cs : List Channel). All (IsLink g.actors) cs) (sym seen_channels) (links_of g.actors g.channels whole.fitting.actors whole.fitting.channels))

seen_length : (g : Graph) (channels : List ChannelCode) (n : ℕ) → map channel_view channels ≡ g.channels → n < length g.channels → n < length channels
seen_length g channels n seen lt =
    let len = length-map channels channel_view in
    let same : length (map channel_view channels) ≡ length g.channels = ap length seen in
    omega arith

pub link_seen : (g : Graph) (actors : List ActorCode) (channels : List ChannelCode) (n : ℕ) (x : ChannelCode) → IsWellFormed g
    → map actor_view actors ≡ g.actors → map channel_view channels ≡ g.channels → n < length g.channels → x ≡ slice_index_or channels n x → IsLink (map actor_view actors) (channel_view x)
link_seen g actors channels n x whole seen_actors seen_channels lt is =
    channel_has (IsLink (map actor_view actors)) channels n x (seen_length g channels n seen_channels lt) is
    (links_seen g actors channels whole seen_actors seen_channels)

pub demand_is : (g : Graph) (actors : List ActorCode) (channels : List ChannelCode) (n : ℕ) (x : ChannelCode) (ms : List Member) (d : Demand)
    → map actor_view actors ≡ g.actors → map channel_view channels ≡ g.channels → n < length g.channels → x ≡ slice_index_or channels n x
    → Asks (map actor_view actors) (channel_view x) d.own → AreMembers (map actor_view actors) (take n (map channel_view channels)) ms
    → ((done : List Channel) → AreMembers (map actor_view actors) done ms → AskBefore (map actor_view actors) done (channel_view x) d.before)
    → IsDemand g.actors g.channels n d
demand_is g actors channels n x ms d seen_actors seen_channels lt is own members before =
    let len = length-map channels channel_view in
    let here = seen_length g channels n seen_channels lt in
    let there : IsDemand (map actor_view actors) (map channel_view channels) n d = record {
      channel = channel_view x;
      place = slice_get-get_or (map channel_view channels) n (channel_view x) (omega (arith, len)) ∙ ap (λ c. Some c) (channel_at channels n x is);
      own = own;
      before = before (take n (map channel_view channels)) members;
    } in
    subst (λ (them : List Actor). IsDemand them g.channels n d) seen_actors
    (subst (λ (cs : List Channel). IsDemand (map actor_view actors) cs n d) seen_channels there)
