-- What the limits of a graph say of cycles and capacities.
use Rattle.std.proofs.Common.{◌≡◌, ℕ, zero, suc, ◌+◌, ◌*◌, ◌%◌, ◌^◌, ◌<◌, ◌≤◌, List, [], ◌∷◌, ◌++◌, length, map, take, sum, sym, ap, subst, ◌∙◌, arith}
use Rattle.std.proofs.Common.{mul-le-mul, length-append, inl, inr, ◌==◌}
use Rattle.std.specs.Prelude.{All, slice_index, slice_index_or, Some, option_map, unwrap_or, EachIndex}
use Rattle.std.proofs.Math.Nat.{mod-lt}
use Rattle.std.proofs.Math.Seq.{get_or-append_seam}
use Rattle.std.proofs.lemmas.List.{take_all, length-map, get_or_append_left}
use Rattle.std.proofs.lemmas.Bool.{cases_Bool, eqb-true, eqb-false}
use Rattle.std.proofs.lemmas.List.Elements.{All-head, All-tail, All-get_or, All-more}
use Rattle.std.proofs.lemmas.Option.{slice_get-get_or}
use Rattle.std.proofs.Math.ListN.{get_or-map}
use Rattle.csdf_model.specs.declared.parts.Actor.{Actor as ActorCode}
use Rattle.csdf_model.specs.declared.parts.Channel.{Channel as ChannelCode}
use Rattle.csdf_model.specs.Graph.{Actor, Channel, actor_view, channel_view, phases_of}
use Rattle.csdf_model.specs.Rates.{rate, total}
use Rattle.csdf_model.specs.WellFormed.{IsActor, AreRates, IsChannel}
use Rattle.csdf_model.proofs.RateLemmas.{total_front}
use Rattle.csdf_analysis.specs.Repetition.{IsWithin, HaveRoom, full_capacity, IsFirstOver}
use Rattle.csdf_analysis.specs.Members.{IsLink}
use Rattle.csdf_analysis.proofs.LeastLemmas.{channel_at}

pub rate_within : (rates : List ℕ) (n : ℕ) → All (λ x. x ≤ 64) rates → rate rates n ≤ 64
rate_within [] n small = omega arith
rate_within (x ∷ xs) n small = All-get_or (λ y. y ≤ 64) (x ∷ xs) (n % length (x ∷ xs)) 0 (mod-lt n {m = length (x ∷ xs)} (omega arith)) small

-- a firing moves at most 64 tokens
pub total_within : (rates : List ℕ) (n : ℕ) → All (λ x. x ≤ 64) rates → total rates n ≤ n * 64
total_within rates zero small = omega arith
total_within rates (suc n) small =
    let before : total rates n ≤ n * 64 = total_within rates n small in
    let last : rate rates n ≤ 64 = rate_within rates n small in
    omega arith

cycle_is_sum : (rates : List ℕ) (phases : ℕ) → length rates ≡ phases → total rates phases ≡ sum rates
cycle_is_sum rates phases len = total_front rates phases (omega (arith, len)) ∙ ap sum (take_all phases rates (omega (arith, len)))

pub phases_within : (actors : List Actor) (a : ℕ) → All IsActor actors → phases_of actors a ≤ 16
phases_within [] a all = omega arith
phases_within (x ∷ xs) zero all = (All-head IsActor x xs all).few_phases
phases_within (x ∷ xs) (suc a) all = phases_within xs a (All-tail IsActor x xs all)

cycle_within : (phases : ℕ) (rates : List ℕ) → phases ≤ 16 → AreRates phases rates → total rates phases ≤ 1024
cycle_within phases rates few are = let bound : total rates phases ≤ phases * 64 = total_within rates phases are.small in omega arith

pub cycle_some : (phases : ℕ) (rates : List ℕ) → AreRates phases rates → 1 ≤ total rates phases
cycle_some phases rates are = subst (λ n. 1 ≤ n) (sym (cycle_is_sum rates phases are.each_phase)) are.some

pub link_of : (actors : List Actor) (c : Channel) → All IsActor actors → IsChannel actors c → IsLink actors c
link_of actors c all is = record {
  from = is.from;
  to = is.to;
  some_put = cycle_some (phases_of actors c.from) c.produce is.produce;
  few_put = cycle_within (phases_of actors c.from) c.produce (phases_within actors c.from all) is.produce;
  some_taken = cycle_some (phases_of actors c.to) c.consume is.consume;
  few_taken = cycle_within (phases_of actors c.to) c.consume (phases_within actors c.to all) is.consume;
}

pub links_of : (actors : List Actor) (channels : List Channel) → All IsActor actors → All (IsChannel actors) channels → All (IsLink actors) channels
links_of actors channels all each = λ i d lt. link_of actors (slice_index_or channels i d) all (each i d lt)

pub within_of : (actors : List Actor) (channels : List Channel) (n : ℕ) → length actors ≡ n → All (IsChannel actors) channels → All (IsWithin n) channels
within_of actors channels n len each = λ i d lt. let is = each i d lt in record {
  from = subst (λ m. (slice_index_or channels i d).from < m) len is.from;
  small = is.produce.small;
  few_initial = is.few_initial;
}

pub capacity_fits : (d q rest : ℕ) → d ≤ 256 → q < 4294967296 → rest ≤ q * 64 → d + rest < 2 ^ 64
capacity_fits d q rest few small within = omega arith

pub firing_fits : (p n : ℕ) → p ≤ 16 → n ≤ 1024 → p * n ≤ 16384
firing_fits p n a b = let most : p * n ≤ 16 * 1024 = mul-le-mul a b in omega arith

-- ---- the loop over channels

room_all : (q : List ℕ) (channels : List Channel) (n : ℕ) → length channels ≤ n → HaveRoom q (take n channels) → HaveRoom q channels
room_all q channels n le room = subst (λ cs. HaveRoom q cs) (take_all n channels le) room

pub room_of : (q : List ℕ) (channels : List ChannelCode) (n : ℕ) → length channels ≤ n → HaveRoom q (take n (map channel_view channels))
    → HaveRoom q (map channel_view channels)
room_of q channels n le room = let len = length-map channels channel_view in room_all q (map channel_view channels) n (omega (arith, len)) room

pub room_next : (q : List ℕ) (channels : List ChannelCode) (i : ℕ) (x : ChannelCode) → i < length channels → x ≡ slice_index_or channels i x
    → HaveRoom q (take i (map channel_view channels)) → full_capacity q (channel_view x) ≤ 65535 → HaveRoom q (take (i + 1) (map channel_view channels))
room_next q channels i x lt is room fits =
    let len = length-map channels channel_view in
    All-more (λ c. full_capacity q c ≤ 65535) (map channel_view channels) i (channel_view x) (omega (arith, len)) room
    (subst (λ c. full_capacity q c ≤ 65535) (sym (channel_at channels i x is)) fits)

pub first_over : (q : List ℕ) (channels : List ChannelCode) (i : ℕ) (x : ChannelCode) → i < length channels → x ≡ slice_index_or channels i x
    → HaveRoom q (take i (map channel_view channels)) → 65535 < full_capacity q (channel_view x) → IsFirstOver q (map channel_view channels) i
first_over q channels i x lt is room above =
    let len = length-map channels channel_view in
    record {
      channel = channel_view x;
      place = slice_get-get_or (map channel_view channels) i (channel_view x) (omega (arith, len)) ∙ ap (λ c. Some c) (channel_at channels i x is);
      above = above;
      before = room;
    }

-- ---- the loop over actors

phases_at : (actors : List ActorCode) (i : ℕ) (x : ActorCode) → i < length actors → x ≡ slice_index_or actors i x
    → phases_of (map actor_view actors) i ≡ x.phases
phases_at actors i x lt is =
    let len = length-map actors actor_view in
    ap (λ o. unwrap_or (option_map (λ (a : Actor). a.phases) o) 0) (slice_get-get_or (map actor_view actors) i (actor_view x) (omega (arith, len))
    ∙ ap (λ a. Some a) (get_or-map actor_view actors i x ∙ ap actor_view (sym is)))

pub phases_few : (actors : List ActorCode) (i : ℕ) (x : ActorCode) → i < length actors → x ≡ slice_index_or actors i x → All IsActor (map actor_view actors)
    → x.phases ≤ 16
phases_few actors i x lt is all = subst (λ n. n ≤ 16) (phases_at actors i x lt is) (phases_within (map actor_view actors) i all)

pub length_pushed : (q next : List ℕ) (n : ℕ) → next ≡ q ++ n ∷ [] → length next ≡ length q + 1
length_pushed q next n pushed = ap length pushed ∙ length-append q (n ∷ [])

-- the firings of one actor more
pub firings_next : (actors : List ActorCode) (r q next : List ℕ) (i n : ℕ) (x : ActorCode) → i < length actors → x ≡ slice_index_or actors i x → length q ≡ i
    → next ≡ q ++ n ∷ [] → n ≡ x.phases * slice_index r i →
    EachIndex q (λ a. slice_index q a ≡ phases_of (map actor_view actors) a * slice_index r a)
    → EachIndex next (λ a. slice_index next a ≡ phases_of (map actor_view actors) a * slice_index r a)
firings_next actors r q next i n x lt is len pushed product each a here =
    let more : length next ≡ length q + 1 = length_pushed q next n pushed in
    elim (cases_Bool (a == i)) [
      | inl y ↦
          let last : a ≡ i = eqb-true a i y in
          let read : slice_index next a ≡ n = ap (λ xs. slice_index xs a) pushed ∙ ap (λ k. slice_index (q ++ n ∷ []) k) (last ∙ sym len)
          ∙ get_or-append_seam q n [] 0 in
          read ∙ product ∙ ap (λ p. p * slice_index r i) (sym (phases_at actors i x lt is))
          ∙ ap (λ k. phases_of (map actor_view actors) k * slice_index r k) (sym last)
      | inr m ↦
          let differ = eqb-false a i m in
          let before : a < length q = omega (arith, differ) in
          ap (λ xs. slice_index xs a) pushed ∙ get_or_append_left q (n ∷ []) 0 a before ∙ each a before
    ]
