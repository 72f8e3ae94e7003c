-- An accepted graph is accepted with room for several periods.
use Rattle.std.proofs.Common.{◌≡◌, ℕ, zero, suc, ◌*◌, ◌<◌, ◌≤◌, ◌⊎◌, inl, inr, Option, Some, None, List, [], ◌∷◌, length, get_or, set, map, refl}
use Rattle.std.proofs.Common.{◌+◌, sum, sym, ap, subst, ◌∙◌, arith, mul-le-mul}
use Rattle.std.specs.Prelude.{All, IfOk, IfSome, Result, Ok, Err, slice_get, unwrap_or}
use Rattle.std.proofs.Math.ListN.{get_or-map}
use Rattle.std.proofs.lemmas.Grind.{same_number_lists}
use Rattle.std.proofs.lemmas.List.{length-map, length-set, get_or-set_same, get_or-set_other, get_or_past}
use Rattle.std.proofs.lemmas.List.Elements.{All-map, All-take}
use Rattle.std.proofs.lemmas.Option.{slice_get_within}
use Rattle.csdf_model.specs.Graph.{Actor, Channel, Graph, phases_of}
use Rattle.csdf_model.specs.Rates.{produced, consumption, total}
use Rattle.csdf_model.proofs.RateLemmas.{total_cycles}
use Rattle.csdf_model.specs.WellFormed.{IsChannel, IsCapacity, IsWellFormed}
use Rattle.csdf_model.proofs.CapacityLemmas.{bare, uncapped, well_formed_alike, is_capped, get_at}
use Rattle.csdf_analysis.specs.declared.fault.AcceptFault.{AcceptFault}
use Rattle.csdf_analysis.specs.declared.fault.AcceptFault.TheVariants as fault
use Rattle.csdf_analysis.specs.Repetition.{IsBalanced, IsLeastRepetition, AreFirings, IsRepetition, full_capacity, HaveRoom}
use Rattle.csdf_analysis.specs.Period.{HoldInitial, held, held_after, CanFire, IsSchedule, fired, no_firings, CompletesPeriod}
use Rattle.csdf_analysis.specs.Capacities.{Agrees, AreLeastCapacities, IsTooTight, full_capacities}
use Rattle.csdf_analysis.specs.Acceptance.{Accepted, IsAccepted, IsNotAccepted}
use Rattle.csdf_analysis.specs.Laws.{IsWithinAll}
use Rattle.csdf_analysis.specs.declared.room.Refused.{Refused}
use Rattle.csdf_analysis.specs.declared.room.Room.TheVariants as room
use Rattle.csdf_analysis.specs.Room.{IsAutoRoom, IsWithRoom, room_for, capacity_with_room, capacities_with_room, channel_with_room, with_room, accepted_with_room, RoomIsAccepted, RoomIsRefused, RoomHoldsPeriods}
use Rattle.csdf_analysis.proofs.CountLemmas.{same_or_not, less_or_not, total_mono}
use Rattle.csdf_analysis.proofs.FitLemmas.{at}
use Rattle.csdf_analysis.proofs.RoomLemmas.{enough_complete}
use Rattle.csdf_analysis.proofs.SearchLemmas.{fit_of}
use Rattle.csdf_analysis.proofs.LowerLemmas.{bound_at}
use Rattle.csdf_analysis.proofs.GrantLemmas.{granted, is_capacity}

-- ---- the channels with room, one by one

abbrev Roomed : List ℕ → ℕ → List Channel → List Channel
Roomed q m cs = map (channel_with_room q m) cs

record IsFrom (q : List ℕ) (m i : ℕ) (cs : List Channel) (c : Channel) : Type 0 where
  pub channel : Channel
  pub place : slice_get cs i ≡ Some channel
  pub is : channel_with_room q m channel ≡ c

from_at : (q : List ℕ) (m i : ℕ) (cs : List Channel) (c : Channel) → slice_get (Roomed q m cs) i ≡ Some c → IsFrom q m i cs c
from_at q m i [] c is = absurd (let lt = slice_get_within [] i c is in omega arith)
from_at q m zero (d ∷ cs) c is = record { channel = d; place = refl; is = (let same : channel_with_room q m d ≡ c = cc in same) }
from_at q m (suc i) (d ∷ cs) c is = let f = from_at q m i cs c is in record { channel = f.channel; place = f.place; is = f.is }

to_at : (q : List ℕ) (m i : ℕ) (cs : List Channel) (c : Channel) → slice_get cs i ≡ Some c → slice_get (Roomed q m cs) i ≡ Some (channel_with_room q m c)
to_at q m i [] c is = absurd (let lt = slice_get_within [] i c is in omega arith)
to_at q m zero (d ∷ cs) c is = let same : d ≡ c = cc in ap (λ x. Some (channel_with_room q m x)) same
to_at q m (suc i) (d ∷ cs) c is = to_at q m i cs c is

bare_room : (q : List ℕ) (m : ℕ) (cs : List Channel) → bare (Roomed q m cs) ≡ bare cs
bare_room q m [] = refl
bare_room q m (c ∷ cs) = ap (λ (xs : List Channel). uncapped c ∷ xs) (bare_room q m cs)

-- what holds of each channel with room
all_back : (P : Channel → Type 0) (q : List ℕ) (m : ℕ) (cs : List Channel) → All P (Roomed q m cs) → All (λ c. P (channel_with_room q m c)) cs
all_back P q m cs all i d lt =
    subst P (get_or-map (channel_with_room q m) cs i d) (all i (channel_with_room q m d) (let len = length-map cs (channel_with_room q m) in omega arith))

-- ---- a period completes whatever capacities are given

can_fire : (q : List ℕ) (m : ℕ) (cs : List Channel) (bounds n : List ℕ) (a : ℕ) → CanFire cs bounds n a → CanFire (Roomed q m cs) bounds n a
can_fire q m cs bounds n a can = record {
  exists = can.exists;
  tokens = λ i c is to. (let f = from_at q m i cs c is in
      subst (λ (d : Channel). d.to ≡ a → consumption d (get_or n a 0) ≤ held d n) f.is (λ e. can.tokens i f.channel f.place e) to);
  room = λ i c is from. (let f = from_at q m i cs c is in
      subst (λ (d : Channel). d.from ≡ a → held_after a n d ≤ get_or bounds i 0) f.is (λ e. can.room i f.channel f.place e) from);
}

schedule_room : (q : List ℕ) (m : ℕ) (cs : List Channel) (bounds n actors : List ℕ) → IsSchedule cs bounds n actors → IsSchedule (Roomed q m cs) bounds n actors
schedule_room q m cs bounds n [] able = tt
schedule_room q m cs bounds n (a ∷ actors) able = (can_fire q m cs bounds n a able.0, schedule_room q m cs bounds (fired n a) actors able.1)

completes_room : (p : List ℕ) (m : ℕ) (cs : List Channel) (q bounds : List ℕ) → CompletesPeriod cs q bounds → CompletesPeriod (Roomed p m cs) q bounds
completes_room p m cs q bounds done = record {
  each_channel = done.each_channel ∙ sym (length-map cs (channel_with_room p m));
  initial = λ i c is. (let f = from_at p m i cs c is in
      subst (λ (d : Channel). length d.initial ≤ get_or bounds i 0) f.is (done.initial i f.channel f.place));
  reached = record {
    schedule = done.reached.schedule;
    able = schedule_room p m cs bounds (no_firings q) done.reached.schedule done.reached.able;
    leads = done.reached.leads;
  };
}

-- ---- the least capacities

-- room for a period or more is no less than the full capacity
full_within : (q : List ℕ) (m : ℕ) (c : Channel) → 1 ≤ m → full_capacity q c ≤ 65535 → full_capacity q c ≤ room_for q m c
full_within q m c some few =
    let p : ℕ = produced c (get_or q c.from 0) in
    let more : 1 * p ≤ m * p = mul-le-mul some (let same : p ≤ p = omega arith in same) in
    (let x : ℕ = m * p in omega arith)

enough_at : (o : Option ℕ) (full room b w : ℕ) → full ≤ room → w ≡ unwrap_or o room → IfSome o (λ given. b ≡ given) → (b ≤ w) ⊎ (full ≤ w)
enough_at None full room b w le is same = inr (omega arith)
enough_at (Some given) full room b w le is same = inl (omega arith)

completes_with_room : (cs : List Channel) (q bounds : List ℕ) (m : ℕ) → 1 ≤ m → HaveRoom q cs → CompletesPeriod cs q bounds → Agrees cs bounds
    → CompletesPeriod cs q (capacities_with_room q m cs)
completes_with_room cs q bounds m some room done agrees =
    enough_complete cs q bounds (capacities_with_room q m cs) done (length-map cs (capacity_with_room q m)) (record {
      enough = λ i c is. enough_at c.capacity (full_capacity q c) (room_for q m c) (get_or bounds i 0) (get_or (capacities_with_room q m cs) i 0)
          (full_within q m c some (at (λ d. full_capacity q d ≤ 65535) cs i c room is)) (bound_at (capacity_with_room q m) cs i c is) (agrees i c is);
    })

-- capacities that agree with those that are all given are these
given_are : (q w : List ℕ) (m : ℕ) (cs : List Channel) → length w ≡ length cs → Agrees (Roomed q m cs) w → capacities_with_room q m cs ≡ w
given_are q w m cs len agrees =
    let few = length-map cs (capacity_with_room q m) in
    same_number_lists (capacities_with_room q m cs) w (few ∙ sym len) (λ k lt. given_at k cs (agrees k) (omega arith))
  where
    given_at : (k : ℕ) (ds : List Channel)
        → ((c : Channel) → slice_get (Roomed q m ds) k ≡ Some c → IfSome c.capacity (λ given. get_or w k 0 ≡ given)) → k < length ds
        → get_or (capacities_with_room q m ds) k 0 ≡ get_or w k 0
    given_at k [] same lt = absurd (omega arith)
    given_at k (d ∷ ds) same lt =
        let x : Channel = get_or (d ∷ ds) k d in
        let place : slice_get (d ∷ ds) k ≡ Some x = get_at (d ∷ ds) k d lt in
        bound_at (capacity_with_room q m) (d ∷ ds) k x place ∙ sym (same (channel_with_room q m x) (to_at q m k (d ∷ ds) x place))

agrees_room : (q : List ℕ) (m : ℕ) (cs : List Channel) → Agrees (Roomed q m cs) (capacities_with_room q m cs)
agrees_room q m cs i c is =
    let f = from_at q m i cs c is in
    subst (λ (d : Channel). IfSome d.capacity (λ given. get_or (capacities_with_room q m cs) i 0 ≡ given)) f.is
    (bound_at (capacity_with_room q m) cs i f.channel f.place)

-- a least capacity that was not given is no more than the full one
least_within_full : (cs : List Channel) (q bounds : List ℕ) (i : ℕ) (c : Channel) → AreLeastCapacities cs q bounds → slice_get cs i ≡ Some c
    → c.capacity ≡ None → get_or bounds i 0 ≤ full_capacity q c
least_within_full cs q bounds i c least is none = elim (less_or_not (full_capacity q c) (get_or bounds i 0)) [
  | inr le ↦ le
  | inl above ↦
      let full : ℕ = full_capacity q c in
      let w : List ℕ = set bounds i full in
      let lt : i < length bounds = (let l = slice_get_within cs i c is in let e = least.completes.each_channel in omega arith) in
      let here : get_or w i 0 ≡ full = get_or-set_same bounds i full 0 lt in
      let same : (j : ℕ) → (j ≡ i → ⊥) → get_or w j 0 ≡ get_or bounds j 0 = λ j ne. get_or-set_other bounds i j full 0 ne in
      let done : CompletesPeriod cs q w = enough_complete cs q bounds w least.completes (length-set bounds i full ∙ least.completes.each_channel) (record {
        enough = λ j d there. elim (same_or_not j i) [
          | inl this ↦
              let one : c ≡ d = (let there2 = ap (slice_get cs) (sym this) ∙ there in cc (is, there2)) in
              let e : get_or w j 0 ≡ full_capacity q d = ap (λ k. get_or w k 0) this ∙ here ∙ ap (full_capacity q) one in
              inr (omega arith)
          | inr other ↦ let e = same j other in inl (omega arith)
        ];
      }) in
      let agrees : Agrees cs w = λ j d there. elim (same_or_not j i) [
        | inl this ↦
            let one : c ≡ d = (let there2 = ap (slice_get cs) (sym this) ∙ there in cc (is, there2)) in
            subst (λ o. IfSome o (λ k. get_or w j 0 ≡ k)) (sym (ap (λ (e : Channel). e.capacity) (sym one) ∙ none)) tt
        | inr other ↦ subst (λ k. IfSome d.capacity (λ given. k ≡ given)) (sym (same j other)) (least.agrees j d there)
      ] in
      elim (least.least w done agrees) [
        | inl equal ↦ let e : get_or bounds i 0 ≡ get_or w i 0 = ap (λ (ks : List ℕ). get_or ks i 0) equal in absurd (omega arith)
        | inr before ↦
            let p : ℕ = before.place in
            let less : get_or bounds p 0 < get_or w p 0 = before.less in
            elim (same_or_not p i) [
              | inl this ↦
                  let e : get_or w p 0 ≡ full = ap (λ k. get_or w k 0) this ∙ here in
                  let b : get_or bounds p 0 ≡ get_or bounds i 0 = ap (λ k. get_or bounds k 0) this in
                  absurd (omega arith)
              | inr other ↦ let e = same p other in absurd (omega arith)
            ]
      ]
]

greater_at : (o : Option ℕ) (full room b w : ℕ) → full ≤ room → w ≡ unwrap_or o room → IfSome o (λ given. b ≡ given) → (o ≡ None → b ≤ full) → b ≤ w
greater_at None full room b w le is same most = let l = most refl in omega arith
greater_at (Some given) full room b w le is same most = omega arith

greater_with_room : (cs : List Channel) (q bounds : List ℕ) (m : ℕ) → 1 ≤ m → HaveRoom q cs → AreLeastCapacities cs q bounds
    → IsWithinAll bounds (capacities_with_room q m cs)
greater_with_room cs q bounds m some room least i = elim (less_or_not i (length bounds)) [
  | inr past ↦ let none : get_or bounds i 0 ≡ 0 = get_or_past bounds i 0 past in omega arith
  | inl lt ↦ within cs (λ c is. (let full = at (λ d. full_capacity q d ≤ 65535) cs i c room is in
      greater_at c.capacity (full_capacity q c) (room_for q m c) (get_or bounds i 0) (get_or (capacities_with_room q m cs) i 0)
      (full_within q m c some full) (bound_at (capacity_with_room q m) cs i c is) (least.agrees i c is)
      (λ none. least_within_full cs q bounds i c least is none))) (let e = least.completes.each_channel in omega arith)
]
  where
    within : (ds : List Channel) → ((c : Channel) → slice_get ds i ≡ Some c → get_or bounds i 0 ≤ get_or (capacities_with_room q m cs) i 0) → i < length ds
        → get_or bounds i 0 ≤ get_or (capacities_with_room q m cs) i 0
    within [] each lt = absurd (omega arith)
    within (d ∷ ds) each lt = each (get_or (d ∷ ds) i d) (get_at (d ∷ ds) i d lt)

-- ---- the vector

repetition_room : (actors : List Actor) (cs : List Channel) (r q p : List ℕ) (m : ℕ) → IsRepetition actors cs r q → IsRepetition actors (Roomed p m cs) r q
repetition_room actors cs r q p m is = record {
  least = record {
    vector = is.least.vector;
    balances = All-map (IsBalanced actors r) (channel_with_room p m) cs is.least.balances;
    least = λ w vector balances. is.least.least w vector (all_back (IsBalanced actors w) p m cs balances);
  };
  small = is.small;
  firings = is.firings;
  room = All-map (λ c. full_capacity q c ≤ 65535) (channel_with_room p m) cs is.room;
}

-- there is one least vector
one_vector : (actors : List Actor) (cs : List Channel) (r s : List ℕ) → IsLeastRepetition actors cs r → IsLeastRepetition actors cs s → r ≡ s
one_vector actors cs r s one two =
    let len : length r ≡ length s = one.vector.each_actor ∙ sym two.vector.each_actor in
    same_number_lists r s len (λ k lt.
    (let a = one.least s two.vector two.balances k lt in let b = two.least r one.vector one.balances k (omega arith) in omega arith))

one_firings : (actors : List Actor) (r s p q : List ℕ) → r ≡ s → AreFirings actors r p → AreFirings actors s q → p ≡ q
one_firings actors r s p q same one two =
    let len : length p ≡ length q = one.each_actor ∙ sym two.each_actor in
    same_number_lists p q len (λ k lt.
    (let a = one.firings k lt in let b = two.firings k (omega arith) in
    let e : get_or r k 0 ≡ get_or s k 0 = ap (λ (ks : List ℕ). get_or ks k 0) same in
    a ∙ ap (λ n. phases_of actors k * n) e ∙ sym b))

-- ---- accepted

-- the room holds the initial tokens
pub room_initial : (g : Graph) (r q : List ℕ) (m : ℕ) → IsWellFormed g → IsRepetition g.actors g.channels r q → 1 ≤ m
    → HoldInitial g.channels (capacities_with_room q m g.channels)
room_initial g r q m whole is some i c here =
    subst (λ b. length c.initial ≤ b) (sym (bound_at (capacity_with_room q m) g.channels i c here)) (granted g r q m i c whole is some here).fits

-- a graph whose period completes under its room is accepted with it
pub accepted_in_room : (g : Graph) (r q : List ℕ) (m : ℕ) → IsWellFormed g → IsRepetition g.actors g.channels r q → 1 ≤ m
    → CompletesPeriod g.channels q (capacities_with_room q m g.channels)
    → IsAccepted (record { graph = with_room q m g; r = r; q = q; capacities = capacities_with_room q m g.channels })
accepted_in_room g r q m whole is some done =
    let cs : List Channel = g.channels in
    let put = (fit_of g r q whole is).some_put in
    let capacity : (i : ℕ) (d : Channel) → i < length cs → IsCapacity (get_or cs i d) (capacity_with_room q m (get_or cs i d)) = λ i d lt.
    is_capacity g.actors q m (get_or cs i d) (whole.fitting.channels i d lt) some (put i d lt) in
    record {
      well_formed = well_formed_alike g (Roomed q m cs) (bare_room q m cs)
          (All-map (IsChannel g.actors) (channel_with_room q m) cs (λ i d lt.
          is_capped g.actors (get_or cs i d) (capacity_with_room q m (get_or cs i d)) (whole.fitting.channels i d lt) (capacity i d lt)))
          whole;
      repetition = repetition_room g.actors cs r q q m is;
      least = record {
        completes = completes_room q m cs q (capacities_with_room q m cs) done;
        agrees = agrees_room q m cs;
        least = λ w other agrees. inl (given_are q w m cs (other.each_channel ∙ length-map cs (channel_with_room q m)) agrees);
      };
      small = All-map (λ b. b ≤ 65535) (capacity_with_room q m) cs (λ i d lt. (capacity i d lt).within);
    }

is_accepted : (a : Accepted) (m : ℕ) → IsAccepted a → 1 ≤ m → IsAccepted (accepted_with_room m a)
is_accepted a m ok some =
    accepted_in_room a.graph a.r a.q m ok.well_formed ok.repetition some
    (completes_with_room a.graph.channels a.q a.capacities m some ok.repetition.room ok.least.completes ok.least.agrees)

-- an accepted graph is refused for want of memory alone
not_refused : (a : Accepted) (why : AcceptFault) → IsAccepted a → IsNotAccepted a.graph why → why ≡ fault.Memory
not_refused a (fault.Unbalanced c) ok told = absurd (told.with_it (record {
  r = a.r;
  vector = ok.repetition.least.vector;
  small = ok.repetition.small;
  balances = All-take (IsBalanced a.graph.actors a.r) (suc c) a.graph.channels ok.repetition.least.balances;
}))
not_refused a (fault.TooLarge c) ok told =
    let r : told.r ≡ a.r = one_vector a.graph.actors a.graph.channels told.r a.r told.least ok.repetition.least in
    let q : told.q ≡ a.q = one_firings a.graph.actors told.r a.r told.q a.q r told.firings ok.repetition.firings in
    let above : 65535 < full_capacity a.q told.over.channel = subst (λ (ks : List ℕ). 65535 < full_capacity ks told.over.channel) q told.over.above in
    let few = at (λ d. full_capacity a.q d ≤ 65535) a.graph.channels c told.over.channel ok.repetition.room told.over.place in
    absurd (omega arith)
not_refused a fault.Deadlock ok told =
    let cs : List Channel = a.graph.channels in
    let r : told.r ≡ a.r = one_vector a.graph.actors cs told.r a.r told.repetition.least ok.repetition.least in
    let q : told.q ≡ a.q = one_firings a.graph.actors told.r a.r told.q a.q r told.repetition.firings ok.repetition.firings in
    let full : CompletesPeriod cs a.q (full_capacities a.q cs) =
    enough_complete cs a.q a.capacities (full_capacities a.q cs) ok.least.completes (length-map cs (full_capacity a.q)) (record {
      enough = λ i c is. inr (let e = bound_at (full_capacity a.q) cs i c is in omega arith);
    }) in
    absurd (told.holds (subst (λ (ks : List ℕ). CompletesPeriod cs ks (full_capacities ks cs)) (sym q) full))
not_refused a fault.TooTight ok told =
    let cs : List Channel = a.graph.channels in
    let r : told.r ≡ a.r = one_vector a.graph.actors cs told.r a.r told.repetition.least ok.repetition.least in
    let q : told.q ≡ a.q = one_firings a.graph.actors told.r a.r told.q a.q r told.repetition.firings ok.repetition.firings in
    absurd (told.holds.none a.capacities (subst (λ (ks : List ℕ). CompletesPeriod cs ks a.capacities) (sym q) ok.least.completes) ok.least.agrees)
not_refused a fault.Memory ok told = refl

is_only : (a b : Accepted) (m : ℕ) → IsAccepted a → IsAccepted b → 1 ≤ m → b.graph ≡ with_room a.q m a.graph → b ≡ accepted_with_room m a
is_only a b m ok is some same =
    let cs : List Channel = a.graph.channels in
    let repetition : IsRepetition a.graph.actors (Roomed a.q m cs) b.r b.q =
    subst (λ (g : Graph). IsRepetition g.actors g.channels b.r b.q) same is.repetition in
    let mine = repetition_room a.graph.actors cs a.r a.q a.q m ok.repetition in
    let r : b.r ≡ a.r = one_vector a.graph.actors (Roomed a.q m cs) b.r a.r repetition.least mine.least in
    let q : b.q ≡ a.q = one_firings a.graph.actors b.r a.r b.q a.q r repetition.firings mine.firings in
    let least : AreLeastCapacities (Roomed a.q m cs) b.q b.capacities =
    subst (λ (g : Graph). AreLeastCapacities g.channels b.q b.capacities) same is.least in
    let capacities : b.capacities ≡ capacities_with_room a.q m cs =
    sym (given_are a.q b.capacities m cs (least.completes.each_channel ∙ length-map cs (channel_with_room a.q m)) least.agrees) in
    λ i. record { graph = same i; r = r i; q = q i; capacities = capacities i }

pub room_accepted : RoomIsAccepted
room_accepted a m ok some = record {
  accepted = is_accepted a m ok some;
  greater = greater_with_room a.graph.channels a.q a.capacities m some ok.repetition.room ok.least;
  only = λ b is same. is_only a b m ok is some same;
  refused = λ why told. not_refused (accepted_with_room m a) why (is_accepted a m ok some) told;
}

-- ---- refused

can_back : (q : List ℕ) (m : ℕ) (cs : List Channel) (bounds n : List ℕ) (a : ℕ) → CanFire (Roomed q m cs) bounds n a → CanFire cs bounds n a
can_back q m cs bounds n a can = record {
  exists = can.exists;
  tokens = λ i c is to. can.tokens i (channel_with_room q m c) (to_at q m i cs c is) to;
  room = λ i c is from. can.room i (channel_with_room q m c) (to_at q m i cs c is) from;
}

schedule_back : (q : List ℕ) (m : ℕ) (cs : List Channel) (bounds n actors : List ℕ) → IsSchedule (Roomed q m cs) bounds n actors → IsSchedule cs bounds n actors
schedule_back q m cs bounds n [] able = tt
schedule_back q m cs bounds n (a ∷ actors) able = (can_back q m cs bounds n a able.0, schedule_back q m cs bounds (fired n a) actors able.1)

completes_back : (p : List ℕ) (m : ℕ) (cs : List Channel) (q bounds : List ℕ) → CompletesPeriod (Roomed p m cs) q bounds → CompletesPeriod cs q bounds
completes_back p m cs q bounds done = record {
  each_channel = done.each_channel ∙ length-map cs (channel_with_room p m);
  initial = λ i c is. done.initial i (channel_with_room p m c) (to_at p m i cs c is);
  reached = record {
    schedule = done.reached.schedule;
    able = schedule_back p m cs bounds (no_firings q) done.reached.schedule done.reached.able;
    leads = done.reached.leads;
  };
}

full_room : (p : List ℕ) (m : ℕ) (q : List ℕ) (cs : List Channel) → full_capacities q (Roomed p m cs) ≡ full_capacities q cs
full_room p m q [] = refl
full_room p m q (c ∷ cs) = ap (λ (ks : List ℕ). full_capacity q c ∷ ks) (full_room p m q cs)

-- the firings of a graph with room are its own
same_firings : (g : Graph) (r q p s : List ℕ) (m : ℕ) → IsRepetition g.actors g.channels r q → IsRepetition g.actors (Roomed q m g.channels) s p → p ≡ q
same_firings g r q p s m is there =
    let mine = repetition_room g.actors g.channels r q q m is in
    one_firings g.actors s r p q (one_vector g.actors (Roomed q m g.channels) s r there.least mine.least) there.firings mine.firings

pub room_refused : RoomIsRefused
room_refused g r q m (fault.Unbalanced c) is some told = absurd (told.with_it (record {
  r = r;
  vector = is.least.vector;
  small = is.small;
  balances = All-take (IsBalanced g.actors r) (suc c) (Roomed q m g.channels) (repetition_room g.actors g.channels r q q m is).least.balances;
}))
room_refused g r q m (fault.TooLarge c) is some told =
    let cs : List Channel = Roomed q m g.channels in
    let mine = repetition_room g.actors g.channels r q q m is in
    let firings : told.q ≡ q = one_firings g.actors told.r r told.q q (one_vector g.actors cs told.r r told.least mine.least) told.firings mine.firings in
    let above : 65535 < full_capacity q told.over.channel = subst (λ (ks : List ℕ). 65535 < full_capacity ks told.over.channel) firings told.over.above in
    let few = at (λ d. full_capacity q d ≤ 65535) cs c told.over.channel mine.room told.over.place in
    absurd (omega arith)
room_refused g r q m fault.Deadlock is some told =
    let cs : List Channel = g.channels in
    let firings : told.q ≡ q = same_firings g r q told.q told.r m is told.repetition in
    record {
      r = r;
      q = q;
      repetition = is;
      holds = λ done. told.holds (subst (λ (ks : List ℕ). CompletesPeriod (Roomed q m cs) ks (full_capacities ks (Roomed q m cs))) (sym firings)
          (subst (λ (bounds : List ℕ). CompletesPeriod (Roomed q m cs) q bounds) (sym (full_room q m q cs))
          (completes_room q m cs q (full_capacities q cs) done)));
    }
room_refused g r q m fault.TooTight is some told =
    let cs : List Channel = g.channels in
    let firings : told.q ≡ q = same_firings g r q told.q told.r m is told.repetition in
    let tight : IsTooTight (Roomed q m cs) q = subst (λ (ks : List ℕ). IsTooTight (Roomed q m cs) ks) firings told.holds in
    record {
      r = r;
      q = q;
      repetition = is;
      holds = record {
        full = completes_back q m cs q (full_capacities q cs)
            (subst (λ (bounds : List ℕ). CompletesPeriod (Roomed q m cs) q bounds) (full_room q m q cs) tight.full);
        none = λ w done agrees. tight.none (capacities_with_room q m cs)
            (completes_room q m cs q (capacities_with_room q m cs) (completes_with_room cs q w m some is.room done agrees)) (agrees_room q m cs);
      };
    }
room_refused g r q m fault.Memory is some told = tt

-- ---- why a graph is not accepted with room

pub deadlocked : (g : Graph) (r q : List ℕ) → IsRepetition g.actors g.channels r q
    → (CompletesPeriod g.channels q (full_capacities q g.channels) → ⊥) → IsNotAccepted g fault.Deadlock
deadlocked g r q is none = record { r = r; q = q; repetition = is; holds = none }

pub tight_in_room : (g : Graph) (r q : List ℕ) (m : ℕ) → IsRepetition g.actors g.channels r q → 1 ≤ m
    → CompletesPeriod g.channels q (full_capacities q g.channels) → (CompletesPeriod g.channels q (capacities_with_room q m g.channels) → ⊥)
    → IsNotAccepted g fault.TooTight
tight_in_room g r q m is some full none = record {
  r = r;
  q = q;
  repetition = is;
  holds = record { full = full; none = λ w done agrees. none (completes_with_room g.channels q w m some is.room done agrees) };
}

-- ---- the periods that the room is for

-- so many periods put in so many times what one does
periods_put : (rates : List ℕ) (k m : ℕ) → total rates (m * (length rates * k)) ≡ m * total rates (length rates * k)
periods_put rates k m =
    let order : m * (length rates * k) ≡ length rates * (m * k) = grind arith in
    let all : total rates (length rates * (m * k)) ≡ sum rates * (m * k) = total_cycles rates (m * k) in
    let one : total rates (length rates * k) ≡ sum rates * k = total_cycles rates k in
    let sums : sum rates * (m * k) ≡ m * (sum rates * k) = grind arith in
    ap (total rates) order ∙ all ∙ sums ∙ ap (λ x. m * x) (sym one)

held_within : (c : Channel) (n : List ℕ) (most : ℕ) → get_or n c.from 0 < most → held_after c.from n c ≤ length c.initial + produced c most
held_within c n most left =
    let more : produced c (suc (get_or n c.from 0)) ≤ produced c most = total_mono c.produce (suc (get_or n c.from 0)) most (omega arith) in
    omega arith

pub room_holds : RoomHoldsPeriods
room_holds g r q n m i c whole is here uncut left =
    let a : ℕ = c.from in
    let channel = at (IsChannel g.actors) g.channels i c whole.fitting.channels here in
    let lt : a < length q = (let from = channel.from in let e = is.firings.each_actor in omega arith) in
    let firings : get_or q a 0 ≡ length c.produce * get_or r a 0 = is.firings.firings a lt
    ∙ ap (λ (x : ℕ). x * get_or r a 0) (sym channel.produce.each_phase) in
    let put : produced c (m * get_or q a 0) ≡ m * produced c (get_or q a 0) =
    ap (λ (x : ℕ). total c.produce (m * x)) firings ∙ periods_put c.produce (get_or r a 0) m ∙ ap (λ (x : ℕ). m * total c.produce x) (sym firings) in
    let held = held_within c n (m * get_or q a 0) left in
    (let x : ℕ = m * produced c (get_or q a 0) in omega arith)

-- a graph was given the room that is told for these firings, and is accepted with them
auto_roomy : (g h : Graph) (p q : List ℕ) (periods : ℕ) → p ≡ q → IsAutoRoom q g.channels periods → h ≡ with_room q periods g
    → IsWithRoom room.Auto p g h
auto_roomy g h p q periods same auto roomy =
    (periods, subst (λ (ks : List ℕ). IsAutoRoom ks g.channels periods) (sym same) auto, roomy ∙ ap (λ (ks : List ℕ). with_room ks periods g) (sym same))

pub auto_roomy_where : (g : Graph) (q : List ℕ) (periods : ℕ) (r : Result Accepted Refused) → IsAutoRoom q g.channels periods
    → IfOk r (λ a. a.graph ≡ with_room q periods g) → IfOk r (λ a. a.q ≡ q) → IfOk r (λ a. IsWithRoom room.Auto a.q g a.graph)
auto_roomy_where g q periods (Ok a) auto roomy same = auto_roomy g a.graph a.q q periods same auto roomy
auto_roomy_where g q periods (Err why) auto roomy same = tt
