-- The least capacities, channel by channel.
use Rattle.std.proofs.Common.{◌≡◌, ℕ, zero, suc, ◌*◌, ◌<◌, ◌≤◌, ◌⊎◌, inl, inr, Bool, true, false, not, List, [], ◌∷◌, length, get_or, set, map, sum, Option}
use Rattle.std.proofs.Common.{Some, None, refl, sym, ap, subst, ◌∙◌, arith}
use Rattle.std.specs.Prelude.{All, IfSome, slice_get, unwrap_or}
use Rattle.std.specs.Option.{is_some}
use Rattle.std.proofs.lemmas.Bool.{false≢true, true≢false}
use Rattle.std.proofs.Math.Nat.{eq-or-lt_of_le}
use Rattle.std.proofs.lemmas.Grind.{same_number_lists}
use Rattle.std.proofs.lemmas.List.{get_or-set_same, get_or-set_other, length-set, set-get_or, length-map}
use Rattle.std.proofs.lemmas.List.Elements.{All-set, All-map, All-get_or}
use Rattle.std.proofs.lemmas.List.Sums.{sum_by-le}
use Rattle.std.proofs.lemmas.Option.{slice_get_within, slice_get_read}
use Rattle.csdf_model.specs.Graph.{Channel, Graph, channel_view}
use Rattle.csdf_model.specs.declared.parts.Channel.{Channel as ChannelCode}
use Rattle.csdf_model.specs.WellFormed.{IsWellFormed, IsChannel, IsCapacity}
use Rattle.csdf_analysis.specs.Repetition.{full_capacity, HaveRoom, IsRepetition, IsWithin}
use Rattle.csdf_analysis.specs.Period.{HoldInitial, CompletesPeriod}
use Rattle.csdf_analysis.specs.Capacities.{Agrees, AreLeastCapacities, IsLeastCapacity, IsTooTight, full_capacities}
use Rattle.csdf_analysis.specs.Lowering.{first_bound, first_bounds, AreSameBelow, IsBeforeBelow, IsLowered}
use Rattle.csdf_analysis.proofs.BoundLemmas.{within_of}
use Rattle.csdf_analysis.proofs.CountLemmas.{same_or_not, less_or_not}
use Rattle.csdf_analysis.proofs.FitLemmas.{at}
use Rattle.csdf_analysis.proofs.LeastLemmas.{channel_at}
use Rattle.csdf_analysis.proofs.RoomLemmas.{enough_complete}

-- an entry for each channel
pub bound_at : (f : Channel → ℕ) (channels : List Channel) (i : ℕ) (c : Channel) → slice_get channels i ≡ Some c → get_or (map f channels) i 0 ≡ f c
bound_at f [] i c is = absurd (let lt = slice_get_within [] i c is in omega arith)
bound_at f (d ∷ channels) zero c is = ap f (let same : d ≡ c = cc in same)
bound_at f (d ∷ channels) (suc i) c is = bound_at f channels i c is

-- ---- the bounds that the search starts from

pub within_capacity : (o : Option ℕ) (c : Channel) (full : ℕ) → IfSome o (IsCapacity c) → full ≤ 65535 → unwrap_or o full ≤ 65535
within_capacity None c full is room = room
within_capacity (Some b) c full is room = is.within

fits_capacity : (o : Option ℕ) (c : Channel) (full : ℕ) → IfSome o (IsCapacity c) → length c.initial ≤ full → length c.initial ≤ unwrap_or o full
fits_capacity None c full is fits = fits
fits_capacity (Some b) c full is fits = is.fits

keeps_given : (o : Option ℕ) (full b : ℕ) → b ≡ unwrap_or o full → IfSome o (λ given. b ≡ given)
keeps_given None full b is = tt
keeps_given (Some given) full b is = is

-- a capacity that agrees with the given one is no greater than it, and the bound is else the full one
bound_enough : (o : Option ℕ) (full b w : ℕ) → b ≡ unwrap_or o full → IfSome o (λ given. w ≡ given) → (w ≤ b) ⊎ (full ≤ b)
bound_enough None full b w is same = inr (omega arith)
bound_enough (Some given) full b w is same = inl (omega arith)

pub first_initial : (g : Graph) (q : List ℕ) → IsWellFormed g → HoldInitial g.channels (first_bounds q g.channels)
first_initial g q whole i c is =
    subst (λ b. length c.initial ≤ b) (sym (bound_at (first_bound q) g.channels i c is))
    (fits_capacity c.capacity c (full_capacity q c) (at (IsChannel g.actors) g.channels i c whole.fitting.channels is).capacity (omega arith))

pub full_initial : (channels : List Channel) (q : List ℕ) → HoldInitial channels (full_capacities q channels)
full_initial channels q i c is = subst (λ b. length c.initial ≤ b) (sym (bound_at (full_capacity q) channels i c is)) (omega arith)

-- capacities that agree with the given ones complete a period only where the first bounds do
first_completes : (channels : List Channel) (q w : List ℕ) → CompletesPeriod channels q w → Agrees channels w
    → CompletesPeriod channels q (first_bounds q channels)
first_completes channels q w completes agrees = enough_complete channels q w (first_bounds q channels) completes (length-map channels (first_bound q)) (record {
  enough = λ i c is. bound_enough c.capacity (full_capacity q c) (get_or (first_bounds q channels) i 0) (get_or w i 0)
      (bound_at (first_bound q) channels i c is) (agrees i c is);
})

pub too_tight : (channels : List Channel) (q : List ℕ) → CompletesPeriod channels q (full_capacities q channels)
    → (CompletesPeriod channels q (first_bounds q channels) → ⊥) → IsTooTight channels q
too_tight channels q full none = record { full = full; none = λ w completes agrees. none (first_completes channels q w completes agrees) }

pub lowered_first : (g : Graph) (r q : List ℕ) → IsWellFormed g → IsRepetition g.actors g.channels r q
    → CompletesPeriod g.channels q (first_bounds q g.channels) → IsLowered g.channels q 0 (first_bounds q g.channels)
lowered_first g r q whole is completes = record {
  completes = completes;
  agrees = λ i c here. keeps_given c.capacity (full_capacity q c) (get_or (first_bounds q g.channels) i 0) (bound_at (first_bound q) g.channels i c here);
  ahead = λ i c le here. bound_at (first_bound q) g.channels i c here;
  small = All-map (λ b. b ≤ 65535) (first_bound q) g.channels (λ i d lt. within_capacity _ _ _ (whole.fitting.channels i d lt).capacity (is.room i d lt));
  least = λ w done agrees. inl (λ j lt. absurd (omega arith));
}

-- ---- one channel more

-- a channel with a given capacity
pub lowered_given : (channels : List Channel) (q bounds : List ℕ) (c : ℕ) (channel : Channel) (given : ℕ) → slice_get channels c ≡ Some channel
    → channel.capacity ≡ Some given → IsLowered channels q c bounds → IsLowered channels q (suc c) bounds
lowered_given channels q bounds c channel given is has low = record {
  completes = low.completes;
  agrees = low.agrees;
  ahead = λ i d le here. low.ahead i d (omega arith) here;
  small = low.small;
  least = λ w done agrees. elim (low.least w done agrees) [
    | inl same ↦ inl (λ j lt. elim (same_or_not j c) [
      | inl this ↦
          let one : get_or bounds c 0 ≡ given = subst (λ o. IfSome o (λ k. get_or bounds c 0 ≡ k)) has (low.agrees c channel is) in
          let two : get_or w c 0 ≡ given = subst (λ o. IfSome o (λ k. get_or w c 0 ≡ k)) has (agrees c channel is) in
          subst (λ k. get_or bounds k 0 ≡ get_or w k 0) (sym this) (one ∙ sym two)
      | inr other ↦ same j (omega (arith, other))
    ])
    | inr before ↦ inr (record { before = before.before; below = (let h = before.below in omega arith) })
  ];
}

-- where the capacities are the same below the channel, the other's entry is enough for it
entry_completes : (channels : List Channel) (q bounds w : List ℕ) (c : ℕ) → c < length bounds → IsLowered channels q c bounds → AreSameBelow c bounds w
    → CompletesPeriod channels q w → Agrees channels w → CompletesPeriod channels q (set bounds c (get_or w c 0))
entry_completes channels q bounds w c lt low same done agrees =
    enough_complete channels q w (set bounds c (get_or w c 0)) done (length-set bounds c (get_or w c 0) ∙ low.completes.each_channel) (record {
      enough = λ i d here. elim (same_or_not i c) [
        | inl this ↦
            let entry : get_or (set bounds c (get_or w c 0)) i 0 ≡ get_or w c 0 = ap (λ k. get_or (set bounds c (get_or w c 0)) k 0) this
            ∙ get_or-set_same bounds c (get_or w c 0) 0 lt in
            let there : get_or w i 0 ≡ get_or w c 0 = ap (λ k. get_or w k 0) this in
            inl (omega arith)
        | inr other ↦
            let entry = get_or-set_other bounds c i (get_or w c 0) 0 other in
            elim (less_or_not i c) [
              | inl below ↦ let e = same i below in inl (omega arith)
              | inr above ↦ bound_enough d.capacity (full_capacity q d) (get_or (set bounds c (get_or w c 0)) i 0) (get_or w i 0) (entry
                  ∙ low.ahead i d above here) (agrees i d here)
            ]
      ];
    })

before_set : (bounds w : List ℕ) (c b : ℕ) → IsBeforeBelow c bounds w → IsBeforeBelow (suc c) (set bounds c b) w
before_set bounds w c b is =
    let p = is.before.place in
    let keep : (j : ℕ) → j < c → get_or (set bounds c b) j 0 ≡ get_or bounds j 0 = λ j lt. get_or-set_other bounds c j b 0 (λ e. absurd (omega arith)) in
    record {
      before = record {
        place = p;
        within = (let h = is.before.within in let e = length-set bounds c b in omega arith);
        same = λ j lt. keep j (let h = is.below in omega arith) ∙ is.before.same j lt;
        less = subst (λ k. k < get_or w p 0) (sym (keep p is.below)) is.before.less;
      };
      below = (let h = is.below in omega arith);
    }

-- a channel whose capacity is not given
pub lowered_raised : (channels : List Channel) (q bounds next : List ℕ) (c b : ℕ) (channel : Channel) → slice_get channels c ≡ Some channel
    → channel.capacity ≡ None → next ≡ set bounds c b → IsLeastCapacity channels q bounds c b → IsLowered channels q c bounds
    → IsLowered channels q (suc c) next
lowered_raised channels q bounds next c b channel is has pushed least low =
    let lt : c < length bounds = (let e = low.completes.each_channel in let h = slice_get_within channels c channel is in omega arith) in
    let here = get_or-set_same bounds c b 0 lt in
    let most : b ≤ get_or bounds c 0 = least.least (get_or bounds c 0) (subst (CompletesPeriod channels q) (sym (set-get_or bounds c 0)) low.completes) in
    let few : get_or bounds c 0 ≤ 65535 = All-get_or (λ k. k ≤ 65535) bounds c 0 lt low.small in
    subst (IsLowered channels q (suc c)) (sym pushed) (record {
      completes = least.completes;
      agrees = λ i d at. elim (same_or_not i c) [
        | inl this ↦
            let same : channel ≡ d = (let there = ap (slice_get channels) (sym this) ∙ at in cc (is, there)) in
            subst (λ o. IfSome o (λ k. get_or (set bounds c b) i 0 ≡ k)) (sym (ap (λ (e : Channel). e.capacity) (sym same) ∙ has)) tt
        | inr other ↦ subst (λ k. IfSome d.capacity (λ given. k ≡ given)) (sym (get_or-set_other bounds c i b 0 other)) (low.agrees i d at)
      ];
      ahead = λ i d le at. get_or-set_other bounds c i b 0 (λ e. absurd (omega arith)) ∙ low.ahead i d (omega arith) at;
      small = All-set (λ k. k ≤ 65535) bounds c b (omega arith) low.small;
      least = λ w done agrees. elim (low.least w done agrees) [
        | inr before ↦ inr (before_set bounds w c b before)
        | inl same ↦
            let keep : (j : ℕ) → j < c → get_or (set bounds c b) j 0 ≡ get_or w j 0 = λ j less. get_or-set_other bounds c j b 0 (λ e. absurd (omega arith))
            ∙ same j less in
            elim (eq-or-lt_of_le (least.least (get_or w c 0) (entry_completes channels q bounds w c lt low same done agrees))) [
              | inl equal ↦ inl (λ j less. elim (same_or_not j c) [
                | inl this ↦ subst (λ k. get_or (set bounds c b) k 0 ≡ get_or w k 0) (sym this) (here ∙ equal)
                | inr other ↦ keep j (omega (arith, other))
              ])
              | inr less ↦ inr (record {
                before = record {
                  place = c;
                  within = (let e = length-set bounds c b in omega arith);
                  same = keep;
                  less = subst (λ k. k < get_or w c 0) (sym here) less;
                };
                below = omega arith;
              })
            ]
      ];
    })

-- ---- all channels

pub lowered_all : (channels : List Channel) (q bounds : List ℕ) → IsLowered channels q (length channels) bounds → AreLeastCapacities channels q bounds
lowered_all channels q bounds low = record {
  completes = low.completes;
  agrees = low.agrees;
  least = λ w done agrees. elim (low.least w done agrees) [
    | inl same ↦ inl (same_number_lists bounds w (low.completes.each_channel
        ∙ sym done.each_channel) (λ k lt. same k (let e = low.completes.each_channel in omega arith)))
    | inr before ↦ inr before.before
  ];
}

-- ---- a channel as the code holds it

pub seen_channel : (items : List ChannelCode) (channels : List Channel) (i : ℕ) (x : ChannelCode) → map channel_view items ≡ channels → i < length items
    → x ≡ get_or items i x → slice_get channels i ≡ Some (channel_view x)
seen_channel items channels i x same lt is =
    ap (λ cs. slice_get cs i) (sym same) ∙ slice_get_read (map channel_view items) (length items) i (channel_view x) (sym (length-map items channel_view)) lt
    (sym (channel_at items i x is))

-- its ends are actors
pub seen_ends : (g : Graph) (items : List ChannelCode) (i : ℕ) (x : ChannelCode) → IsWellFormed g → map channel_view items ≡ g.channels → i < length g.channels
    → x ≡ get_or items i x → (slice_get g.channels i ≡ Some (channel_view x)) × (x.from < length g.actors) × (x.to < length g.actors)
seen_ends g items i x whole same lt is =
    let len = length-map items channel_view in
    let count = ap length same in
    let seen = seen_channel items g.channels i x same (omega (arith, len, count, lt)) is in
    let ends = at (IsChannel g.actors) g.channels i (channel_view x) whole.fitting.channels seen in
    (seen, ends.from, ends.to)

pub none_of : (o : Option ℕ) (b : Bool) → is_some o ≡ not b → b ≡ true → o ≡ None
none_of None b is holds = refl
none_of (Some x) b is holds = absurd (true≢false (is ∙ ap not holds))

pub some_of : (o : Option ℕ) (b : Bool) → is_some o ≡ not b → b ≡ false → (x : ℕ) × (o ≡ Some x)
some_of None b is fails = absurd (false≢true (is ∙ ap not fails))
some_of (Some x) b is fails = (x, refl)

pub same_list : (f : List ℕ → List Channel → List ℕ) (q q2 : List ℕ) (channels channels2 : List Channel) → q2 ≡ q → channels2 ≡ channels
    → f q2 channels2 ≡ f q channels
same_list f q q2 channels channels2 same_q same_c = ap (λ ks. f ks channels2) same_q ∙ ap (f q) same_c

-- capacities of so many channels add up to a number of 32 bits
pub sum_small : (g : Graph) (q bounds : List ℕ) → IsWellFormed g → CompletesPeriod g.channels q bounds → All (λ b. b ≤ 65535) bounds → sum bounds < 4294967296
sum_small g q bounds whole completes small =
    let most : sum bounds ≤ length bounds * 65535 = sum_by-le (λ b. b) 65535 bounds small in
    let few = whole.fitting.few_channels in
    let each = completes.each_channel in
    omega arith

-- the channels and the vector of a graph where a call hands them on
pub within_for : (g : Graph) (q q2 : List ℕ) (channels : List Channel) → IsWellFormed g → length q ≡ length g.actors → q2 ≡ q → channels ≡ g.channels
    → All (IsWithin (length q2)) channels
within_for g q q2 channels whole count same_q same_c =
    subst (λ (ks : List ℕ). All (IsWithin (length ks)) channels) (sym same_q) (subst (λ (cs : List Channel). All (IsWithin (length q)) cs) (sym same_c)
    (within_of g.actors g.channels (length q) (sym count) whole.fitting.channels))

pub within_at : (g : Graph) (r q q2 : List ℕ) (channels : List Channel) → IsWellFormed g → IsRepetition g.actors g.channels r q → q2 ≡ q
    → channels ≡ g.channels → All (IsWithin (length q2)) channels
within_at g r q q2 channels whole is same_q same_c = within_for g q q2 channels whole is.firings.each_actor same_q same_c

pub room_at : (g : Graph) (r q q2 : List ℕ) (channels : List Channel) → IsRepetition g.actors g.channels r q → q2 ≡ q → channels ≡ g.channels
    → HaveRoom q2 channels
room_at g r q q2 channels is same_q same_c =
    subst (λ (ks : List ℕ). HaveRoom ks channels) (sym same_q) (subst (λ (cs : List Channel). HaveRoom q cs) (sym same_c) is.room)
