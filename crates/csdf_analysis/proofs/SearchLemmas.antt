-- Raising the bound of one channel at a stall.
use Rattle.std.proofs.Common.{◌≡◌, ℕ, ◌*◌, ◌<◌, ◌≤◌, ◌==◌, inl, inr, List, [], ◌∷◌, ◌++◌, append-nil, length, get_or, max, set, sum, refl, sym, ap, subst, ◌∙◌}
use Rattle.std.proofs.Common.{arith, zero, suc}
use Rattle.std.specs.Prelude.{All, IsTrue, slice_get, slice_index_or, Some}
use Rattle.std.proofs.lemmas.List.{get_or-set_same, get_or-set_other, length-set, set-set, set-get_or}
use Rattle.std.proofs.lemmas.List.Sums.{sum_by-le}
use Rattle.std.proofs.lemmas.List.Elements.{All-from_get_or, All-get_or}
use Rattle.std.proofs.lemmas.Option.{slice_get_within}
use Rattle.std.proofs.lemmas.Bool.{eqb-true, eq-eqb}
use Rattle.csdf_model.specs.Graph.{Actor, Channel, Graph, phases_of}
use Rattle.csdf_model.specs.Rates.{produced}
use Rattle.std.proofs.Math.Nat.{mul-le-mul_left}
use Rattle.csdf_analysis.proofs.FitLemmas.{at as at_channel}
use Rattle.csdf_model.specs.WellFormed.{IsWellFormed, IsActor}
use Rattle.std.proofs.lemmas.List.Elements.{All-head, All-tail}
use Rattle.csdf_analysis.specs.Repetition.{IsRepetition}
use Rattle.csdf_analysis.specs.Period.{held_after, CanFire, fired, IsSchedule, counts_after, no_firings, IsReached, HoldInitial, CompletesPeriod, CanGo}
use Rattle.csdf_analysis.specs.Period.{IsScheduleFrom, IsScheduleOf}
use Rattle.csdf_analysis.specs.Capacities.{IsLeastCapacity}
use Rattle.csdf_analysis.specs.Laws.{IsWithinAll}
use Rattle.csdf_analysis.specs.Fitting.{IsFit, IsPhased}
use Rattle.csdf_analysis.specs.Running.{IsAt, IsStalled, CanComplete, IsLow}
use Rattle.csdf_analysis.proofs.BoundLemmas.{phases_within, firing_fits, cycle_some}
use Rattle.csdf_analysis.proofs.CountLemmas.{same_or_not, less_or_not, total_mono, fired_same, fired_other, none_at}
use Rattle.csdf_analysis.proofs.PeriodLemmas.{reached_fed, goes_on}
use Rattle.csdf_analysis.proofs.RunLemmas.{stalled_all, all_counts, completes_at}

-- ---- greater bounds

can_greater : (channels : List Channel) (bounds more n : List ℕ) (a : ℕ) → IsWithinAll bounds more → CanFire channels bounds n a → CanFire channels more n a
can_greater channels bounds more n a within can = record {
  exists = can.exists;
  tokens = can.tokens;
  room = λ i c at from. (let room = can.room i c at from in let le = within i in omega arith);
}

schedule_greater : (channels : List Channel) (bounds more n actors : List ℕ) → IsWithinAll bounds more → IsSchedule channels bounds n actors
    → IsSchedule channels more n actors
schedule_greater channels bounds more n [] within able = tt
schedule_greater channels bounds more n (a ∷ actors) within able =
    (can_greater channels bounds more n a within able.0, schedule_greater channels bounds more (fired n a) actors within able.1)

reached_greater : (channels : List Channel) (q bounds more n : List ℕ) → IsWithinAll bounds more → IsReached channels q bounds n → IsReached channels q more n
reached_greater channels q bounds more n within r =
    record { schedule = r.schedule; able = schedule_greater channels bounds more (no_firings q) r.schedule within r.able; leads = r.leads }

set_within : (bounds : List ℕ) (c b : ℕ) → get_or bounds c 0 ≤ b → c < length bounds → IsWithinAll bounds (set bounds c b)
set_within bounds c b le lt i = elim (same_or_not i c) [
  | inl same ↦
      let one : get_or (set bounds c b) i 0 ≡ b = ap (λ k. get_or (set bounds c b) k 0) same ∙ get_or-set_same bounds c b 0 lt in
      let two : get_or bounds i 0 ≡ get_or bounds c 0 = ap (λ k. get_or bounds k 0) same in
      omega arith
  | inr other ↦ let one = get_or-set_other bounds c i b 0 other in omega arith
]

raised_at : (channels : List Channel) (q bounds more counts lengths : List ℕ) (firings : ℕ) → IsWithinAll bounds more → length more ≡ length bounds
    → IsAt channels q bounds counts lengths firings → IsAt channels q more counts lengths firings
raised_at channels q bounds more counts lengths firings within len at = record {
  each_bound = len ∙ at.each_bound;
  each_actor = at.each_actor;
  each_length = at.each_length;
  reached = reached_greater channels q bounds more counts within at.reached;
  within = at.within;
  held = at.held;
  counted = at.counted;
  few = at.few;
}

-- ---- at a stall

-- where a greater bound of the channel completes a period, its producer is able to fire under it, and not under the present one
record IsHeldUp (channels : List Channel) (q bounds n : List ℕ) (c : ℕ) (channel : Channel) (w : ℕ) : Type 0 where
  go : CanGo channels q (set bounds c w) n channel.from
  within : held_after channel.from n channel ≤ w
  above : get_or bounds c 0 < held_after channel.from n channel

-- the room of an actor under bounds that differ at one channel
room_at : (channels : List Channel) (q bounds n : List ℕ) (c b w a : ℕ) (channel : Channel) → slice_get channels c ≡ Some channel → c < length bounds
    → CanGo channels q (set bounds c w) n a
    → (channel.from ≡ a → held_after a n channel ≤ b) → CanGo channels q (set bounds c b) n a
room_at channels q bounds n c b w a channel at lt go fits = record {
  able = record {
    exists = go.able.exists;
    tokens = go.able.tokens;
    room = λ i d is from. elim (same_or_not i c) [
      | inl same ↦
          let this : channel ≡ d = (let there = ap (slice_get channels) (sym same) ∙ is in cc (at, there)) in
          let bound : get_or (set bounds c b) i 0 ≡ b = ap (λ k. get_or (set bounds c b) k 0) same ∙ get_or-set_same bounds c b 0 lt in
          let here : held_after a n channel ≤ b = fits (ap (λ (e : Channel). e.from) this ∙ from) in
          subst (λ (e : Channel). held_after a n e ≤ get_or (set bounds c b) i 0) this (subst (λ k. held_after a n channel ≤ k) (sym bound) here)
      | inr other ↦
          let one = get_or-set_other bounds c i b 0 other in
          let two = get_or-set_other bounds c i w 0 other in
          let room = go.able.room i d is from in
          subst (λ k. held_after a n d ≤ k) (two ∙ sym one) room
    ];
  };
  left = go.left;
}

held_up : (channels : List Channel) (q bounds counts lengths : List ℕ) (firings c w : ℕ) (channel : Channel) → IsAt channels q bounds counts lengths firings
    → IsStalled channels q bounds counts → firings < sum q
    → slice_get channels c ≡ Some channel → CompletesPeriod channels q (set bounds c w) → IsHeldUp channels q bounds counts c channel w
held_up channels q bounds counts lengths firings c w channel at stalled left is completes =
    let lt : c < length bounds = (let e = at.each_bound in let h = slice_get_within channels c channel is in omega arith) in
    let same_bounds : set bounds c (get_or bounds c 0) ≡ bounds = set-get_or bounds c 0 in
    let some = goes_on channels q (set bounds c w) counts completes at.each_actor (reached_fed channels q bounds counts at.reached) (let e = at.counted in
    omega arith) in
    let back : (channel.from ≡ some.0 → held_after (some.0) counts channel ≤ get_or bounds c 0) → ⊥ =
    λ fits. stalled (some.0) (subst (λ b. CanGo channels q b counts (some.0)) same_bounds
    (room_at channels q bounds counts c (get_or bounds c 0) w (some.0) channel is lt some.1 fits)) in
    elim (same_or_not channel.from (some.0)) [
      | inl this ↦
          let go : CanGo channels q (set bounds c w) counts channel.from = subst (CanGo channels q (set bounds c w) counts) (sym this) some.1 in
          let room = go.able.room c channel is refl in
          let bound = get_or-set_same bounds c w 0 lt in
          let moved : held_after (some.0) counts channel ≡ held_after channel.from counts channel = ap (λ k. held_after k counts channel) (sym this) in
          record {
            go = go;
            within = subst (λ k. held_after channel.from counts channel ≤ k) bound room;
            above = elim (less_or_not (get_or bounds c 0) (held_after channel.from counts channel)) [
              | inl less ↦ less
              | inr ge ↦ absurd (back (λ e. subst (λ k. k ≤ get_or bounds c 0) (sym moved) ge))
            ];
          }
      | inr other ↦ absurd (back (λ e. absurd (other e)))
    ]

-- the least bound that lets the producer fire
pub record IsRaised (channels : List Channel) (q bounds counts lengths : List ℕ) (firings c a b : ℕ) : Type 0 where
  pub at : IsAt channels q (set bounds c b) counts lengths firings
  pub go : CanGo channels q (set bounds c b) counts a
  pub above : get_or bounds c 0 ≤ b
  pub low : IsLow channels q (set bounds c b) c

pub raised : (channels : List Channel) (q bounds counts lengths : List ℕ) (firings c b : ℕ) (channel : Channel) → IsAt channels q bounds counts lengths firings
    → IsStalled channels q bounds counts → firings < sum q
    → slice_get channels c ≡ Some channel → b ≡ held_after channel.from counts channel → CanComplete channels q bounds c
    → IsRaised channels q bounds counts lengths firings c channel.from b
raised channels q bounds counts lengths firings c b channel at stalled left is filled can =
    let lt : c < length bounds = (let e = at.each_bound in let h = slice_get_within channels c channel is in omega arith) in
    let up = held_up channels q bounds counts lengths firings c can.capacity channel at stalled left is can.completes in
    let above : get_or bounds c 0 ≤ b = (let h = up.above in subst (λ k. get_or bounds c 0 ≤ k) (sym filled) (omega arith)) in
    record {
      at = raised_at channels q bounds (set bounds c b) counts lengths firings (set_within bounds c b above lt) (length-set bounds c b) at;
      go = room_at channels q bounds counts c b can.capacity channel.from channel is lt up.go
          (λ e. subst (λ k. held_after channel.from counts channel ≤ k) (sym filled)
          (let same : held_after channel.from counts channel ≤ held_after channel.from counts channel = omega arith in same));
      above = above;
      low = λ w completes.
          (let again = held_up channels q bounds counts lengths firings c w channel at stalled left is
          (subst (CompletesPeriod channels q) (set-set bounds c b w) completes) in
          let within : b ≤ w = subst (λ k. k ≤ w) (sym filled) again.within in
          let bound = get_or-set_same bounds c b 0 lt in
          subst (λ k. k ≤ w) (sym bound) within);
    }

-- ---- a run that decides

pub decided : (channels : List Channel) (q bounds own counts lengths : List ℕ) (firings total : ℕ) → IsAt channels q own counts lengths firings
    → IsStalled channels q own counts → own ≡ bounds → HoldInitial channels bounds → total ≡ sum q
    → (IsTrue (firings == total) → CompletesPeriod channels q bounds) × (CompletesPeriod channels q bounds → IsTrue (firings == total))
decided channels q bounds own counts lengths firings total at stalled same initial all =
    let at2 = subst (λ b. IsAt channels q b counts lengths firings) same at in
    let stalled2 = subst (λ b. IsStalled channels q b counts) same stalled in (
      λ yes. completes_at channels q bounds counts lengths firings at2 initial (eqb-true firings total yes ∙ all),
      λ completes. eq-eqb firings total (stalled_all channels q bounds counts lengths firings at2 stalled2 completes ∙ sym all),
    )

-- ---- no capacity of 0 completes a period

-- a channel with no room gets no token
none_put : (channels : List Channel) (bounds n actors : List ℕ) (c : ℕ) (channel : Channel) → slice_get channels c ≡ Some channel → get_or bounds c 0 ≡ 0
    → IsSchedule channels bounds n actors → produced channel (get_or (counts_after n actors) channel.from 0) ≡ produced channel (get_or n channel.from 0)
none_put channels bounds n [] c channel is none able = refl
none_put channels bounds n (a ∷ actors) c channel is none able =
    none_put channels bounds (fired n a) actors c channel is none able.1 ∙ elim (same_or_not channel.from a) [
      | inl this ↦
          let room = able.0.room c channel is this in
          let one : produced channel (get_or (fired n a) channel.from 0) ≡ produced channel (suc (get_or n a 0)) =
          ap (λ k. produced channel (get_or (fired n a) k 0)) this ∙ ap (produced channel) (fired_same n a able.0.exists) in
          let before : produced channel (get_or n channel.from 0) ≡ produced channel (get_or n a 0) = ap (λ k. produced channel (get_or n k 0)) this in
          omega arith
      | inr other ↦ ap (produced channel) (fired_other n a channel.from other)
    ]

-- a channel into which some token is put in a period has room for one
pub some_room : (channels : List Channel) (q bounds : List ℕ) (c : ℕ) (channel : Channel) → slice_get channels c ≡ Some channel
    → 1 ≤ produced channel (get_or q channel.from 0) → CompletesPeriod channels q bounds → 1 ≤ get_or bounds c 0
some_room channels q bounds c channel is some completes = elim (less_or_not 0 (get_or bounds c 0)) [
  | inl less ↦ less
  | inr none ↦
      let r = completes.reached in
      let same = none_put channels bounds (no_firings q) r.schedule c channel is (omega arith) r.able in
      let all : produced channel (get_or (counts_after (no_firings q) r.schedule) channel.from 0) ≡ produced channel (get_or q channel.from 0) =
      ap (λ ks. produced channel (get_or ks channel.from 0)) r.leads in
      let first : produced channel (get_or (no_firings q) channel.from 0) ≡ 0 = ap (produced channel) (none_at (length q) channel.from) in
      absurd (omega arith)
]

-- ---- the search of one channel

-- the bounds of a search: those handed in, but for the channel's, and none that completes a period is below it
pub record IsSearch (channels : List Channel) (q bounds own : List ℕ) (c : ℕ) : Type 0 where
  pub apart : own ≡ set bounds c (get_or own c 0)
  pub initial : HoldInitial channels own
  pub low : IsLow channels q own c

initial_set : (channels : List Channel) (bounds : List ℕ) (c b : ℕ) (channel : Channel) → c < length bounds → slice_get channels c ≡ Some channel
    → length channel.initial ≤ b → HoldInitial channels bounds → HoldInitial channels (set bounds c b)
initial_set channels bounds c b channel lt is fits initial i d at = elim (same_or_not i c) [
  | inl same ↦
      let this : channel ≡ d = (let there = ap (slice_get channels) (sym same) ∙ at in cc (is, there)) in
      let bound : get_or (set bounds c b) i 0 ≡ b = ap (λ k. get_or (set bounds c b) k 0) same ∙ get_or-set_same bounds c b 0 lt in
      subst (λ k. length d.initial ≤ k) (sym bound) (subst (λ (e : Channel). length e.initial ≤ b) this fits)
  | inr other ↦ subst (λ k. length d.initial ≤ k) (sym (get_or-set_other bounds c i b 0 other)) (initial i d at)
]

-- the greater of two numbers is within what both are
most : (a b w m : ℕ) → m ≡ max a b → a ≤ w → b ≤ w → m ≤ w
most a b w m is one two = omega arith

-- no capacity of fewer tokens than the channel begins with, and none of 0, completes a period
pub first_low : (channels : List Channel) (q bounds : List ℕ) (c b : ℕ) (channel : Channel) → IsFit channels q → c < length bounds
    → slice_get channels c ≡ Some channel → b ≡ max (length channel.initial) 1 → (w : ℕ) → CompletesPeriod channels q (set bounds c w) → b ≤ w
first_low channels q bounds c b channel fit lt is first w done =
    let fits : length channel.initial ≤ get_or (set bounds c w) c 0 = done.initial c channel is in
    let bound = get_or-set_same bounds c w 0 lt in
    let some : 1 ≤ get_or (set bounds c w) c 0 =
    some_room channels q (set bounds c w) c channel is (at_channel (λ d. 1 ≤ produced d (get_or q d.from 0)) channels c channel fit.some_put is) done in
    most (length channel.initial) 1 w b first (omega (arith, bound, fits)) (omega (arith, bound, some))

pub search_first : (channels : List Channel) (q bounds own : List ℕ) (c b : ℕ) (channel : Channel) → CompletesPeriod channels q bounds
    → slice_get channels c ≡ Some channel → length channel.initial ≤ b → ((w : ℕ) → CompletesPeriod channels q (set bounds c w) → b ≤ w)
    → own ≡ set bounds c b → IsSearch channels q bounds own c
search_first channels q bounds own c b channel completes is fits low same =
    let lt : c < length bounds = (let e = completes.each_channel in let h = slice_get_within channels c channel is in omega arith) in
    let here : get_or own c 0 ≡ b = ap (λ ks. get_or ks c 0) same ∙ get_or-set_same bounds c b 0 lt in
    record {
      apart = same ∙ ap (set bounds c) (sym here);
      initial = subst (HoldInitial channels) (sym same) (initial_set channels bounds c b channel lt is fits completes.initial);
      low = λ w done.
          (let whole : set own c w ≡ set bounds c w = ap (λ ks. set ks c w) same ∙ set-set bounds c b w in
          let least = low w (subst (CompletesPeriod channels q) whole done) in
          omega (arith, here, least));
    }

pub search_can : (channels : List Channel) (q bounds own : List ℕ) (c : ℕ) → CompletesPeriod channels q bounds → IsSearch channels q bounds own c
    → CanComplete channels q own c
search_can channels q bounds own c completes search = record {
  capacity = get_or bounds c 0;
  completes = subst (CompletesPeriod channels q) (sym (ap (λ ks. set ks c (get_or bounds c 0)) search.apart
      ∙ set-set bounds c (get_or own c 0) (get_or bounds c 0) ∙ set-get_or bounds c 0)) completes;
}

pub search_next : (channels : List Channel) (q bounds own mid next : List ℕ) (c : ℕ) (channel : Channel) → c < length own → slice_get channels c ≡ Some channel
    → IsSearch channels q bounds own c → mid ≡ set own c (get_or mid c 0) → get_or own c 0 ≤ get_or mid c 0 → IsLow channels q mid c → next ≡ mid
    → IsSearch channels q bounds next c
search_next channels q bounds own mid next c channel lt is search changed above low same = subst (λ b. IsSearch channels q bounds b c) (sym same) (record {
  apart = changed ∙ ap (λ ks. set ks c (get_or mid c 0)) search.apart ∙ set-set bounds c (get_or own c 0) (get_or mid c 0);
  initial = subst (HoldInitial channels) (sym changed) (initial_set channels own c (get_or mid c 0) channel lt is (let fits = search.initial c channel is in
      omega arith) search.initial);
  low = low;
})

pub search_least : (channels : List Channel) (q bounds own counts lengths : List ℕ) (firings c b : ℕ) → IsSearch channels q bounds own c
    → IsAt channels q own counts lengths firings → firings ≡ sum q → b ≡ get_or own c 0 → IsLeastCapacity channels q bounds c b
search_least channels q bounds own counts lengths firings c b search at all is = record {
  completes = subst (CompletesPeriod channels q) (search.apart
      ∙ ap (set bounds c) (sym is)) (completes_at channels q own counts lengths firings at search.initial all);
  least = λ w done. subst (λ k. k ≤ w) (sym is) (search.low w
      (subst (CompletesPeriod channels q) (sym (ap (λ ks. set ks c w) search.apart ∙ set-set bounds c (get_or own c 0) w)) done));
}

-- ---- the limits of a graph

pub fit_of : (g : Graph) (r q : List ℕ) → IsWellFormed g → IsRepetition g.actors g.channels r q → IsFit g.channels q
fit_of g r q whole is =
    let len = is.firings.each_actor in
    let few = whole.fitting.few_actors in
    let each : All (λ n. n ≤ 16384) q = All-from_get_or (λ n. n ≤ 16384) q 0 (λ a lt.
    let rl = is.least.vector.each_actor in
    let small = All-get_or (λ n. n ≤ 1024) r a 0 (omega arith) is.small in
    subst (λ n. n ≤ 16384) (sym (is.firings.firings a lt)) (firing_fits _ (get_or r a 0) (phases_within g.actors a whole.fitting.actors) small)) in
    let most : sum q ≤ length q * 16384 = sum_by-le (λ n. n) 16384 q each in
    record {
      between = λ i d lt. (let c = whole.fitting.channels i d lt in
          record { from = (let h = c.from in omega arith); to = (let h = c.to in omega arith); small = c.produce.small });
      few = whole.fitting.few_channels;
      few_actors = (let h = few in omega arith);
      room = is.room;
      some_put = λ i d lt.
          (let c = whole.fitting.channels i d lt in
          let a = (slice_index_or g.channels i d).from in
          let rl = is.least.vector.each_actor in
          let from = c.from in
          let cycles : 1 ≤ get_or r a 0 = All-get_or (λ n. 1 ≤ n) r a 0 (omega arith) is.least.vector.positive in
          let phases = phases_of g.actors a in
          let more : phases * 1 ≤ phases * get_or r a 0 = mul-le-mul_left phases cycles in
          let count = is.firings.firings a (omega arith) in
          let cycle : 1 ≤ produced (slice_index_or g.channels i d) phases = cycle_some phases (slice_index_or g.channels i d).produce c.produce in
          let grown : produced (slice_index_or g.channels i d) phases ≤ produced (slice_index_or g.channels i d) (get_or q a 0) =
          total_mono (slice_index_or g.channels i d).produce phases (get_or q a 0) (omega (arith, more, count)) in
          omega (arith, cycle, grown));
      total = omega arith;
    }

phases_some : (actors : List Actor) (a : ℕ) → All IsActor actors → a < length actors → 1 ≤ phases_of actors a
phases_some [] a all lt = absurd (omega arith)
phases_some (x ∷ xs) zero all lt = (All-head IsActor x xs all).some_phase
phases_some (x ∷ xs) (suc a) all lt = phases_some xs a (All-tail IsActor x xs all) (omega arith)

pub phased_of : (g : Graph) (r q : List ℕ) → IsWellFormed g → IsRepetition g.actors g.channels r q → IsPhased g.actors g.channels q
phased_of g r q whole is = record {
  each_actor = sym is.firings.each_actor;
  some = λ a lt. phases_some g.actors a whole.fitting.actors lt;
  produce = λ i d lt. (whole.fitting.channels i d lt).produce.each_phase;
  consume = λ i d lt. (whole.fitting.channels i d lt).consume.each_phase;
}

-- ---- the printed schedule

-- a list that any rest continues to the printed schedule is all of it where the run stalls
pub printed_all : (channels : List Channel) (q bounds own counts lengths schedule : List ℕ) (firings : ℕ) → IsAt channels q own counts lengths firings
    → IsStalled channels q own counts → CompletesPeriod channels q bounds → own ≡ bounds
    → ((rest : List ℕ) → IsScheduleFrom channels q own counts rest → IsScheduleOf channels q own (schedule ++ rest)) → IsScheduleOf channels q bounds schedule
printed_all channels q bounds own counts lengths schedule firings at stalled completes same so_far =
    let all = stalled_all channels q own counts lengths firings at stalled (subst (CompletesPeriod channels q) (sym same) completes) in
    subst (λ b. IsScheduleOf channels q b schedule) same
    (subst (IsScheduleOf channels q own) (append-nil schedule) (so_far [] (all_counts channels q own counts lengths firings at all)))

-- where a run is stalled, a greater bound of one channel lets its producer alone fire
pub only_producer : (channels : List Channel) (q bounds n : List ℕ) (c f b : ℕ) (channel : Channel) → IsStalled channels q bounds n
    → slice_get channels c ≡ Some channel → c < length bounds → CanGo channels q (set bounds c f) n b → b ≡ channel.from
only_producer channels q bounds n c f b channel stalled is lt go = elim (same_or_not channel.from b) [
  | inl this ↦ sym this
  | inr other ↦
      absurd (stalled b (subst (λ ks. CanGo channels q ks n b) (set-get_or bounds c 0)
      (room_at channels q bounds n c (get_or bounds c 0) f b channel is lt go (λ e. absurd (other e)))))
]
