-- A channel alone: what every schedule of its two ends needs.
use Rattle.std.proofs.Common.{◌≡◌, ℕ, zero, suc, ◌+◌, ◌-◌, ◌<◌, ◌≤◌, ◌⊎◌, inl, inr, List, [], ◌∷◌, ◌++◌, length, get_or, set, sum, refl, sym, ap, subst, ◌∙◌, arith}
use Rattle.std.proofs.Common.{Option, Some, None}
use Rattle.std.specs.Prelude.{All, IfSome, MatchOption, slice_get}
use Rattle.std.proofs.Math.Nat.{eq-or-lt_of_le}
use Rattle.std.proofs.Math.Seq.{get_or-append_seam}
use Rattle.std.proofs.lemmas.List.{get_or_default, get_or_append_left, get_or_past, get_or-set_same, length-replicate}
use Rattle.std.proofs.lemmas.Option.{slice_get_within}
use Rattle.csdf_model.specs.Graph.{Channel, Graph}
use Rattle.csdf_model.specs.Rates.{produced, consumed, production, consumption}
use Rattle.csdf_model.specs.WellFormed.{IsWellFormed, IsChannel, IsCapacity}
use Rattle.csdf_analysis.specs.Repetition.{full_capacity, IsRepetition}
use Rattle.csdf_analysis.specs.Fitting.{IsFit}
use Rattle.csdf_analysis.specs.Period.{held, held_after, CanFire, fired, IsSchedule, counts_after, no_firings, HoldInitial, CompletesPeriod, CanGo}
use Rattle.csdf_analysis.specs.Capacities.{IsBefore, AreLeastCapacities}
use Rattle.csdf_analysis.specs.Lowering.{AreSameBelow, IsBeforeBelow, IsLowered}
use Rattle.std.proofs.lemmas.List.Elements.{All-get_or, All-from_get_or}
use Rattle.csdf_analysis.specs.Laws.{IsWithinAll}
use Rattle.csdf_analysis.specs.Alone.{CompletesAlone, IsOwnCapacity, OwnCapacitiesAreNeeded, IsOwnIfAny, IsOwnBound, AreOwnBounds, AreOwnFrom}
use Rattle.csdf_analysis.proofs.CountLemmas.{same_or_not, less_or_not, total_mono, fired_same, fired_other, fired_length, fired_within, fired_sum, none_at}
use Rattle.csdf_analysis.proofs.CountLemmas.{sum_within, some_less, all_same}
use Rattle.csdf_analysis.proofs.PeriodLemmas.{IsFed, IsAble, able_of, can_of, fed_first, fed_fired, after_more, reached_fed, from_none}
use Rattle.csdf_analysis.proofs.FitLemmas.{at}
use Rattle.csdf_analysis.proofs.SearchLemmas.{fit_of}

-- ---- the other channels left out

only : (c : Channel) (j : ℕ) (d : Channel) → slice_get (c ∷ []) j ≡ Some d → (j ≡ 0) × (c ≡ d)
only c zero d is = (refl, (let same : c ≡ d = cc in same))
only c (suc j) d is = absurd (let lt = slice_get_within [] j d is in omega arith)

can_alone : (channels : List Channel) (bounds n : List ℕ) (a i : ℕ) (c : Channel) → slice_get channels i ≡ Some c → CanFire channels bounds n a
    → CanFire (c ∷ []) (get_or bounds i 0 ∷ []) n a
can_alone channels bounds n a i c is can = record {
  exists = can.exists;
  tokens = λ j d here to.
      (let o = only c j d here in
      subst (λ (e : Channel). consumption e (get_or n a 0) ≤ held e n) o.1 (can.tokens i c is (ap (λ (e : Channel). e.to) o.1 ∙ to)));
  room = λ j d here from.
      (let o = only c j d here in
      subst (λ k. held_after a n d ≤ get_or (get_or bounds i 0 ∷ []) k 0) (sym o.0)
      (subst (λ (e : Channel). held_after a n e ≤ get_or bounds i 0) o.1 (can.room i c is (ap (λ (e : Channel). e.from) o.1 ∙ from))));
}

schedule_alone : (channels : List Channel) (bounds n actors : List ℕ) (i : ℕ) (c : Channel) → slice_get channels i ≡ Some c
    → IsSchedule channels bounds n actors → IsSchedule (c ∷ []) (get_or bounds i 0 ∷ []) n actors
schedule_alone channels bounds n [] i c is able = tt
schedule_alone channels bounds n (a ∷ actors) i c is able =
    (can_alone channels bounds n a i c is able.0, schedule_alone channels bounds (fired n a) actors i c is able.1)

pub completes_alone : (channels : List Channel) (q w : List ℕ) (i : ℕ) (c : Channel) → slice_get channels i ≡ Some c → CompletesPeriod channels q w
    → CompletesAlone q c (get_or w i 0)
completes_alone channels q w i c is done = record {
  each_channel = refl;
  initial = λ j d here.
      (let o = only c j d here in
      subst (λ k. length d.initial ≤ get_or (get_or w i 0 ∷ []) k 0) (sym o.0)
      (subst (λ (e : Channel). length e.initial ≤ get_or w i 0) o.1 (done.initial i c is)));
  reached = record {
    schedule = done.reached.schedule;
    able = schedule_alone channels w (no_firings q) done.reached.schedule i c is done.reached.able;
    leads = done.reached.leads;
  };
}

pub own_needed : OwnCapacitiesAreNeeded
own_needed = λ channels q w i c b done is own. own.least (get_or w i 0) (completes_alone channels q w i c is done)

-- ---- the moment of a firing

-- counts at which the actor makes firing number j of a period
record IsMoment (channels : List Channel) (q bounds : List ℕ) (p j : ℕ) : Type 0 where
  pub counts : List ℕ
  pub count : get_or counts p 0 ≡ j
  pub fed : IsFed channels counts
  pub able : IsAble channels bounds counts p
  pub within : IsWithinAll (fired counts p) q

moment : (channels : List Channel) (q bounds n actors : List ℕ) (p j : ℕ) → IsFed channels n → IsSchedule channels bounds n actors
    → counts_after n actors ≡ q → get_or n p 0 ≤ j → j < get_or q p 0 → IsMoment channels q bounds p j
moment channels q bounds n [] p j fed able leads le less =
    let same : get_or n p 0 ≡ get_or q p 0 = ap (λ ks. get_or ks p 0) leads in
    absurd (omega arith)
moment channels q bounds n (a ∷ actors) p j fed able leads le less =
    let first = able_of channels bounds n a fed able.0 in
    let next = fed_fired channels bounds n a fed first in
    elim (same_or_not p a) [
      | inl same ↦
          let here : get_or n p 0 ≡ get_or n a 0 = ap (λ k. get_or n k 0) same in
          elim (less_or_not (get_or n p 0) j) [
            | inl lower ↦
                let one : get_or (fired n a) p 0 ≡ suc (get_or n a 0) = ap (λ k. get_or (fired n a) k 0) same ∙ fired_same n a able.0.exists in
                moment channels q bounds (fired n a) actors p j next able.1 leads (omega arith) less
            | inr now ↦ record {
              counts = n;
              count = omega arith;
              fed = fed;
              able = subst (IsAble channels bounds n) (sym same) first;
              within = subst (λ k. IsWithinAll (fired n k) q) (sym same)
                  (subst (IsWithinAll (fired n a)) leads (λ b. after_more channels bounds (fired n a) actors b able.1));
            }
          ]
      | inr other ↦
          let one = fired_other n a p other in
          moment channels q bounds (fired n a) actors p j next able.1 leads (omega arith) less
    ]

-- ---- one firing of the producer

-- the consumer has fired i times, and cannot fire again before the producer has fired once more, or may not: so what the channel holds
-- after this firing is needed
pub step_needed : (q : List ℕ) (c : Channel) (w j i last h : ℕ) → CompletesAlone q c w → j < get_or q c.from 0
    → h + consumed c i ≡ length c.initial + produced c j → (i < last → h < consumption c i) → (c.from ≡ c.to → last ≡ suc j)
    → ((c.from ≡ c.to → ⊥) → last ≡ get_or q c.to 0) → h + production c j ≤ w
step_needed q c w j i last h done lt holds stops self other =
    let r = done.reached in
    let none = none_at (length q) c.from in
    let mo = moment (c ∷ []) q (w ∷ []) (no_firings q) r.schedule c.from j (fed_first (c ∷ []) (length q)) r.able r.leads (omega arith) lt in
    let y : ℕ = get_or (fired mo.counts c.from) c.to 0 in
    let put : produced c (get_or mo.counts c.from 0) ≡ produced c j = ap (produced c) mo.count in
    let puts : produced c (suc (get_or mo.counts c.from 0)) ≡ produced c (suc j) = ap (λ k. produced c (suc k)) mo.count in
    let room : length c.initial + produced c (suc (get_or mo.counts c.from 0)) ≤ w + consumed c y = mo.able.room 0 c refl refl in
    let both : (consumed c y ≤ length c.initial + produced c j) × (y ≤ last) = elim (same_or_not c.from c.to) [
      | inl same ↦
          let count : y ≡ suc (get_or mo.counts c.from 0) = ap (λ k. get_or (fired mo.counts c.from) k 0) (sym same)
          ∙ fired_same mo.counts c.from mo.able.exists in
          let tokens = mo.able.tokens 0 c refl (sym same) in
          let taken : consumed c y ≡ consumed c (suc (get_or mo.counts c.from 0)) = ap (consumed c) count in
          let end = self same in
          let at = mo.count in
          (omega arith, omega arith)
      | inr apart ↦
          let count : y ≡ get_or mo.counts c.to 0 = fired_other mo.counts c.from c.to (λ e. apart (sym e)) in
          let fed = mo.fed.fed 0 c refl in
          let taken : consumed c y ≡ consumed c (get_or mo.counts c.to 0) = ap (consumed c) count in
          let end = other apart in
          let most : y ≤ get_or q c.to 0 = mo.within c.to in
          (omega arith, omega arith)
    ] in
    let few = both.0 in
    let most = both.1 in
    let within : y ≤ i = elim (less_or_not i y) [
      | inl less ↦
          let more : consumed c (suc i) ≤ consumed c y = total_mono c.consume (suc i) y (omega arith) in
          let one : consumed c (suc i) ≡ consumed c i + consumption c i = refl in
          let stop = stops (omega arith) in
          absurd (omega arith)
      | inr le ↦ le
    ] in
    let taken : consumed c y ≤ consumed c i = total_mono c.consume y i within in
    let one : produced c (suc j) ≡ produced c j + production c j = refl in
    omega arith

-- ---- all channels

pub some_at : (channels : List Channel) (i : ℕ) → i < length channels → (c : Channel) × (slice_get channels i ≡ Some c)
some_at [] i lt = absurd (omega arith)
some_at (c ∷ channels) zero lt = (c, refl)
some_at (c ∷ channels) (suc i) lt = some_at channels i (omega arith)

same_front : (x y : ℕ) (xs ys : List ℕ) (p : ℕ) → x ≡ y → ((j : ℕ) → j < p → get_or xs j 0 ≡ get_or ys j 0) → (j : ℕ) → j < suc p
    → get_or (x ∷ xs) j 0 ≡ get_or (y ∷ ys) j 0
same_front x y xs ys p same rest zero lt = same
same_front x y xs ys p same rest (suc j) lt = rest j (omega arith)

-- a list that is nowhere above the other
nowhere_above : (xs ys : List ℕ) → length xs ≡ length ys → ((i : ℕ) → i < length xs → get_or xs i 0 ≤ get_or ys i 0) → (xs ≡ ys) ⊎ IsBefore xs ys
nowhere_above [] [] len le = inl refl
nowhere_above [] (y ∷ ys) len le = absurd (omega arith)
nowhere_above (x ∷ xs) [] len le = absurd (omega arith)
nowhere_above (x ∷ xs) (y ∷ ys) len le =
    let first : x ≤ y = le 0 (omega arith) in
    elim (eq-or-lt_of_le first) [
      | inl same ↦ elim (nowhere_above xs ys (omega arith) (λ i lt. le (suc i) (omega arith))) [
        | inl rest ↦ inl (let whole : x ∷ xs ≡ y ∷ ys = cc in whole)
        | inr before ↦ inr (record {
          place = suc before.place;
          within = (let h = before.within in omega arith);
          same = same_front x y xs ys before.place same before.same;
          less = before.less;
        })
      ]
      | inr less ↦ inr (record { place = 0; within = omega arith; same = λ j lt. absurd (omega arith); less = less })
    ]

keeps_own : (o : Option ℕ) (q : List ℕ) (c : Channel) (b : ℕ) → MatchOption o (IsOwnIfAny q c b) (λ given. b ≡ given) → IfSome o (λ given. b ≡ given)
keeps_own None q c b is = tt
keeps_own (Some given) q c b is = is

own_within : (o : Option ℕ) (q : List ℕ) (c : Channel) (b : ℕ) → IfSome o (IsCapacity c) → MatchOption o (IsOwnIfAny q c b) (λ given. b ≡ given)
    → (length c.initial ≤ b) × (b ≤ 65535)
own_within None q c b whole is = (is.fits, is.small)
own_within (Some given) q c b whole is = (let fits = whole.fits in let most = whole.within in (omega arith, omega arith))

own_below : (o : Option ℕ) (q : List ℕ) (c : Channel) (b w : ℕ) → MatchOption o (IsOwnIfAny q c b) (λ given. b ≡ given) → IfSome o (λ given. w ≡ given)
    → CompletesAlone q c w → b ≤ w
own_below None q c b w is same done = (is.own w done).least w done
own_below (Some given) q c b w is same done = omega arith

pub own_initial : (g : Graph) (q bounds : List ℕ) → IsWellFormed g → AreOwnBounds g.channels q bounds → HoldInitial g.channels bounds
own_initial g q bounds whole are i c is =
    (own_within c.capacity q c (get_or bounds i 0) (at (IsChannel g.actors) g.channels i c whole.fitting.channels is).capacity (are.own i c is)).0

pub own_small : (g : Graph) (q bounds : List ℕ) → IsWellFormed g → AreOwnBounds g.channels q bounds → All (λ b. b ≤ 65535) bounds
own_small g q bounds whole are i d lt =
    let some = some_at g.channels i (let e = are.each_channel in omega arith) in
    let c = some.0 in
    let low = (own_within c.capacity q c (get_or bounds i 0) (at (IsChannel g.actors) g.channels i c whole.fitting.channels some.1).capacity (are.own i c some.1)).1 in
    subst (λ k. k ≤ 65535) (sym (get_or_default bounds i d 0 lt)) low

-- where the channels' own least capacities together complete a period, they are the least
pub own_least : (channels : List Channel) (q bounds : List ℕ) → AreOwnBounds channels q bounds → CompletesPeriod channels q bounds
    → AreLeastCapacities channels q bounds
own_least channels q bounds are completes = record {
  completes = completes;
  agrees = λ i c is. keeps_own c.capacity q c (get_or bounds i 0) (are.own i c is);
  least = λ w done agrees. nowhere_above bounds w (completes.each_channel ∙ sym done.each_channel) (λ i lt.
      (let some = some_at channels i (let e = are.each_channel in omega arith) in
      let c = some.0 in
      own_below c.capacity q c (get_or bounds i 0) (get_or w i 0) (are.own i c some.1) (agrees i c some.1)
      (completes_alone channels q w i c some.1 done)));
}

-- ---- where a search begins

own_here : (o : Option ℕ) (q : List ℕ) (c : Channel) (b : ℕ) → o ≡ None → MatchOption o (IsOwnIfAny q c b) (λ given. b ≡ given) → IsOwnIfAny q c b
own_here None q c b none is = is
own_here (Some given) q c b none is = absurd (cc)

-- no capacity below the own one completes a period with these of the others
pub own_low : (channels : List Channel) (q bounds own : List ℕ) (c : ℕ) (channel : Channel) → slice_get channels c ≡ Some channel → channel.capacity ≡ None
    → c < length bounds → AreOwnBounds channels q own → (w : ℕ) → CompletesPeriod channels q (set bounds c w) → get_or own c 0 ≤ w
own_low channels q bounds own c channel is none lt are w done =
    let alone = completes_alone channels q (set bounds c w) c channel is done in
    let any = own_here channel.capacity q channel (get_or own c 0) none (are.own c channel is) in
    let least = (any.own _ alone).least _ alone in
    let bound = get_or-set_same bounds c w 0 lt in
    omega arith

pub own_fits : (channels : List Channel) (q own : List ℕ) (c : ℕ) (channel d : Channel) → slice_get channels c ≡ Some channel → channel.capacity ≡ None
    → AreOwnBounds channels q own → slice_get channels c ≡ Some d → length d.initial ≤ get_or own c 0
own_fits channels q own c channel d is none are here =
    let same : channel ≡ d = cc (is, here) in
    subst (λ (e : Channel). length e.initial ≤ get_or own c 0) same (own_here channel.capacity q channel (get_or own c 0) none (are.own c channel is)).fits

-- ---- one step of the count

-- what the channel holds once the producer has fired is within its full capacity
pub step_small : (q : List ℕ) (c : Channel) (j i h : ℕ) → full_capacity q c ≤ 65535 → j < get_or q c.from 0
    → h + consumed c i ≡ length c.initial + produced c j → h + production c j ≤ 65535
step_small q c j i h room lt holds =
    let more : produced c (suc j) ≤ produced c (get_or q c.from 0) = total_mono c.produce (suc j) (get_or q c.from 0) (omega arith) in
    let one : produced c (suc j) ≡ produced c j + production c j = refl in
    omega arith

pub step_holds : (c : Channel) (j i h : ℕ) → h + consumed c i ≡ length c.initial + produced c j
    → h + production c j + consumed c i ≡ length c.initial + produced c (j + 1)
step_holds c j i h holds =
    let next : suc j ≡ j + 1 = omega arith in
    let one : produced c (suc j) ≡ produced c j + production c j = refl in
    let same : produced c (suc j) ≡ produced c (j + 1) = ap (produced c) next in
    omega arith

-- ---- a list of the channels' bounds, one by one

pub own_pushed : (channels : List Channel) (q bounds : List ℕ) (k : ℕ) (x : Channel) (b : ℕ) → length bounds ≡ k → slice_get channels k ≡ Some x → IsOwnBound q x b
    → ((i : ℕ) (c : Channel) → i < k → slice_get channels i ≡ Some c → IsOwnBound q c (get_or bounds i 0))
    → (i : ℕ) (c : Channel) → i < k + 1 → slice_get channels i ≡ Some c → IsOwnBound q c (get_or (bounds ++ b ∷ []) i 0)
own_pushed channels q bounds k x b count is one before i c lt here = elim (less_or_not i k) [
  | inl less ↦ subst (IsOwnBound q c) (sym (get_or_append_left bounds (b ∷ []) 0 i (omega arith))) (before i c less here)
  | inr le ↦
      let last : i ≡ length bounds = omega arith in
      let entry : get_or (bounds ++ b ∷ []) i 0 ≡ b = ap (λ j. get_or (bounds ++ b ∷ []) j 0) last ∙ get_or-append_seam bounds b [] 0 in
      let place : k ≡ i = omega arith in
      let there : slice_get channels i ≡ Some x = ap (slice_get channels) (sym place) ∙ is in
      let same : x ≡ c = cc (there, here) in
      subst (λ (d : Channel). IsOwnBound q d (get_or (bounds ++ b ∷ []) i 0)) same (subst (IsOwnBound q x) (sym entry) one)
]

-- ---- the channels and the firings of a graph where a call hands them on

pub at_net : (P : List Channel → List ℕ → Type 0) (channels cs : List Channel) (q ks : List ℕ) → cs ≡ channels → ks ≡ q → P channels q → P cs ks
at_net P channels cs q ks same_c same_q p = subst (λ (x : List Channel). P x ks) (sym same_c) (subst (P channels) (sym same_q) p)

pub fit_at : (g : Graph) (r q q2 : List ℕ) (channels : List Channel) → IsWellFormed g → IsRepetition g.actors g.channels r q → q2 ≡ q → channels ≡ g.channels
    → IsFit channels q2
fit_at g r q q2 channels whole is same_q same_c =
    subst (IsFit channels) (sym same_q) (subst (λ (cs : List Channel). IsFit cs q) (sym same_c) (fit_of g r q whole is))

pub own_at : (g : Graph) (q q2 bounds : List ℕ) (channels : List Channel) → q2 ≡ q → channels ≡ g.channels → AreOwnBounds channels q2 bounds
    → AreOwnBounds g.channels q bounds
own_at g q q2 bounds channels same_q same_c are =
    subst (λ (cs : List Channel). AreOwnBounds cs q bounds) same_c (subst (λ (ks : List ℕ). AreOwnBounds channels ks bounds) same_q are)

-- ---- the capacity that is needed is enough

-- a firing of the producer has room under this capacity, once the consumer has fired as often as it can
pub record IsServed (q : List ℕ) (c : Channel) (b j : ℕ) : Type 0 where
  pub taken : ℕ
  pub within : taken ≤ get_or q c.to 0
  pub self : c.from ≡ c.to → taken ≤ suc j
  pub had : consumed c taken ≤ length c.initial + produced c j
  pub room : length c.initial + produced c (suc j) ≤ b + consumed c taken

read_within : (q : List ℕ) (a k : ℕ) → k < get_or q a 0 → a < length q
read_within q a k less = elim (less_or_not a (length q)) [
  | inl lt ↦ lt
  | inr past ↦ let none : get_or q a 0 ≡ 0 = get_or_past q a 0 past in absurd (omega arith)
]

one_at : (c : Channel) (n : List ℕ) (b a : ℕ) → a < length n → (c.to ≡ a → consumed c (suc (get_or n a 0)) ≤ length c.initial + produced c (get_or n c.from 0))
    → (c.from ≡ a → length c.initial + produced c (suc (get_or n a 0)) ≤ b + consumed c (get_or (fired n a) c.to 0)) → IsAble (c ∷ []) (b ∷ []) n a
one_at c n b a lt tokens room = record {
  exists = lt;
  tokens = λ j d here to.
      (let o = only c j d here in
      subst (λ (e : Channel). consumed e (suc (get_or n a 0)) ≤ length e.initial + produced e (get_or n e.from 0)) o.1 (tokens (ap (λ (e : Channel). e.to) o.1 ∙ to)));
  room = λ j d here from.
      (let o = only c j d here in
      subst (λ k. length d.initial + produced d (suc (get_or n a 0)) ≤ get_or (b ∷ []) k 0 + consumed d (get_or (fired n a) d.to 0)) (sym o.0)
      (subst (λ (e : Channel). length e.initial + produced e (suc (get_or n a 0)) ≤ b + consumed e (get_or (fired n a) e.to 0)) o.1
      (room (ap (λ (e : Channel). e.from) o.1 ∙ from))));
}

go_at : (c : Channel) (q n : List ℕ) (b a : ℕ) → IsFed (c ∷ []) n → get_or n a 0 < get_or q a 0 → IsAble (c ∷ []) (b ∷ []) n a
    → (x : ℕ) × CanGo (c ∷ []) q (b ∷ []) n x
go_at c q n b a fed left able = (a, record { able = can_of (c ∷ []) (b ∷ []) n a fed able; left = left })

-- the producer has firings left, and the consumer cannot fire or has none left
producer_goes : (q : List ℕ) (c : Channel) (b : ℕ) (n : List ℕ) → length n ≡ length q → (c.from ≡ c.to → ⊥) → IsFed (c ∷ []) n
    → IsServed q c b (get_or n c.from 0) → get_or n c.from 0 < get_or q c.from 0
    → (get_or n c.to 0 < get_or q c.to 0 → length c.initial + produced c (get_or n c.from 0) < consumed c (suc (get_or n c.to 0)))
    → (x : ℕ) × CanGo (c ∷ []) q (b ∷ []) n x
producer_goes q c b n len apart fed served left waits =
    let y : ℕ = get_or n c.to 0 in
    let i = served.taken in
    let most : i ≤ y = elim (less_or_not y i) [
      | inl less ↦
          let bound = served.within in
          let wait = waits (omega arith) in
          let more : consumed c (suc y) ≤ consumed c i = total_mono c.consume (suc y) i (omega arith) in
          let had = served.had in
          absurd (omega arith)
      | inr le ↦ le
    ] in
    let more : consumed c i ≤ consumed c y = total_mono c.consume i y most in
    let room = served.room in
    let lt : c.from < length n = (let l = read_within q c.from (get_or n c.from 0) left in omega arith) in
    go_at c q n b c.from fed left (one_at c n b c.from lt (λ to. absurd (apart (sym to))) (λ same.
    (let there : consumed c (get_or (fired n c.from) c.to 0) ≡ consumed c y = ap (consumed c) (fired_other n c.from c.to (λ e. apart (sym e))) in
    omega arith)))

between_goes : (q : List ℕ) (c : Channel) (b w : ℕ) (n : List ℕ) → CompletesAlone q c w → ((j : ℕ) → j < get_or q c.from 0 → IsServed q c b j)
    → length n ≡ length q → (c.from ≡ c.to → ⊥) → IsFed (c ∷ []) n → (get_or q c.to 0 ≤ get_or n c.to 0 → get_or n c.from 0 < get_or q c.from 0)
    → (x : ℕ) × CanGo (c ∷ []) q (b ∷ []) n x
between_goes q c b w n done served len apart fed some = elim (less_or_not (get_or n c.to 0) (get_or q c.to 0)) [
  | inl left ↦ elim (less_or_not (length c.initial + produced c (get_or n c.from 0)) (consumed c (suc (get_or n c.to 0)))) [
    | inl short ↦ elim (less_or_not (get_or n c.from 0) (get_or q c.from 0)) [
      | inl lt ↦ producer_goes q c b n len apart fed (served (get_or n c.from 0) lt) lt (λ l. short)
      | inr ge ↦
          let ends = (reached_fed (c ∷ []) q (w ∷ []) q done.reached).fed 0 c refl in
          let taken : consumed c (suc (get_or n c.to 0)) ≤ consumed c (get_or q c.to 0) = total_mono c.consume (suc (get_or n c.to 0)) (get_or q c.to 0) (omega arith) in
          let put : produced c (get_or q c.from 0) ≤ produced c (get_or n c.from 0) = total_mono c.produce (get_or q c.from 0) (get_or n c.from 0) ge in
          absurd (omega arith)
    ]
    | inr enough ↦
        let lt : c.to < length n = (let l = read_within q c.to (get_or n c.to 0) left in omega arith) in
        go_at c q n b c.to fed left (one_at c n b c.to lt (λ same. enough) (λ same. absurd (apart same)))
  ]
  | inr ge ↦
      let lt = some ge in
      producer_goes q c b n len apart fed (served (get_or n c.from 0) lt) lt (λ l. absurd (omega arith))
]

self_goes : (q : List ℕ) (c : Channel) (b w : ℕ) (n : List ℕ) → CompletesAlone q c w → ((j : ℕ) → j < get_or q c.from 0 → IsServed q c b j)
    → length n ≡ length q → c.from ≡ c.to → IsFed (c ∷ []) n → get_or n c.from 0 < get_or q c.from 0 → (x : ℕ) × CanGo (c ∷ []) q (b ∷ []) n x
self_goes q c b w n done served len same fed left =
    let x : ℕ = get_or n c.from 0 in
    let r = done.reached in
    let none = none_at (length q) c.from in
    let mo = moment (c ∷ []) q (w ∷ []) (no_firings q) r.schedule c.from x (fed_first (c ∷ []) (length q)) r.able r.leads (omega arith) left in
    let put : produced c (get_or mo.counts c.from 0) ≡ produced c x = ap (produced c) mo.count in
    let taken : consumed c (suc (get_or mo.counts c.from 0)) ≡ consumed c (suc x) = ap (λ k. consumed c (suc k)) mo.count in
    let tokens = mo.able.tokens 0 c refl (sym same) in
    let lt : c.from < length n = (let l = read_within q c.from x left in omega arith) in
    let s = served x left in
    let few : consumed c s.taken ≤ consumed c (suc x) = total_mono c.consume s.taken (suc x) (s.self same) in
    let count : consumed c (get_or (fired n c.from) c.to 0) ≡ consumed c (suc x) = ap (λ k. consumed c (get_or (fired n c.from) k 0)) (sym same)
    ∙ ap (consumed c) (fired_same n c.from lt) in
    let room = s.room in
    go_at c q n b c.from fed left (one_at c n b c.from lt (λ to. omega arith) (λ from. omega arith))

alone_goes : (q : List ℕ) (c : Channel) (b w : ℕ) (n : List ℕ) → CompletesAlone q c w → ((j : ℕ) → j < get_or q c.from 0 → IsServed q c b j)
    → length n ≡ length q → IsFed (c ∷ []) n → sum n < sum q → (x : ℕ) × CanGo (c ∷ []) q (b ∷ []) n x
alone_goes q c b w n done served len fed less =
    let some = some_less n q len less in
    let a = some.0 in
    let left : get_or n a 0 < get_or q a 0 = some.1 in
    elim (same_or_not c.from a) [
      | inl from ↦
          let here : get_or n c.from 0 < get_or q c.from 0 = subst (λ k. get_or n k 0 < get_or q k 0) (sym from) left in
          elim (same_or_not c.from c.to) [
            | inl same ↦ self_goes q c b w n done served len same fed here
            | inr apart ↦ between_goes q c b w n done served len apart fed (λ ge. here)
          ]
      | inr not_from ↦ elim (same_or_not c.to a) [
        | inl to ↦
            let here : get_or n c.to 0 < get_or q c.to 0 = subst (λ k. get_or n k 0 < get_or q k 0) (sym to) left in
            between_goes q c b w n done served len (λ same. not_from (same ∙ to)) fed (λ ge. absurd (omega arith))
        | inr not_to ↦
            let lt : a < length n = (let l = read_within q a (get_or n a 0) left in omega arith) in
            go_at c q n b a fed left (one_at c n b a lt (λ to. absurd (not_to to)) (λ from. absurd (not_from from)))
      ]
    ]

alone_rest : (k : ℕ) (q : List ℕ) (c : Channel) (b w : ℕ) (n : List ℕ) → CompletesAlone q c w → ((j : ℕ) → j < get_or q c.from 0 → IsServed q c b j)
    → length n ≡ length q → IsFed (c ∷ []) n → IsWithinAll n q → sum n + k ≡ sum q
    → (rest : List ℕ) × IsSchedule (c ∷ []) (b ∷ []) n rest × (counts_after n rest ≡ q)
alone_rest zero q c b w n done served len fed within count = ([], tt, all_same n q len within (omega arith))
alone_rest (suc k) q c b w n done served len fed within count =
    let next = alone_goes q c b w n done served len fed (omega arith) in
    let can = next.1.able in
    let rest = alone_rest k q c b w (fired n next.0) done served (fired_length n next.0 ∙ len)
    (fed_fired (c ∷ []) (b ∷ []) n next.0 fed (able_of (c ∷ []) (b ∷ []) n next.0 fed can)) (fired_within n q next.0 can.exists within next.1.left)
    (let one = fired_sum n next.0 can.exists in omega arith) in
    (next.0 ∷ rest.0, (can, rest.1), rest.2)

initial_alone : (c : Channel) (b : ℕ) → length c.initial ≤ b → HoldInitial (c ∷ []) (b ∷ [])
initial_alone c b fits zero d here = (let o = only c 0 d here in subst (λ (e : Channel). length e.initial ≤ b) o.1 fits)
initial_alone c b fits (suc j) d here = absurd (let lt = slice_get_within [] j d here in omega arith)

-- a capacity under which each firing of the producer is served completes a period alone where any other does
pub served_completes : (q : List ℕ) (c : Channel) (b w : ℕ) → length c.initial ≤ b → ((j : ℕ) → j < get_or q c.from 0 → IsServed q c b j) → CompletesAlone q c w
    → CompletesAlone q c b
served_completes q c b w fits served done =
    let first = sum_within (no_firings q) q (length-replicate (length q) 0) (from_none q q) in
    let k : ℕ = sum q - sum (no_firings q) in
    let rest = alone_rest k q c b w (no_firings q) done served (length-replicate (length q) 0) (fed_first (c ∷ []) (length q)) (from_none q q) (omega arith) in
    record {
      each_channel = refl;
      initial = initial_alone c b fits;
      reached = record { schedule = rest.0; able = rest.1; leads = rest.2 };
    }

pub own_of : (q : List ℕ) (c : Channel) (b w : ℕ) → length c.initial ≤ b → ((j : ℕ) → j < get_or q c.from 0 → IsServed q c b j)
    → ((v : ℕ) → CompletesAlone q c v → b ≤ v) → CompletesAlone q c w → IsOwnCapacity q c b
own_of q c b w fits served needed done = record { completes = served_completes q c b w fits served done; least = needed }

-- a greater capacity serves too
pub served_more : (q : List ℕ) (c : Channel) (b more j : ℕ) → b ≤ more → IsServed q c b j → IsServed q c more j
served_more q c b more j le s = record {
  taken = s.taken;
  within = s.within;
  self = s.self;
  had = s.had;
  room = (let room = s.room in omega arith);
}

-- ---- own ones from one channel up to another

first_difference : (e : ℕ) (xs ys : List ℕ) → e ≤ length xs → ((j : ℕ) → j < e → get_or xs j 0 ≤ get_or ys j 0)
    → AreSameBelow e xs ys ⊎ IsBeforeBelow e xs ys
first_difference zero xs ys len le = inl (λ j lt. absurd (omega arith))
first_difference (suc e) xs ys len le = elim (first_difference e xs ys (omega arith) (λ j lt. le j (omega arith))) [
  | inr before ↦ inr (record { before = before.before; below = (let h = before.below in omega arith) })
  | inl same ↦ elim (eq-or-lt_of_le (le e (omega arith))) [
    | inl equal ↦ inl (λ j lt. elim (same_or_not j e) [
      | inl this ↦ subst (λ k. get_or xs k 0 ≡ get_or ys k 0) (sym this) equal
      | inr other ↦ same j (omega (arith, other))
    ])
    | inr less ↦ inr (record { before = record { place = e; within = omega arith; same = same; less = less }; below = omega arith })
  ]
]

-- where own bounds from c to e complete with these, the channels below e have their least capacities
pub lowered_own : (channels : List Channel) (q own bounds next : List ℕ) (c e : ℕ) → c ≤ e → e ≤ length channels → AreOwnBounds channels q own
    → All (λ b. b ≤ 65535) own → AreOwnFrom own bounds next c e → IsLowered channels q c bounds → CompletesPeriod channels q next → IsLowered channels q e next
lowered_own channels q own bounds next c e le most are few from low done =
    let len : length bounds ≡ length channels = low.completes.each_channel in
    let len_own : length own ≡ length channels = are.each_channel in
    let len_next : length next ≡ length bounds = from.count in
    record {
      completes = done;
      agrees = λ i d is. elim (less_or_not i c) [
        | inl lower ↦ subst (λ k. IfSome d.capacity (λ given. k ≡ given)) (sym (from.below i lower)) (low.agrees i d is)
        | inr ge ↦ elim (less_or_not i e) [
          | inl lt ↦ subst (λ k. IfSome d.capacity (λ given. k ≡ given)) (sym (from.between i ge lt)) (keeps_own d.capacity q d (get_or own i 0) (are.own i d is))
          | inr past ↦ subst (λ k. IfSome d.capacity (λ given. k ≡ given)) (sym (from.above i past)) (low.agrees i d is)
        ]
      ];
      ahead = λ i d past is. from.above i past ∙ low.ahead i d (omega arith) is;
      small = All-from_get_or (λ b. b ≤ 65535) next 0 (λ i lt. elim (less_or_not i c) [
        | inl lower ↦ subst (λ k. k ≤ 65535) (sym (from.below i lower)) (All-get_or (λ b. b ≤ 65535) bounds i 0 (omega arith) low.small)
        | inr ge ↦ elim (less_or_not i e) [
          | inl less ↦ subst (λ k. k ≤ 65535) (sym (from.between i ge less)) (All-get_or (λ b. b ≤ 65535) own i 0 (omega arith) few)
          | inr past ↦ subst (λ k. k ≤ 65535) (sym (from.above i past)) (All-get_or (λ b. b ≤ 65535) bounds i 0 (omega arith) low.small)
        ]
      ]);
      least = λ w complete agrees. elim (low.least w complete agrees) [
        | inr before ↦
            let p = before.before.place in
            let lt : p < c = before.below in
            inr (record {
              before = record {
                place = p;
                within = (let h = before.before.within in omega arith);
                same = λ j less. from.below j (omega arith) ∙ before.before.same j less;
                less = subst (λ k. k < get_or w p 0) (sym (from.below p lt)) before.before.less;
              };
              below = omega arith;
            })
        | inl same ↦ first_difference e next w (omega arith) (λ j lt. elim (less_or_not j c) [
          | inl lower ↦ (let one = from.below j lower in let two = same j lower in omega arith)
          | inr ge ↦
              (let some = some_at channels j (omega arith) in
              let d = some.0 in
              let one = from.between j ge lt in
              let low = own_below d.capacity q d (get_or own j 0) (get_or w j 0) (are.own j d some.1) (agrees j d some.1) (completes_alone channels q w j d some.1 complete) in
              omega arith)
        ])
      ];
    }
