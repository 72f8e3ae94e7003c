-- Greatest counts that fit, and how they are found.
use Rattle.std.proofs.Common.{◌≡◌, ℕ, zero, suc, ◌+◌, ◌-◌, ◌*◌, ◌/◌, ◌%◌, ◌^◌, ◌<◌, ◌≤◌, ◌==◌, ◌||◌, nat_lt, cond, Bool, true, false, List, [], ◌∷◌, length, map, sum, take, drop, ◌++◌}
use Rattle.std.proofs.Common.{get_or, set, refl, sym, ap, subst, ◌∙◌, arith, inl, inr, drop-cons, add-one, mul-le-mul}
use Rattle.std.specs.Prelude.{slice_get, Some, slice_index_or}
use Rattle.std.proofs.Math.Nat.{div-add-mod, mul-le-mul_left}
use Rattle.std.proofs.lemmas.Bool.{ltb-true, ltb-false, false≢true}
use Rattle.std.proofs.lemmas.Bool.Decides.{eqb_tells}
use Rattle.std.proofs.lemmas.List.{get_or_default, take_all, take-append-le, get_or-set_other, get_or_past, length-set, length-map, set-get_or}
use Rattle.std.proofs.lemmas.List.Elements.{All-get_or, All-head, All-tail}
use Rattle.std.proofs.lemmas.List.Sums.{sum_by-cons, sum_by-set}
use Rattle.std.proofs.lemmas.Option.{slice_get-get_or, slice_get_within}
use Rattle.csdf_model.specs.declared.parts.Actor.{Actor as ActorCode}
use Rattle.csdf_model.specs.declared.parts.Channel.{Channel as ChannelCode}
use Rattle.csdf_model.specs.Graph.{Actor, Channel, actor_view, channel_view, phases_of}
use Rattle.csdf_model.specs.Kernels.{is_source_kernel}
use Rattle.csdf_model.specs.Rates.{total, produced, consumed}
use Rattle.csdf_model.specs.WellFormed.{AreRates, IsChannel}
use Rattle.csdf_model.proofs.RateLemmas.{total_cycles}
use Rattle.csdf_analysis.specs.Acceptance.{Accepted, IsAccepted}
use Rattle.csdf_analysis.specs.Fewer.{AreFewRates, HaveFewRates, IsHeld, AreHeldIn, IsMostMoved, IsMostGiven, IsLoweredTo, IsMostAlone, AreMostAlone}
use Rattle.csdf_analysis.specs.Laws.{IsWithinAll}
use Rattle.csdf_analysis.specs.Most.{is_source_at, given_to, given_by, FitsChannel, FitsChannels, AreMost}
use Rattle.csdf_analysis.proofs.BoundLemmas.{cycle_some, phases_within, total_within}
use Rattle.csdf_analysis.proofs.CountLemmas.{less_or_not, total_mono}
use Rattle.csdf_analysis.proofs.FitLemmas.{at}
use Rattle.csdf_analysis.proofs.LeastLemmas.{channel_at}

-- ---- rates

-- whole cycles that move at most so many tokens, where a cycle moves some
pub record IsWhole (rates : List ℕ) (tokens before cycle phases : ℕ) : Type 0 where
  pub some : 0 < cycle
  pub below : (tokens / cycle) * phases < before
  pub few : tokens / cycle < before
  pub fits : total rates ((tokens / cycle) * phases) ≤ tokens

pub whole : (rates : List ℕ) (tokens before cycle phases : ℕ) → AreFewRates rates → phases ≡ length rates → cycle ≡ total rates phases
    → tokens < total rates before → IsWhole rates tokens before cycle phases
whole rates tokens before cycle phases are len is over =
    let own : cycle ≡ total rates (length rates) = is ∙ ap (total rates) len in
    let positive : 1 ≤ total rates (length rates) = cycle_some (length rates) rates are.are in
    let some : 0 < cycle = omega arith in
    let k : ℕ = tokens / cycle in
    let same : length rates * k ≡ k * phases = rw len (omega arith) in
    let one : length rates * 1 ≡ length rates = omega arith in
    let cycled : total rates (length rates) ≡ sum rates = ap (total rates) (sym one) ∙ total_cycles rates 1 ∙ (let e : sum rates * 1 ≡ sum rates = omega arith in e) in
    let product : sum rates * k ≡ cycle * k = ap (λ n. n * k) (sym (own ∙ cycled)) in
    let moved : total rates (k * phases) ≡ cycle * k = ap (total rates) (sym same) ∙ total_cycles rates k ∙ product in
    let parts : cycle * k + tokens % cycle ≡ tokens = div-add-mod tokens cycle in
    let fits : total rates (k * phases) ≤ tokens = omega arith in
    let below : k * phases < before = elim (less_or_not (k * phases) before) [
      | inl lt ↦ lt
      | inr ge ↦ let more = total_mono rates before (k * phases) ge in absurd (omega arith)
    ] in
    let phased : 0 < phases = some_phase rates phases len positive in
    let product2 : k * 1 ≤ k * phases = mul-le-mul_left k phased in
    let grown : k ≤ k * phases = omega arith in
    record { some = some; below = below; few = omega arith; fits = fits }
  where
    some_phase : (rates : List ℕ) (phases : ℕ) → phases ≡ length rates → 1 ≤ total rates (length rates) → 0 < phases
    some_phase [] phases len positive = absurd (omega arith)
    some_phase (x ∷ rates) phases len positive = omega arith

-- one firing more would move too many
pub most_at : (rates : List ℕ) (tokens before n : ℕ) → n ≤ before → total rates n ≤ tokens → tokens < total rates (n + 1) → IsMostMoved rates tokens before n
most_at rates tokens before n le fits over = record {
  within = le;
  fits = fits;
  greatest = λ m below enough. elim (less_or_not n m) [
    | inl lt ↦ let more = total_mono rates (n + 1) m (omega arith) in absurd (omega arith)
    | inr ge ↦ ge
  ];
}

pub most_all : (rates : List ℕ) (tokens before : ℕ) → total rates before ≤ tokens → IsMostMoved rates tokens before before
most_all rates tokens before fits = record { within = omega arith; fits = fits; greatest = λ m below enough. below }

-- ---- what an actor gives

given_to_mono : (a n m : ℕ) (c : Channel) → n ≤ m → given_to a n c ≤ given_to a m c
given_to_mono a n m c le = by (c.from == a)
  where
    by : (b : Bool) → cond b (produced c n) 0 ≤ cond b (produced c m) 0
    by true = total_mono c.produce n m le
    by false = omega arith

pub given_mono : (channels : List Channel) (a n m : ℕ) → n ≤ m → given_by channels a n ≤ given_by channels a m
given_mono [] a n m le = omega arith
given_mono (c ∷ channels) a n m le =
    let here = given_to_mono a n m c le in
    let rest = given_mono channels a n m le in
    omega (arith, sum_by-cons (given_to a n) c channels, sum_by-cons (given_to a m) c channels)

pub given_none : (channels : List Channel) (a : ℕ) → given_by channels a 0 ≡ 0
given_none [] a = refl
given_none (c ∷ channels) a =
    let here : given_to a 0 c ≡ 0 = by (c.from == a) in
    let rest = given_none channels a in
    omega (arith, sum_by-cons (given_to a 0) c channels)
  where
    by : (b : Bool) → ◌≡◌ {A = ℕ} (cond b 0 0) 0
    by true = refl
    by false = refl

given_to_within : (a n : ℕ) (c : Channel) → AreFewRates c.produce → given_to a n c ≤ n * 64
given_to_within a n c few = by (c.from == a)
  where
    by : (b : Bool) → cond b (produced c n) 0 ≤ n * 64
    by true = total_within c.produce n few.are.small
    by false = omega arith

pub given_within : (channels : List Channel) (a n : ℕ) → HaveFewRates channels → given_by channels a n ≤ length channels * (n * 64)
given_within [] a n few = omega arith
given_within (c ∷ channels) a n few =
    let here = given_to_within a n c (All-head (λ (d : Channel). AreFewRates d.produce) c channels few) in
    let rest = given_within channels a n (All-tail (λ (d : Channel). AreFewRates d.produce) c channels few) in
    omega (arith, sum_by-cons (given_to a n) c channels)

pub given_small : (channels : List Channel) (a n : ℕ) → HaveFewRates channels → length channels ≤ 128 → given_by channels a n ≤ 128 * (n * 64)
given_small channels a n few le =
    let all = given_within channels a n few in
    let more : length channels * (n * 64) ≤ 128 * (n * 64) = mul-le-mul le (let same : n * 64 ≤ n * 64 = omega arith in same) in
    omega arith

-- the channel at a place, and those behind it
pub given_next : (channels : List ChannelCode) (a n i : ℕ) (x : ChannelCode) → i < length channels → x ≡ slice_index_or channels i x
    → given_by (map channel_view (drop i channels)) a n ≡ given_to a n (channel_view x) + given_by (map channel_view (drop (i + 1) channels)) a n
given_next channels a n i x lt is =
    let e : drop i channels ≡ x ∷ drop (i + 1) channels = rw add-one (drop-cons channels i x lt ∙ ap (λ (y : ChannelCode). y ∷ drop (suc i) channels) (sym is)) in
    ap (λ (cs : List ChannelCode). given_by (map channel_view cs) a n) e
    ∙ sum_by-cons (given_to a n) (channel_view x) (map channel_view (drop (i + 1) channels))

-- ---- one actor's number is lowered

pub lowered_within : (rates : List ℕ) (tokens a : ℕ) (old new : List ℕ) → IsLoweredTo rates tokens a old new → IsWithinAll new old
lowered_within rates tokens a old new is b = elim (eqb_tells b a) [
  | inl e ↦ subst (λ k. get_or new k 0 ≤ get_or old k 0) (sym e.1) is.most.within
  | inr e ↦ let same : get_or new b 0 ≡ get_or old b 0 = ap (λ xs. get_or xs b 0) is.value ∙ get_or-set_other old a b (get_or new a 0) 0 e.1 in omega arith
]

pub lowered_kept : (rates : List ℕ) (tokens a : ℕ) (old new n : List ℕ) → IsLoweredTo rates tokens a old new → IsWithinAll n old
    → total rates (get_or n a 0) ≤ tokens → IsWithinAll n new
lowered_kept rates tokens a old new n is within fits b = elim (eqb_tells b a) [
  | inl e ↦ subst (λ k. get_or n k 0 ≤ get_or new k 0) (sym e.1) (is.most.greatest (get_or n a 0) (within a) fits)
  | inr e ↦
      let same : get_or new b 0 ≡ get_or old b 0 = ap (λ xs. get_or xs b 0) is.value ∙ get_or-set_other old a b (get_or new a 0) 0 e.1 in
      let h = within b in omega arith
]

pub lowered_same : (rates : List ℕ) (tokens a : ℕ) (old new : List ℕ) → IsLoweredTo rates tokens a old new → nat_lt (get_or new a 0) (get_or old a 0) ≡ false
    → new ≡ old
lowered_same rates tokens a old new is none =
    let ge = ltb-false (get_or new a 0) (get_or old a 0) none in
    let le = is.most.within in
    let e : get_or new a 0 ≡ get_or old a 0 = omega arith in
    is.value ∙ ap (set old a) e ∙ set-get_or old a 0

pub lowered_long : (rates : List ℕ) (tokens a : ℕ) (old new : List ℕ) → IsLoweredTo rates tokens a old new → length new ≡ length old
lowered_long rates tokens a old new is = ap length is.value ∙ length-set old a (get_or new a 0)

pub lowered_sum : (rates : List ℕ) (tokens a : ℕ) (old new : List ℕ) → a < length old → IsLoweredTo rates tokens a old new
    → sum new + get_or old a 0 ≡ sum old + get_or new a 0
lowered_sum rates tokens a old new lt is =
    let e : sum new ≡ sum (set old a (get_or new a 0)) = ap sum is.value in
    omega (arith, sum_by-set (λ x. x) old a (get_or new a 0) 0 lt)

-- ---- both ends of a channel

pub record IsLessened (capacity : ℕ) (c : Channel) (old mid new : List ℕ) : Type 0 where
  pub takes : IsLoweredTo c.consume (length c.initial + produced c (get_or old c.from 0)) c.to old mid
  pub gives : IsLoweredTo c.produce (capacity - length c.initial + consumed c (get_or mid c.to 0)) c.from mid new

lowered_as : (rates rates2 : List ℕ) (tokens tokens2 a : ℕ) (old new : List ℕ) → rates ≡ rates2 → tokens ≡ tokens2 → IsLoweredTo rates tokens a old new
    → IsLoweredTo rates2 tokens2 a old new
lowered_as rates rates2 tokens tokens2 a old new r t is = subst (λ rs. IsLoweredTo rs tokens2 a old new) r (subst (λ k. IsLoweredTo rates k a old new) t is)

pub lessened_as : (capacity : ℕ) (c : Channel) (old mid new takes gives : List ℕ) (there room : ℕ) → takes ≡ c.consume → gives ≡ c.produce
    → there ≡ length c.initial + produced c (get_or old c.from 0) → room ≡ capacity - length c.initial + consumed c (get_or mid c.to 0)
    → IsLoweredTo takes there c.to old mid → IsLoweredTo gives room c.from mid new → IsLessened capacity c old mid new
lessened_as capacity c old mid new takes gives there room t g e f one two = record {
  takes = lowered_as takes c.consume there (length c.initial + produced c (get_or old c.from 0)) c.to old mid t e one;
  gives = lowered_as gives c.produce room (capacity - length c.initial + consumed c (get_or mid c.to 0)) c.from mid new g f two;
}

-- no sum is too great
pub there_small : (n capacity : ℕ) (c : Channel) (k : ℕ) → IsHeld n capacity c → k < 4294967296 → length c.initial + produced c k < 2 ^ 64
there_small n capacity c k held few =
    let put = total_within c.produce k held.produce.are.small in
    let initial = held.initial in
    let small = held.small in
    omega arith

pub room_small : (n capacity : ℕ) (c : Channel) (k : ℕ) → IsHeld n capacity c → k < 4294967296 → capacity - length c.initial + consumed c k < 2 ^ 64
room_small n capacity c k held few =
    let taken = total_within c.consume k held.consume.are.small in
    let small = held.small in
    omega arith

module _ (capacity : ℕ) (c : Channel) (old mid new : List ℕ) (held : IsHeld (length old) capacity c) (is : IsLessened capacity c old mid new) where
  pub ends_within : IsWithinAll new old
  ends_within b =
      let one = lowered_within _ _ c.to old mid is.takes b in
      let two = lowered_within _ _ c.from mid new is.gives b in
      omega arith

  pub ends_kept : (n : List ℕ) → FitsChannel capacity n c → IsWithinAll n old → IsWithinAll n new
  ends_kept n fits within =
      let put : produced c (get_or n c.from 0) ≤ produced c (get_or old c.from 0) = total_mono c.produce (get_or n c.from 0) (get_or old c.from 0) (within c.from) in
      let there = fits.there in
      let first : IsWithinAll n mid = lowered_kept _ _ c.to old mid n is.takes within (omega arith) in
      let taken : consumed c (get_or n c.to 0) ≤ consumed c (get_or mid c.to 0) = total_mono c.consume (get_or n c.to 0) (get_or mid c.to 0) (first c.to) in
      let room = fits.room in
      let initial = held.initial in
      lowered_kept _ _ c.from mid new n is.gives first (omega arith)

  pub ends_lower : (takes gives : Bool) → takes ≡ nat_lt (get_or mid c.to 0) (get_or old c.to 0) → gives ≡ nat_lt (get_or new c.from 0) (get_or mid c.from 0)
      → (takes || gives) ≡ true → sum new < sum old
  ends_lower takes gives t g either =
      let long = lowered_long _ _ c.to old mid is.takes in
      let to = held.to in
      let from : c.from < length mid = (let h = held.from in omega arith) in
      let one = lowered_sum _ _ c.to old mid to is.takes in
      let two = lowered_sum _ _ c.from mid new from is.gives in
      let le1 = is.takes.most.within in
      let le2 = is.gives.most.within in
      by takes gives (λ e. ltb-true _ _ (sym t ∙ e)) (λ e. ltb-true _ _ (sym g ∙ e)) either one two le1 le2
    where
      by : (x y : Bool) → (x ≡ true → get_or mid c.to 0 < get_or old c.to 0) → (y ≡ true → get_or new c.from 0 < get_or mid c.from 0) → (x || y) ≡ true
          → sum mid + get_or old c.to 0 ≡ sum old + get_or mid c.to 0 → sum new + get_or mid c.from 0 ≡ sum mid + get_or new c.from 0
          → get_or mid c.to 0 ≤ get_or old c.to 0 → get_or new c.from 0 ≤ get_or mid c.from 0 → sum new < sum old
      by true y f s either one two le1 le2 = let lt = f refl in omega arith
      by false true f s either one two le1 le2 = let lt = s refl in omega arith
      by false false f s either one two le1 le2 = absurd (false≢true either)

  pub ends_same : (takes gives : Bool) → takes ≡ nat_lt (get_or mid c.to 0) (get_or old c.to 0) → gives ≡ nat_lt (get_or new c.from 0) (get_or mid c.from 0)
      → (takes || gives) ≡ false → (mid ≡ old) × (new ≡ mid)
  ends_same takes gives t g neither = by takes gives t g neither
    where
      by : (x y : Bool) → x ≡ nat_lt (get_or mid c.to 0) (get_or old c.to 0) → y ≡ nat_lt (get_or new c.from 0) (get_or mid c.from 0) → (x || y) ≡ false
          → (mid ≡ old) × (new ≡ mid)
      by true y p q neither = absurd (false≢true (sym neither))
      by false true p q neither = absurd (false≢true (sym neither))
      by false false p q neither = (lowered_same _ _ c.to old mid is.takes (sym p), lowered_same _ _ c.from mid new is.gives (sym q))

  pub ends_fit : (mid ≡ old) × (new ≡ mid) → FitsChannel capacity new c
  ends_fit same =
      let a : get_or new c.from 0 ≡ get_or old c.from 0 = ap (λ xs. get_or xs c.from 0) (same.1 ∙ same.0) in
      let b : get_or new c.to 0 ≡ get_or mid c.to 0 = ap (λ xs. get_or xs c.to 0) same.1 in
      let taken : consumed c (get_or new c.to 0) ≡ consumed c (get_or mid c.to 0) = ap (consumed c) b in
      let put : produced c (get_or new c.from 0) ≡ produced c (get_or old c.from 0) = ap (produced c) a in
      let one = is.takes.most.fits in
      let two = is.gives.most.fits in
      let initial = held.initial in
      record { there = omega arith; room = omega arith }

-- ---- all channels

-- numbers of one actor
pub alone_other : (a : Accepted) (periods : ℕ) (tokens : List ℕ) (actor most : ℕ) → is_source_at a.graph.actors actor ≡ false
    → most ≡ periods * get_or a.q actor 0 → IsMostAlone a periods tokens actor most
alone_other a periods tokens actor most none is = record {
  fits = record { within = omega arith; supplied = λ source. absurd (false≢true (sym none ∙ source)) };
  greatest = λ n f. (let le = f.within in omega arith);
}

pub alone_source : (a : Accepted) (periods : ℕ) (tokens : List ℕ) (actor supply before most : ℕ) → is_source_at a.graph.actors actor ≡ true
    → before ≡ periods * get_or a.q actor 0 → supply ≡ get_or tokens actor 0 → IsMostGiven a.graph.channels actor supply before most
    → IsMostAlone a periods tokens actor most
alone_source a periods tokens actor supply before most source is has given = record {
  fits = record { within = (let le = given.within in omega arith); supplied = λ _. (let le = given.fits in omega arith) };
  greatest = λ n f. given.greatest n (let le = f.within in omega arith) (let le = f.supplied source in omega arith);
}

-- what an actor fires in the periods, by a number of the vector
pub in_periods : (a : Accepted) (periods actor x : ℕ) (q : List ℕ) → IsAccepted a → actor < length a.graph.actors → q ≡ a.q → x ≡ get_or q actor x
    → periods * x ≡ periods * get_or a.q actor 0
in_periods a periods actor x q ok lt same is =
    let long = ok.repetition.firings.each_actor in
    let e = ap length same in
    ap (λ n. periods * n) (is ∙ get_or_default q actor x 0 (omega arith) ∙ ap (λ ks. get_or ks actor 0) same)

-- a channel as it lies in memory
pub placed_at : (channels : List ChannelCode) (i : ℕ) (x : ChannelCode) → i < length channels → x ≡ slice_index_or channels i x
    → slice_get (map channel_view channels) i ≡ Some (channel_view x)
placed_at channels i x lt is =
    let len = length-map channels channel_view in
    slice_get-get_or (map channel_view channels) i (channel_view x) (omega (arith, len)) ∙ ap (λ (c : Channel). Some c) (channel_at channels i x is)

-- whether an actor as it lies in memory is a source
pub source_here : (actors : List ActorCode) (all : List Actor) (i : ℕ) (x : ActorCode) → map actor_view actors ≡ all → i < length all → x ≡ slice_index_or actors i x
    → is_source_at all i ≡ is_source_kernel x.kernel
source_here actors all i x same lt is =
    let len : length actors ≡ length all = sym (length-map actors actor_view) ∙ ap length same in
    ap (λ (rows : List Actor). is_source_at rows i) (sym same) ∙ by actors i (omega arith) is
  where
    by : (xs : List ActorCode) (j : ℕ) → j < length xs → x ≡ slice_index_or xs j x → is_source_at (map actor_view xs) j ≡ is_source_kernel x.kernel
    by [] j lt e = absurd (omega arith)
    by (y ∷ xs) zero lt e = ap (λ (z : ActorCode). is_source_kernel z.kernel) (sym e)
    by (y ∷ xs) (suc j) lt e = by xs j (omega arith) e

-- what each channel of an accepted graph is
pub held_of : (a : Accepted) → IsAccepted a → AreHeldIn (length a.graph.actors) a.graph.channels a.capacities
held_of a ok i c is =
    let own : IsChannel a.graph.actors c = at (IsChannel a.graph.actors) a.graph.channels i c ok.well_formed.fitting.channels is in
    let here = slice_get_within a.graph.channels i c is in
    let long = ok.least.completes.each_channel in
    let small : get_or a.capacities i 0 ≤ 65535 = All-get_or (λ b. b ≤ 65535) a.capacities i 0 (omega arith) ok.small in
    record {
      from = own.from;
      to = own.to;
      produce = few (phases_of a.graph.actors c.from) c.produce own.produce (phases_within a.graph.actors c.from ok.well_formed.fitting.actors);
      consume = few (phases_of a.graph.actors c.to) c.consume own.consume (phases_within a.graph.actors c.to ok.well_formed.fitting.actors);
      initial = ok.least.completes.initial i c is;
      small = small;
    }
  where
    few : (phases : ℕ) (rates : List ℕ) → AreRates phases rates → phases ≤ 16 → AreFewRates rates
    few phases rates are le = record { are = record { each_phase = refl; small = are.small; some = are.some }; few = (let e = are.each_phase in omega arith) }

-- after the channels before number i
pub record AreLessened (channels : List Channel) (capacities old new : List ℕ) (i : ℕ) (is_lower : Bool) : Type 0 where
  pub long : length new ≡ length old
  pub within : IsWithinAll new old
  pub kept : (n : List ℕ) → FitsChannels channels capacities n → IsWithinAll n old → IsWithinAll n new
  pub lower : is_lower ≡ true → sum new < sum old
  pub same : is_lower ≡ false → new ≡ old
  pub fits : is_lower ≡ false → (j : ℕ) (c : Channel) → j < i → slice_get channels j ≡ Some c → FitsChannel (get_or capacities j 0) new c

pub lessened_none : (channels : List Channel) (capacities old : List ℕ) → AreLessened channels capacities old old 0 false
lessened_none channels capacities old = record {
  long = refl;
  within = λ b. omega arith;
  kept = λ n fits within. within;
  lower = λ e. absurd (false≢true e);
  same = λ _. refl;
  fits = λ _ j c lt is. absurd (omega (arith, lt));
}

-- what one channel does
pub record IsHereLessened (capacity : ℕ) (c : Channel) (old new : List ℕ) (is_lower : Bool) : Type 0 where
  pub long : length new ≡ length old
  pub within : IsWithinAll new old
  pub kept : (n : List ℕ) → FitsChannel capacity n c → IsWithinAll n old → IsWithinAll n new
  pub lower : is_lower ≡ true → sum new < sum old
  pub same : is_lower ≡ false → new ≡ old
  pub fits : is_lower ≡ false → FitsChannel capacity new c

pub lessened_more : (channels : List Channel) (capacities old mid new : List ℕ) (i : ℕ) (before here : Bool) (c : Channel) → slice_get channels i ≡ Some c
    → AreLessened channels capacities old mid i before → IsHereLessened (get_or capacities i 0) c mid new here
    → AreLessened channels capacities old new (i + 1) (before || here)
lessened_more channels capacities old mid new i before here c at_i a h = record {
  long = h.long ∙ a.long;
  within = λ b. (let one = a.within b in let two = h.within b in omega arith);
  kept = λ n fits within. h.kept n (fits i c at_i) (a.kept n fits within);
  lower = sums before here a.lower a.same h.lower h.same;
  same = sames before here a.same h.same;
  fits = fit before here a.fits h.same h.fits;
}
  where
    sums : (x y : Bool) → (x ≡ true → sum mid < sum old) → (x ≡ false → mid ≡ old) → (y ≡ true → sum new < sum mid) → (y ≡ false → new ≡ mid)
        → (x || y) ≡ true → sum new < sum old
    sums true true f e g k either = let one = f refl in let two = g refl in omega arith
    sums true false f e g k either = let one = f refl in let two = ap sum (k refl) in omega arith
    sums false true f e g k either = let one = ap sum (e refl) in let two = g refl in omega arith
    sums false false f e g k either = absurd (false≢true either)

    sames : (x y : Bool) → (x ≡ false → mid ≡ old) → (y ≡ false → new ≡ mid) → (x || y) ≡ false → new ≡ old
    sames true y e k neither = absurd (false≢true (sym neither))
    sames false true e k neither = absurd (false≢true (sym neither))
    sames false false e k neither = k refl ∙ e refl

    fit : (x y : Bool) → (x ≡ false → (j : ℕ) (d : Channel) → j < i → slice_get channels j ≡ Some d → FitsChannel (get_or capacities j 0) mid d)
        → (y ≡ false → new ≡ mid) → (y ≡ false → FitsChannel (get_or capacities i 0) new c) → (x || y) ≡ false
        → (j : ℕ) (d : Channel) → j < i + 1 → slice_get channels j ≡ Some d → FitsChannel (get_or capacities j 0) new d
    fit true y f k g neither j d lt is = absurd (false≢true (sym neither))
    fit false true f k g neither j d lt is = absurd (false≢true (sym neither))
    fit false false f k g neither j d lt is = elim (eqb_tells j i) [
      | inl e ↦
          let same : c ≡ d = (let there : slice_get channels i ≡ Some d = ap (slice_get channels) (sym e.1) ∙ is in cc) in
          subst (λ m. FitsChannel (get_or capacities m 0) new d) (sym e.1) (subst (FitsChannel (get_or capacities i 0) new) same (g refl))
      | inr e ↦ subst (λ xs. FitsChannel (get_or capacities j 0) xs d) (sym (k refl)) (f refl j d (let ne = e.1 in omega arith) is)
    ]

-- ---- the greatest counts that fit

-- lowered from those of each actor by itself until each channel allows them
pub most_of : (a : Accepted) (periods : ℕ) (tokens own most : List ℕ) → AreMostAlone a periods tokens own → length most ≡ length own → IsWithinAll most own
    → ((n : List ℕ) → FitsChannels a.graph.channels a.capacities n → IsWithinAll n own → IsWithinAll n most)
    → FitsChannels a.graph.channels a.capacities most → AreMost a periods tokens most
most_of a periods tokens own most alone long within kept fits = record {
  fitting = record {
    each_actor = long ∙ alone.each_actor;
    actors = λ b lt.
        (let bound = (alone.each b (let e = alone.each_actor in omega arith)).fits in
        let le = within b in
        record {
          within = (let w = bound.within in omega arith);
          supplied = λ source.
              (let has = bound.supplied source in
              let less = given_mono a.graph.channels b (get_or most b 0) (get_or own b 0) le in
              omega arith);
        });
    channels = fits;
  };
  greatest = λ n fitting. kept n fitting.channels (λ b. elim (less_or_not b (length own)) [
    | inl lt ↦ (alone.each b lt).greatest (get_or n b 0) (fitting.actors b (let e = alone.each_actor in omega arith))
    | inr ge ↦
        let past : get_or n b 0 ≡ 0 = get_or_past n b 0 (let e = alone.each_actor in let f = fitting.each_actor in omega arith) in
        omega arith
  ]);
}

-- the same, as the numbers lie in memory
pub most_in : (a : Accepted) (periods : ℕ) (tokens own old new capacities : List ℕ) (channels : List Channel) (len : ℕ) → AreMostAlone a periods tokens own
    → old ≡ own → channels ≡ a.graph.channels → capacities ≡ a.capacities → len ≡ length own → length new ≡ length old → IsWithinAll new old
    → ((n : List ℕ) → FitsChannels channels capacities n → IsWithinAll n old → IsWithinAll n new) → FitsChannels channels capacities new
    → AreMost a periods tokens (take len (new ++ drop (length new) own))
most_in a periods tokens own old new capacities channels len alone same cs bs counted long within kept fits =
    let whole : take len (new ++ drop (length new) own) ≡ new = take-append-le len new (drop (length new) own) (let e = ap length same in omega arith)
    ∙ take_all len new (let e = ap length same in omega arith) in
    subst (AreMost a periods tokens) (sym whole)
    (most_of a periods tokens own new alone (long ∙ ap length same) (subst (IsWithinAll new) same within)
    (λ n f le. kept n (subst (λ ks. FitsChannels channels ks n) (sym bs) (subst (λ ds. FitsChannels ds a.capacities n) (sym cs) f))
    (subst (IsWithinAll n) (sym same) le))
    (subst (λ ds. FitsChannels ds a.capacities new) cs (subst (λ ks. FitsChannels channels ks new) bs fits)))

-- and the channels that they are lowered by
pub held_in : (a : Accepted) (periods n : ℕ) (tokens own old capacities : List ℕ) (channels : List Channel) → IsAccepted a → AreMostAlone a periods tokens own
    → old ≡ own → channels ≡ a.graph.channels → capacities ≡ a.capacities → n ≡ length old → AreHeldIn n channels capacities
held_in a periods n tokens own old capacities channels ok alone same cs bs long =
    subst (λ k. AreHeldIn k channels capacities) (sym (long ∙ ap length same ∙ alone.each_actor))
    (subst (λ ks. AreHeldIn (length a.graph.actors) channels ks) (sym bs)
    (subst (λ ds. AreHeldIn (length a.graph.actors) ds a.capacities) (sym cs) (held_of a ok)))
