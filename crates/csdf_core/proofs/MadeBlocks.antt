-- Firings of an actor that takes no more of its outputs than it gives to them: what they come to, and their tokens moved channel by channel.
use Rattle.std.proofs.Common.{◌≡◌, ◌≢◌, ℕ, zero, suc, ◌+◌, ◌<◌, ◌≤◌, ◌==◌, cond, Bool, max, inl, inr, List, [], ◌++◌, length, get_or, set, take, drop}
use Rattle.std.proofs.Common.{refl, ap, subst, ◌∙◌, sym, arith, set-set, get_or-set_same, append-nil, append_assoc}
use Rattle.std.specs.Prelude.{ℤ, sum_by}
use Rattle.std.proofs.lemmas.Bool.{eq-eqb, ne_eqb}
use Rattle.std.proofs.lemmas.Bool.Decides.{eqb_tells}
use Rattle.std.proofs.lemmas.List.{set-get_or, drop-append-le, length-take-le, length-drop, length-append, length-map, ext_get_or}
use Rattle.csdf_pool.specs.Pool.{Shared, IsPartition, held_tokens}
use Rattle.csdf_core.specs.Blocks.{gifts_of, takes_at, firings_of, AreAccepted, answers_to, GivesBack}
use Rattle.csdf_core.specs.Engine.{gives_to}
use Rattle.csdf_core.specs.Passing.{takes_apart, passed, after_block}
use Rattle.csdf_core.specs.Plan.{Plan, Channel, from_at, to_at}
use Rattle.csdf_core.specs.Ports.{inputs_at, outputs_at, own_take_at, tokens_at, tokens_in, takes_over, EnoughOver, raise_over}
use Rattle.csdf_core.specs.Rows.{gift, left, shares}
use Rattle.csdf_core.specs.Shows.{Plays, AreSharedOut, raised}
use Rattle.csdf_core.specs.Step.{count}
use Rattle.csdf_core.proofs.BlockMachines.{Machine, IsGood, view}
use Rattle.csdf_core.proofs.BlockMoves.{machine_same}
use Rattle.csdf_core.proofs.BlockPorts.{both, each, peak_at}
use Rattle.csdf_core.proofs.BlockTokens.{drop_sum, left_at, length-left}
use Rattle.csdf_core.proofs.Finds.{took}
use Rattle.csdf_core.proofs.FiringMoves.{IsFired, fired1, fired4, is_fired, plays_fired}
use Rattle.csdf_core.proofs.Kept.{begins, reads}
use Rattle.csdf_core.proofs.Known.{IsKnown, known}
use Rattle.csdf_core.proofs.Lanes.{own_give_none, shares_at, there_at, raised_past, high_elsewhere}
use Rattle.csdf_core.proofs.OtherCells.{sound_elsewhere, plays_elsewhere}
use Rattle.csdf_core.proofs.OwnChannels.{ins_there, ins_own, outs_own}
use Rattle.csdf_core.proofs.Passing.{length-changed, changed_other, changed_own, takes_changed, enough_apart}
use Rattle.csdf_core.proofs.Peaceful.{peaks_stay}
use Rattle.csdf_core.proofs.PortLemmas.{raise_all}
use Rattle.csdf_core.proofs.Presents.{present_same}
use Rattle.csdf_core.proofs.Ready.{are_there}
use Rattle.csdf_core.proofs.Runs.{plays_none}
use Rattle.csdf_core.proofs.Shares.{length-share, length-gives, none_given, takes_took, took_none, took_gave, back_took}

-- the state after n firings: each channel has what it held and what they gave to it, without what they took of it
pub record IsMade (plan : Plan) (a k n : ℕ) (v : List ℤ) (m new : Machine) : Type 0 where
  pub counts : new.now.counts ≡ set m.now.counts a (k + n)
  pub stages : new.now.stages ≡ m.now.stages
  pub opens : new.now.opens ≡ m.now.opens
  pub sums_are : new.sums ≡ set m.sums a (get_or m.sums a 0 + gifts_of plan.channels a k n)
  pub started : new.started ≡ m.started + n
  pub kept : new.kept ≡ m.kept
  pub tokens : (c : ℕ) → c < length plan.channels
      → tokens_at new.now.tokens c ≡ drop (took plan.channels a k n c) (tokens_at m.now.tokens c ++ gives_to plan.channels a c k n v)
  pub peaks : new.peaks ≡ raised m.peaks new.now.tokens
  pub good : IsGood plan new
  pub plays : Plays (view plan m) (view plan new) (firings_of plan.channels a k n v) (answers_to plan m.now (firings_of plan.channels a k n v))

module _ (plan : Plan) (a : ℕ) (few : (k : ℕ) → gift a k plan.channels ≤ 8192) (back : GivesBack plan.channels a) where
  abbrev cs : List Channel
  cs = plan.channels

  module _ (n : ℕ) (v : List ℤ) (m new : Machine) (good : IsGood plan m) (there : a < length plan.sources)
      (s : IsFired plan a m (take (gift a (count m.now a) cs) v)) (len1 : length (take (gift a (count m.now a) cs) v) ≡ gift a (count m.now a) cs)
      (lenw : length (drop (gift a (count m.now a) cs) v) ≡ gifts_of cs a (suc (count m.now a)) n)
      (b : IsMade plan a (suc (count m.now a)) n (drop (gift a (count m.now a) cs) v) (fired4 plan a m (take (gift a (count m.now a) cs) v)) new) where
    abbrev k : ℕ
    k = count m.now a

    abbrev g : ℕ
    g = gift a k cs

    abbrev v1 : List ℤ
    v1 = take g v

    abbrev w : List ℤ
    w = drop g v

    abbrev n4 : Machine
    n4 = fired4 plan a m v1

    queued : length m.now.tokens ≡ length cs
    queued = good.sound.fit.queued

    has : (c : ℕ) → c < length cs → own_take_at cs a k c ≤ length (tokens_at m.now.tokens c)
    has c lt =
        there_at a k cs m.now.tokens c queued lt
        (are_there (fired1 plan a m v1).now a cs m.now.tokens (reads plan (fired1 plan a m v1).now a s.none2).at s.good1.sound.fit.ready)

    -- one channel after the first of them
    tokens4 : (c : ℕ) → c < length cs → tokens_at n4.now.tokens c ≡ drop (own_take_at cs a k c) (tokens_at m.now.tokens c) ++ tokens_at (shares a k cs v1) c
    tokens4 c lt =
        shares_at a k cs (left a k cs m.now.tokens) v1 c (length-left a k cs m.now.tokens queued) lt
        ∙ ap (λ (x : List ℤ). x ++ tokens_at (shares a k cs v1) c) (left_at a k cs m.now.tokens c queued lt)

    -- no peak after it is passed: an output grows from then on, and no other channel has grown
    low : (c : ℕ) → c < length cs → length (tokens_at n4.now.tokens c) ≤ max (get_or m.peaks c 0) (length (tokens_at new.now.tokens c))
    low c lt = elim (eqb_tells (from_at cs c) a) [
      | inl from ↦
          (let e = ap length (b.tokens c lt) in
          let d = length-drop (took cs a (suc k) n c) (tokens_at n4.now.tokens c ++ gives_to cs a c (suc k) n w) in
          let l = length-append (tokens_at n4.now.tokens c) (gives_to cs a c (suc k) n w) in
          let gains = length-gives cs a c lt (suc k) n w lenw in
          let less = took_gave cs a c back lt from.1 (suc k) n in
          omega (arith, e, d, l, gains, less))
      | inr from ↦
          (let top = peak_at m.peaks m.now.tokens c good.sound.high (let p = good.sound.peaked in omega (arith, p, lt)) in
          let e = ap length (tokens4 c lt) in
          let l = length-append (drop (own_take_at cs a k c) (tokens_at m.now.tokens c)) (tokens_at (shares a k cs v1) c) in
          let none = length-share cs a c lt k v1 (omega (arith, len1)) in
          let nothing = own_give_none a k cs c from.1 in
          let rest = length-drop (own_take_at cs a k c) (tokens_at m.now.tokens c) in
          omega (arith, top, e, l, none, nothing, rest))
    ]

    made_step : IsMade plan a k (suc n) v m new
    made_step =
        let summed : a < length m.sums = (let t = good.sound.tallied in omega (arith, t, there)) in
        record {
          counts = b.counts ∙ set-set m.now.counts a (suc k) (suc k + n) ∙ ap (set m.now.counts a) (let e : suc k + n ≡ k + suc n = omega arith in e);
          stages = b.stages ∙ s.stages;
          opens = b.opens;
          sums_are = b.sums_are ∙ set-set m.sums a (get_or m.sums a 0 + g) (get_or n4.sums a 0 + gifts_of cs a (suc k) n)
              ∙ ap (set m.sums a) (let e = get_or-set_same m.sums a (get_or m.sums a 0 + g) 0 summed in
              let z : get_or n4.sums a 0 + gifts_of cs a (suc k) n ≡ get_or m.sums a 0 + (g + gifts_of cs a (suc k) n) = omega (arith, e) in z);
          started = (let e = b.started in omega (arith, e));
          kept = b.kept ∙ s.kept;
          tokens = λ c lt.
              let t : List ℤ = tokens_at m.now.tokens c in
              let r : ℕ = own_take_at cs a k c in
              let share : List ℤ = tokens_at (shares a k cs v1) c in
              let later : List ℤ = gives_to cs a c (suc k) n w in
              b.tokens c lt
              ∙ ap (λ (x : List ℤ). drop (took cs a (suc k) n c) (x ++ later)) (tokens4 c lt)
              ∙ ap (drop (took cs a (suc k) n c))
              (append_assoc (drop r t) share later ∙ sym (drop-append-le r t (share ++ later) (has c lt)))
              ∙ sym (drop_sum r (took cs a (suc k) n c) (t ++ (share ++ later)));
          peaks = b.peaks ∙ raised_past m.peaks n4.now.tokens new.now.tokens (s.good4.sound.fit.queued ∙ sym good.sound.peaked)
              (b.good.sound.fit.queued ∙ sym good.sound.peaked)
              (λ c lt. low c (let p = good.sound.peaked in omega (arith, p, lt)));
          good = b.good;
          plays = plays_fired plan a m new v1 _ _ s b.plays;
        }

  pub made : (n : ℕ) (v : List ℤ) (m : Machine) → IsGood plan m → AreAccepted plan m.now (firings_of cs a (count m.now a) n v)
      → length v ≡ gifts_of cs a (count m.now a) n → (new : Machine) × IsMade plan a (count m.now a) n v m new
  made zero v m good acc len = (
    m,
    record {
      counts = sym (ap (set m.now.counts a) (let e : count m.now a + 0 ≡ count m.now a = omega arith in e) ∙ set-get_or m.now.counts a 0);
      stages = refl;
      opens = refl;
      sums_are = sym (ap (set m.sums a) (let e : get_or m.sums a 0 + 0 ≡ get_or m.sums a 0 = omega arith in e) ∙ set-get_or m.sums a 0);
      started = omega arith;
      kept = refl;
      tokens = λ c lt. sym (append-nil (tokens_at m.now.tokens c));
      peaks = sym (peaks_stay plan m.now m.peaks m.sums m.started m.kept m.pool good.sound);
      good = good;
      plays = plays_none (view plan m);
    },
  )
  made (suc n) v m good acc len =
      let k : ℕ = count m.now a in
      let g : ℕ = gift a k cs in
      let v1 : List ℤ = take g v in
      let len1 : length v1 ≡ g = length-take-le g v (omega (arith, len)) in
      let first = begins plan m.now a acc.0 in
      let s : IsFired plan a m v1 = is_fired plan a m v1 good first.there first.idle acc.0 len1 (few k) in
      let n4 : Machine = fired4 plan a m v1 in
      let lenw : length (drop g v) ≡ gifts_of cs a (suc k) n = (let d = length-drop g v in omega (arith, d, len)) in
      let rest : (new : Machine) × IsMade plan a (count n4.now a) n (drop g v) n4 new =
      made n (drop g v) n4 s.good4 (subst (λ (x : ℕ). AreAccepted plan n4.now (firings_of cs a x n (drop g v))) (sym s.number) acc.1.1.1.1)
      (lenw ∙ ap (λ (x : ℕ). gifts_of cs a x n) (sym s.number)) in (
        rest.0,
        made_step n v m rest.0 good first.there s len1 lenw (subst (λ (x : ℕ). IsMade plan a x n (drop g v) n4 rest.0) s.number rest.1),
      )

  -- ---- channel by channel they come to the same
  module _ (n : ℕ) (v : List ℤ) (m new : Machine) (good : IsGood plan m) (acc : AreAccepted plan m.now (firings_of cs a (count m.now a) n v))
      (len : length v ≡ gifts_of cs a (count m.now a) n) (b : IsMade plan a (count m.now a) n v m new) where
    abbrev k1 : ℕ
    k1 = count m.now a

    abbrev ts : List (List ℤ)
    ts = m.now.tokens

    abbrev apart : ℕ → ℕ
    apart = takes_apart cs a k1 n

    abbrev mid : List (List ℤ)
    mid = takes_over apart (inputs_at cs a) ts

    queued_there : length ts ≡ length cs
    queued_there = good.sound.fit.queued

    apart_own : (c : ℕ) → from_at cs c ≡ a → apart c ≡ 0
    apart_own c from = ap (λ (x : Bool). cond x 0 (takes_at cs k1 n c)) (eq-eqb (from_at cs c) a from)

    apart_other : (c : ℕ) → c < length cs → from_at cs c ≢ a → to_at cs c ≡ a → apart c ≡ took cs a k1 n c
    apart_other c lt other to =
        ap (λ (x : Bool). cond x 0 (takes_at cs k1 n c)) (ne_eqb (from_at cs c) a other) ∙ takes_took cs a c lt to k1 n

    no_input : (c : ℕ) → to_at cs c ≢ a → tokens_at mid c ≡ tokens_at ts c
    no_input c other =
        ap (λ (us : List (List ℤ)). tokens_at us c) (takes_changed apart (inputs_at cs a) ts)
        ∙ changed_other (λ d. drop (apart d)) (inputs_at cs a) ts c
        (each (inputs_at cs a) (λ d (is : to_at cs d ≡ a) (e : c ≡ d). other (ap (to_at cs) e ∙ is)) (ins_own cs a))

    input : (c : ℕ) → c < length cs → to_at cs c ≡ a → tokens_at mid c ≡ drop (apart c) (tokens_at ts c)
    input c lt to =
        ap (λ (us : List (List ℤ)). tokens_at us c) (takes_changed apart (inputs_at cs a) ts)
        ∙ changed_own (λ d. drop (apart d)) (λ (x : Channel). x.to) a cs ts c queued_there lt to

    mid_own : (c : ℕ) → c < length cs → from_at cs c ≡ a → tokens_at mid c ≡ tokens_at ts c
    mid_own c lt from = elim (eqb_tells (to_at cs c) a) [
      | inl to ↦ input c lt to.1 ∙ ap (λ (x : ℕ). drop x (tokens_at ts c)) (apart_own c from)
      | inr to ↦ no_input c to.1
    ]

    mid_other : (c : ℕ) → c < length cs → from_at cs c ≢ a → tokens_at mid c ≡ drop (took cs a k1 n c) (tokens_at ts c)
    mid_other c lt other = elim (eqb_tells (to_at cs c) a) [
      | inl to ↦ input c lt to.1 ∙ ap (λ (x : ℕ). drop x (tokens_at ts c)) (apart_other c lt other to.1)
      | inr to ↦ no_input c to.1 ∙ ap (λ (x : ℕ). drop x (tokens_at ts c)) (sym (took_none cs a c to.1 k1 n))
    ]

    length-mid : length mid ≡ length cs
    length-mid = ap length (takes_changed apart (inputs_at cs a) ts) ∙ length-changed (λ d. drop (apart d)) (inputs_at cs a) ts ∙ queued_there

    -- a channel that is no output has what is not taken of it
    new_other : (c : ℕ) → c < length cs → from_at cs c ≢ a → tokens_at new.now.tokens c ≡ drop (took cs a k1 n c) (tokens_at ts c)
    new_other c lt other =
        b.tokens c lt
        ∙ ap (λ (u : List ℤ). drop (took cs a k1 n c) (tokens_at ts c ++ u)) (none_given cs a c lt other k1 n v)
        ∙ ap (drop (took cs a k1 n c)) (append-nil (tokens_at ts c))

    one_channel : (c : ℕ) → c < length cs → tokens_at (after_block cs a k1 n v ts) c ≡ tokens_at new.now.tokens c
    one_channel c lt = elim (eqb_tells (from_at cs c) a) [
      | inl from ↦
          changed_own (passed cs a k1 n v) (λ (x : Channel). x.from) a cs mid c length-mid lt from.1
          ∙ ap (passed cs a k1 n v c) (mid_own c lt from.1)
          ∙ ap (λ (x : ℕ). drop x (tokens_at ts c ++ gives_to cs a c k1 n v)) (back_took cs a c lt k1 n)
          ∙ sym (b.tokens c lt)
      | inr from ↦
          changed_other (passed cs a k1 n v) (outputs_at cs a) mid c
          (each (outputs_at cs a) (λ d (is : from_at cs d ≡ a) (e : c ≡ d). from.1 (ap (from_at cs) e ∙ is)) (outs_own cs a))
          ∙ mid_other c lt from.1
          ∙ sym (new_other c lt from.1)
    ]

    after_is : after_block cs a k1 n v ts ≡ new.now.tokens
    after_is =
        let size : length (after_block cs a k1 n v ts) ≡ length cs = length-changed (passed cs a k1 n v) (outputs_at cs a) mid ∙ length-mid in
        ext_get_or [] (after_block cs a k1 n v ts) new.now.tokens (size ∙ sym b.good.sound.fit.queued)
        (λ c lt. one_channel c (omega (arith, lt, size)))

    -- the inputs that other actors fill have what is taken, and the outputs find room
    pub enough_there : EnoughOver apart (inputs_at cs a) ts
    enough_there =
        let h : IsKnown plan a k1 n v m = known plan a few n v m good acc len in
        enough_apart apart (λ (x : Channel). x.to == a) 0 cs ts
        (both (inputs_at cs a)
        (λ c (lt : c < length cs) (to : to_at cs c ≡ a).
        (let r : apart c ≤ length (tokens_at ts c) = elim (eqb_tells (from_at cs c) a) [
          | inl from ↦ (let z = apart_own c from.1 in omega (arith, z))
          | inr from ↦ (let z = apart_other c lt from.1 to in let o = h.others c lt from.1 in omega (arith, z, o))
        ] in r))
        (ins_there cs a) (ins_own cs a))

    pub room_there : sum_by length (after_block cs a k1 n v ts) ≤ m.pool.size
    room_there =
        let same = ap (sum_by length) after_is in
        let room = b.good.sound.fit.room in
        let size = good.sound.cells.size in
        omega (arith, same, room, size)

    -- ---- where the code lands
    module _ (some : 0 < n) (pool : Shared) (moved : tokens_in pool ≡ after_block cs a k1 n v ts)
        (chained : length pool.chains ≡ length m.pool.chains) (size : pool.size ≡ m.pool.size) (partition : IsPartition pool) where
      tokens_are : tokens_in pool ≡ new.now.tokens
      tokens_are = moved ∙ after_is

      queued_now : length (tokens_in pool) ≡ length cs
      queued_now = length-map pool.chains held_tokens ∙ chained ∙ good.sound.chained

      high : (c : ℕ) → c < length cs → from_at cs c ≢ a → length (tokens_at (tokens_in pool) c) ≤ get_or m.peaks c 0
      high c lt other =
          let now = ap (λ (xs : List (List ℤ)). length (tokens_at xs c)) tokens_are in
          let is = ap length (new_other c lt other) in
          let rest = length-drop (took cs a k1 n c) (tokens_at ts c) in
          let top = peak_at m.peaks ts c good.sound.high (let p = good.sound.peaked in omega (arith, p, lt)) in
          omega (arith, now, is, rest, top)

      peaks_raised : raise_over (outputs_at cs a) (tokens_in pool) m.peaks ≡ raised m.peaks (tokens_in pool)
      peaks_raised =
          raise_all (λ (c : Channel). c.from == a) 0 [] [] cs (tokens_in pool) m.peaks refl refl queued_now good.sound.peaked
          (high_elsewhere a cs m.peaks (tokens_in pool) good.sound.peaked queued_now high)

      module _ (counts tallies peaks : List ℕ) (started : ℕ) (counts_are : counts ≡ set m.now.counts a (k1 + n))
          (tallies_are : tallies ≡ set m.sums a (get_or m.sums a 0 + gifts_of cs a k1 n))
          (started_is : started ≡ m.started + n) (peaks_are : peaks ≡ raise_over (outputs_at cs a) (tokens_in pool) m.peaks) where
        abbrev landed : Shared → Machine
        landed q = record {
          now = record { counts = counts; stages = m.now.stages; opens = m.now.opens; tokens = tokens_in pool };
          peaks = peaks;
          sums = tallies;
          started = started;
          kept = m.kept;
          pool = q;
        }

        is_new : new ≡ landed new.pool
        is_new =
            machine_same new (landed new.pool)
            (present_same new.now (landed new.pool).now (b.counts ∙ sym counts_are) b.stages b.opens (sym tokens_are))
            (b.peaks ∙ ap (raised m.peaks) (sym tokens_are) ∙ sym peaks_raised ∙ sym peaks_are) (b.sums_are ∙ sym tallies_are)
            (b.started ∙ sym started_is) b.kept refl

        shared : AreSharedOut plan pool
        shared = record { size = size ∙ good.sound.cells.size; partition = partition }

        pub good_there : IsGood plan (landed pool)
        good_there = record {
          sound = sound_elsewhere plan (landed new.pool).now peaks tallies started m.kept new.pool pool (subst (IsGood plan) is_new b.good).sound
              (chained ∙ good.sound.chained) shared;
          chains = refl;
        }

        many : (j : ℕ) → 0 < j → 0 < length (firings_of cs a k1 j v)
        many zero lt = absurd (omega arith)
        many (suc j) lt = omega arith

        pub plays_there : Plays (view plan m) (view plan (landed pool)) (firings_of cs a k1 n v) (answers_to plan m.now (firings_of cs a k1 n v))
        plays_there =
            plays_elsewhere (view plan (landed new.pool)) pool refl shared (view plan m) (firings_of cs a k1 n v)
            (answers_to plan m.now (firings_of cs a k1 n v)) (many n some)
            (subst (λ (x : Machine). Plays (view plan m) (view plan x) (firings_of cs a k1 n v) (answers_to plan m.now (firings_of cs a k1 n v))) is_new b.plays)
