-- After whole periods a channel has lost what it was given; and a firing of a later period, by the counts of the first.
use Rattle.std.proofs.Common.{◌≡◌, ℕ, suc, ◌+◌, ◌*◌, ◌<◌, ◌≤◌, ◌==◌, ◌&&◌, nat_lt, cond, inl, inr, List, [], ◌∷◌, length, get_or, map, sum, refl, ap, sym}
use Rattle.std.proofs.Common.{◌∙◌, arith, Bool, true, false, Some, take_all, le-ltb, mul_comm, mul_assoc}
use Rattle.std.specs.Prelude.{sum_by, slice_get, if◌then◌else◌}
use Rattle.std.specs.List.{zip, AllByRecursion}
use Rattle.std.proofs.lemmas.List.Sums.{sum_by-cons}
use Rattle.std.proofs.lemmas.Bool.Decides.{eqb_tells}
use Rattle.csdf_model.specs.Graph as graph
use Rattle.csdf_model.specs.Graph.{phases_of}
use Rattle.csdf_model.specs.Rates.{total, produced, consumed}
use Rattle.csdf_model.specs.WellFormed.{IsChannel}
use Rattle.csdf_model.proofs.RateLemmas.{total_front, total_after, total_cycles}
use Rattle.csdf_analysis.specs.Acceptance.{Accepted, IsAccepted}
use Rattle.csdf_analysis.specs.Period.{CanFire, fired as fired_counts}
use Rattle.csdf_analysis.specs.Repetition.{IsBalanced}
use Rattle.csdf_analysis.proofs.CountLemmas.{total_mono, fired_same, fired_other}
use Rattle.csdf_analysis.proofs.FitLemmas.{at}
use Rattle.csdf_analysis.proofs.PeriodLemmas.{IsFed, able_of}
use Rattle.csdf_core.specs.Plan.{Channel, Plan}
use Rattle.csdf_core.specs.Planned.{with_capacity}
use Rattle.csdf_core.specs.Step.{given}
use Rattle.csdf_core.proofs.Able.{IsAbleAt, later}

-- j periods of n firings more, where a period has len * r firings
shifted : (rates : List ℕ) (len r q j n : ℕ) → length rates ≡ len → q ≡ len * r → total rates (j * q + n) ≡ sum rates * (r * j) + total rates n
shifted rates len r q j n l e =
    let one : j * q ≡ length rates * (r * j) = ap (λ x. j * x) e ∙ mul_comm j (len * r) ∙ mul_assoc len r j ∙ ap (λ x. x * (r * j)) (sym l) in
    let parts = total_after rates (r * j) n in
    let cycles = total_cycles rates (r * j) in
    let whole : total rates (j * q + n) ≡ total rates (length rates * (r * j) + n) = ap (λ x. total rates (x + n)) one in
    omega arith

-- after j periods a channel has lost what it was given
pub record IsPeriodic (q : List ℕ) (c : graph.Channel) : Type 0 where
  pub moved : ℕ → ℕ
  pub put : (j n : ℕ) → produced c (j * get_or q c.from 0 + n) ≡ moved j + produced c n
  pub taken : (j n : ℕ) → consumed c (j * get_or q c.to 0 + n) ≡ moved j + consumed c n

cycle_is : (rates : List ℕ) (len : ℕ) → length rates ≡ len → total rates len ≡ sum rates
cycle_is rates len e = ap (total rates) (sym e) ∙ total_front rates (length rates) (omega arith) ∙ ap sum (take_all (length rates) rates (omega arith))

same_moved : (rf sp rt sc j : ℕ) → rf * sp ≡ rt * sc → sp * (rf * j) ≡ sc * (rt * j)
same_moved rf sp rt sc j e =
    sym (mul_assoc sp rf j) ∙ ap (λ x. x * j) (mul_comm sp rf ∙ e ∙ mul_comm rt sc) ∙ mul_assoc sc rt j

periodic : (actors : List graph.Actor) (r q : List ℕ) (c : graph.Channel) → IsChannel actors c → IsBalanced actors r c
    → get_or q c.from 0 ≡ phases_of actors c.from * get_or r c.from 0 → get_or q c.to 0 ≡ phases_of actors c.to * get_or r c.to 0 → IsPeriodic q c
periodic actors r q c is balanced from to =
    let rf : ℕ = get_or r c.from 0 in
    let rt : ℕ = get_or r c.to 0 in
    let lp : length c.produce ≡ phases_of actors c.from = is.produce.each_phase in
    let lc : length c.consume ≡ phases_of actors c.to = is.consume.each_phase in
    let cycles : rf * sum c.produce ≡ rt * sum c.consume =
    ap (λ x. rf * x) (sym (cycle_is c.produce (phases_of actors c.from) lp)) ∙ balanced ∙ ap (λ x. rt * x) (cycle_is c.consume (phases_of actors c.to) lc) in
    record {
      moved = λ j. sum c.produce * (rf * j);
      put = λ j n. shifted c.produce (phases_of actors c.from) rf (get_or q c.from 0) j n lp from;
      taken = λ j n. shifted c.consume (phases_of actors c.to) rt (get_or q c.to 0) j n lc to
          ∙ ap (λ x. x + total c.consume n) (sym (same_moved rf (sum c.produce) rt (sum c.consume) j cycles));
    }

-- each channel of an accepted graph, by the firings of its vector
pub each_periodic : (a : Accepted) → IsAccepted a → (i : ℕ) (c : graph.Channel) → slice_get a.graph.channels i ≡ Some c → IsPeriodic a.q c
each_periodic a ok i c is =
    let channel = at (IsChannel a.graph.actors) a.graph.channels i c ok.well_formed.fitting.channels is in
    let rep = ok.repetition in
    let len = rep.firings.each_actor in
    periodic a.graph.actors a.r a.q c channel (at (IsBalanced a.graph.actors a.r) a.graph.channels i c rep.least.balances is)
    (rep.firings.firings c.from (let h = channel.from in omega arith)) (rep.firings.firings c.to (let h = channel.to in omega arith))

-- ---- the firings of a later period

-- the counts after j periods and n more
abbrev pub at_period : List ℕ → ℕ → List ℕ → ℕ → ℕ
at_period q j n b = j * get_or q b 0 + get_or n b 0

pub able_row : (channels : List graph.Channel) (q bounds n : List ℕ) (j a i : ℕ) (c : graph.Channel) (b : ℕ) → a < length n → IsPeriodic q c
    → b ≡ get_or bounds i 0 → slice_get channels i ≡ Some c → IsFed channels n → CanFire channels bounds n a
    → IsAbleAt (at_period q j n) (at_period q j n) a (at_period q j n a) (with_capacity (c, b))
able_row channels q bounds n j a i c b lt periodic cap is fed can =
    let able = able_of channels bounds n a fed can in
    let more : suc (at_period q j n a) ≡ j * get_or q a 0 + suc (get_or n a 0) = omega arith in (
      (λ to.
          let enough = able.tokens i c is to in
          let put = periodic.put j (get_or n c.from 0) in
          let taken : consumed c (suc (at_period q j n a)) ≡ periodic.moved j + consumed c (suc (get_or n a 0)) =
          ap (consumed c) (more ∙ ap (λ d. j * get_or q d 0 + suc (get_or n a 0)) (sym to)) ∙ periodic.taken j (suc (get_or n a 0)) in
          omega arith),
      (λ from.
          let room = able.room i c is from in
          let put : produced c (suc (at_period q j n a)) ≡ periodic.moved j + produced c (suc (get_or n a 0)) =
          ap (produced c) (more ∙ ap (λ d. j * get_or q d 0 + suc (get_or n a 0)) (sym from)) ∙ periodic.put j (suc (get_or n a 0)) in
          let count : later (at_period q j n) a (at_period q j n a) c.to ≡ j * get_or q c.to 0 + get_or (fired_counts n a) c.to 0 = elim (eqb_tells c.to a) [
            | inl e ↦
                ap (λ t. cond t (suc (at_period q j n a)) (at_period q j n c.to)) e.0 ∙ more
                ∙ ap (λ d. j * get_or q d 0 + suc (get_or n a 0)) (sym e.1)
                ∙ ap (λ k. j * get_or q c.to 0 + k) (sym (ap (λ d. get_or (fired_counts n a) d 0) e.1 ∙ fired_same n a lt))
            | inr e ↦
                ap (λ t. cond t (suc (at_period q j n a)) (at_period q j n c.to)) e.0 ∙ ap (λ k. j * get_or q c.to 0 + k) (sym (fired_other n a c.to e.1))
          ] in
          let taken : consumed c (later (at_period q j n) a (at_period q j n a) c.to) ≡ periodic.moved j + consumed c (get_or (fired_counts n a) c.to 0) =
          ap (consumed c) count ∙ periodic.taken j (get_or (fired_counts n a) c.to 0) in
          omega arith),
    )

pub able_rows : (P : Channel → Type 0) (gs : List graph.Channel) (caps : List ℕ) → length caps ≡ length gs
    → ((i : ℕ) (c : graph.Channel) → slice_get gs i ≡ Some c → P (with_capacity (c, get_or caps i 0))) → AllByRecursion P (map with_capacity (zip gs caps))
able_rows P [] caps len each = tt
able_rows P (c ∷ gs) [] len each = absurd (omega arith)
able_rows P (c ∷ gs) (b ∷ caps) len each = (each 0 c refl, able_rows P gs caps (omega arith) (λ i d is. each (suc i) d is))

-- ---- the tokens of a file

given_row : (a n m : ℕ) (c : Channel) → n ≤ m → cond (c.from == a) (total c.produce n) 0 ≤ cond (c.from == a) (total c.produce m) 0
given_row a n m c le = by (c.from == a)
  where
    by : (b : Bool) → cond b (total c.produce n) 0 ≤ cond b (total c.produce m) 0
    by true = total_mono c.produce n m le
    by false = omega arith

given_sums : (a n m : ℕ) (cs : List Channel) → n ≤ m
    → sum_by (λ (c : Channel). if c.from == a then total c.produce n else 0) cs ≤ sum_by (λ (c : Channel). if c.from == a then total c.produce m else 0) cs
given_sums a n m [] le = omega arith
given_sums a n m (c ∷ cs) le =
    omega (
      arith,
      sum_by-cons (λ (d : Channel). if d.from == a then total d.produce n else 0) c cs,
      sum_by-cons (λ (d : Channel). if d.from == a then total d.produce m else 0) c cs,
      given_row a n m c le,
      given_sums a n m cs le,
    )

pub given_mono : (plan : Plan) (a n m : ℕ) → n ≤ m → given plan a n ≤ given plan a m
unfolding given
given_mono plan a n m le = given_sums a n m plan.channels le

pub wet_at : (b : Bool) (supply tokens : ℕ) → (b ≡ true → tokens ≤ supply) → (b && nat_lt supply tokens) ≡ false
wet_at true supply tokens h = le-ltb _ _ (h refl)
wet_at false supply tokens h = refl
