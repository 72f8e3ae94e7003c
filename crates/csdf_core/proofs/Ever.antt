-- An accepted graph runs for ever: its schedule is accepted again and again, and each period ends as it began.
use Rattle.std.proofs.Common.{◌≡◌, ℕ, zero, suc, ◌+◌, ◌-◌, ◌*◌, ◌<◌, ◌≤◌, not, cond, inl, inr, List, [], ◌∷◌, ◌++◌, length, take, get_or, map, replicate, sum}
use Rattle.std.proofs.Common.{refl, ap, sym, subst, ◌∙◌, arith, true, false, Option, Some, None, mul-le-mul, suc-mul, append_assoc, length-append, ◌%◌}
use Rattle.std.proofs.Common.{mul_comm, mul_assoc}
use Rattle.std.specs.Prelude.{ℤ, IfSome, slice_index, count_by, sum_by, unwrap_or, All}
use Rattle.std.specs.List.{zip, AllByRecursion}
use Rattle.std.proofs.lemmas.List.Sums.{sum_by-cons}
use Rattle.std.proofs.lemmas.List.Folds.{sum_by-replicate}
use Rattle.std.proofs.lemmas.List.{length-map, length-replicate, length-drop, get_or-set_same}
use Rattle.std.proofs.lemmas.Bool.{lt-leb}
use Rattle.std.proofs.lemmas.Bool.Decides.{eqb_tells}
use Rattle.csdf_model.specs.Graph as graph
use Rattle.csdf_model.specs.Graph.{phases_of}
use Rattle.csdf_model.specs.Kernels.{is_source_kernel}
use Rattle.std.proofs.Math.Nat.{mul-mod_right}
use Rattle.csdf_model.specs.Rates.{total, produced, consumed}
use Rattle.csdf_analysis.specs.Acceptance.{Accepted, IsAccepted, cells_of}
use Rattle.csdf_analysis.specs.Period.{CanFire, IsSchedule, counts_after, fired as fired_counts, no_firings, IsScheduleFrom}
use Rattle.csdf_analysis.proofs.CountLemmas.{fired_length, fired_same, fired_other, fired_sum, none_at, sum_within}
use Rattle.csdf_analysis.proofs.PeriodLemmas.{IsFed, able_of, fed_first, fed_fired, after_more}
use Rattle.csdf_core.specs.declared.stage.Stage.{Stage}
use Rattle.csdf_core.specs.declared.stage.Stage.TheVariants.{Idle, Begun, Fetched, Written}
use Rattle.csdf_core.specs.Moves.{Move}
use Rattle.csdf_core.specs.Moves.{Begin, Read, Write, Finish}
use Rattle.csdf_core.specs.Plan.{Channel, Plan, HasAmpleCells}
use Rattle.csdf_core.specs.Planned.{with_capacity, plan_for}
use Rattle.csdf_core.specs.Rows.{gift}
use Rattle.csdf_core.specs.State.{Stream, State, present, waiting, opening}
use Rattle.csdf_core.specs.Step.{Reply, count, stage, is_stage, given, is_source, is_reached, is_stopped, begun_count, refusal, answer, accepted, after}
use Rattle.csdf_core.specs.Step.{refused, reply_by, replies_of, state_after}
use Rattle.csdf_core.specs.Streams.{part}
use Rattle.csdf_core.proofs.FitLemmas.{IsReached, reached_accepted, within_all}
use Rattle.csdf_core.proofs.Opening.{reached_opening, alike}
use Rattle.csdf_core.proofs.MadePlans.{playable_made}
use Rattle.std.proofs.lemmas.List.Elements.{All-from_get_or}
use Rattle.csdf_core.specs.Ever.{AreFirings, repeated, Allows, IsPeriodEnd, ArePeriods, PhasesReturn, RunsForEver, PrintedIsPeriod, HasPeriod, AmpleByDefault}
use Rattle.csdf_core.specs.Ever.{HasFirings, whole_firings, none_finished}
use Rattle.csdf_core.proofs.FiringCounts.{put_at, got_at, put, got, begun}
use Rattle.csdf_core.proofs.Tallies.{AreTallied}
use Rattle.csdf_core.specs.Going.{CanGo}
use Rattle.csdf_core.proofs.Accepting.{AllIdle, idle_count, after_is, fired_with, idle_again, all_open, begins_free, reads_free, writes_free, finishes_free}
use Rattle.csdf_core.proofs.Periodic.{each_periodic, at_period, able_row, able_rows, given_mono, wet_at}
use Rattle.csdf_core.proofs.Able.{IsAble, IsAbleAt, able_later}
use Rattle.csdf_core.proofs.Booked.{IsBooked, can_of, booked_opening, booked_begun, booked_read, booked_written, booked_finished}

-- ---- the limit on all firings

-- with every actor idle, the firings that have begun are those that are finished
abbrev busy : Stage → ℕ
busy x = cond (not (is_stage x Idle)) 1 0

none_busy : (sts : List Stage) → ((b : ℕ) → get_or sts b Idle ≡ Idle) → count_by (λ (x : Stage). not (is_stage x Idle)) sts ≡ 0
none_busy [] idle = refl
none_busy (x ∷ sts) idle =
    let here : busy x ≡ 0 = ap busy (idle 0) in
    let rest : count_by (λ (y : Stage). not (is_stage y Idle)) sts ≡ 0 = none_busy sts (λ b. idle (suc b)) in
    omega (arith, sum_by-cons busy x sts, here, rest)

below_limit : (limit : Option ℕ) (most begun : ℕ) → begun < most → IfSome limit (λ l. most ≤ l) → is_reached limit begun ≡ false
below_limit None most begun lt h = refl
below_limit (Some l) most begun lt h = lt-leb _ _ (let less : begun < l = omega (arith, lt, h) in less)

-- ---- a state between two firings of period j, of which so many are finished

pub record IsBetween (plan : Plan) (q : List ℕ) (s : State) (j : ℕ) (n : List ℕ) : Type 0 where
  pub booked : IsBooked plan s
  pub reached : IsReached plan s
  pub idle : AllIdle s
  pub opens : s.opens ≡ replicate (length plan.channels) true
  pub counts : (b : ℕ) → count (present s) b ≡ at_period q j n b
  pub total : sum s.counts ≡ j * sum q + sum n

-- no reply is a refusal, and the moves end so many periods
pub record Goes (plan : Plan) (q : List ℕ) (s : State) (moves : List Move) (periods : ℕ) : Type 0 where
  pub accepted : AllByRecursion (λ (r : Reply). refused r ≡ None) (replies_of plan s moves)
  pub ends : IsBetween plan q (state_after plan s moves) periods (no_firings q)

goes_cons : (plan : Plan) (q : List ℕ) (s : State) (m : Move) (ms : List Move) (e : ℕ) → refusal plan (present s) m ≡ None
    → Goes plan q (accepted plan s m) ms e → Goes plan q s (m ∷ ms) e
goes_cons plan q s m ms e none g =
    let g2 : Goes plan q (after plan s m) ms e = subst (λ (t : State). Goes plan q t ms e) (sym (after_is plan s m none)) g in
    record { accepted = (ap (λ (o : Option _). refused (reply_by o (answer plan (present s) m))) none, g2.accepted); ends = g2.ends }

-- ---- whole periods leave every channel as it was

held_first : (put got begun : ℕ → ℕ) (cs : List Channel) (sts : List Stream) (c : ℕ) → length sts ≡ length cs → AreTallied put got begun cs sts
    → AllByRecursion (λ (d : Channel). total d.produce (put d.from) ≡ total d.consume (got d.to)) cs
    → length (part c (map waiting sts)) ≡ length (part c (map (λ (d : Channel). d.initial) cs))
held_first put got begun [] [] c len t same = refl
held_first put got begun [] (st ∷ sts) c len t same = absurd (omega arith)
held_first put got begun (d ∷ cs) [] c len t same = absurd (omega arith)
held_first put got begun (d ∷ cs) (st ∷ sts) zero len t same =
    let left : length (waiting st) ≡ length st.written - st.taken = length-drop st.taken st.written in
    let all = t.0.written in
    let gone = t.0.taken in
    let moved = same.0 in
    omega arith
held_first put got begun (d ∷ cs) (st ∷ sts) (suc c) len t same = held_first put got begun cs sts c (omega arith) t.1 same.1

-- ---- schedules of a period

listed : (channels : List graph.Channel) (q bounds n actors : List ℕ) → IsScheduleFrom channels q bounds n actors → IsSchedule channels bounds n actors
    × (counts_after n actors ≡ q)
listed channels q bounds n [] h = (tt, h)
listed channels q bounds n (a ∷ actors) h = let rest = listed channels q bounds (fired_counts n a) actors h.1 in ((h.0.can_go.able, rest.0), rest.1)

pub printed_is_period : PrintedIsPeriod
printed_is_period a schedule is = let both = listed a.graph.channels a.q a.capacities (no_firings a.q) schedule is in record { able = both.0; leads = both.1 }

pub has_period : HasPeriod
has_period a ok = let r = ok.least.completes.reached in (r.schedule, record { able = r.able; leads = r.leads })

-- ---- moves of whole firings

pub has_firings : HasFirings
has_firings plan tokens n [] right = refl
has_firings plan tokens n (a ∷ actors) right = (
  whole_firings tokens (fired_counts n a) actors,
  record { tokens = tokens a (get_or n a 0); whole = right a (get_or n a 0); four = refl },
  has_firings plan tokens (fired_counts n a) actors right,
)

-- four moves a firing
first_firings : (plan : Plan) (n xs ys : List ℕ) (moves : List Move) → AreFirings plan n (xs ++ ys) moves → AreFirings plan n xs (take (4 * length xs) moves)
first_firings plan n [] ys moves are = let none : 4 * 0 ≡ 0 = omega arith in ap (λ (k : ℕ). take k moves) none
first_firings plan n (x ∷ xs) ys moves are =
    let k : ℕ = 4 * length xs in
    let more : 4 * suc (length xs) ≡ suc (suc (suc (suc k))) = omega arith in (
      take k are.0,
      record { tokens = are.1.tokens; whole = are.1.whole; four = ap (λ (m : ℕ). take m moves) more ∙ ap (take (suc (suc (suc (suc k))))) are.1.four },
      first_firings plan (fired_counts n x) xs ys are.0 are.2,
    )

repeated_split : (i n : ℕ) (xs : List ℕ) → i ≤ n → repeated n xs ≡ repeated i xs ++ repeated (n - i) xs
repeated_split zero n xs le = let same : n ≡ n - 0 = omega arith in ap (λ (m : ℕ). repeated m xs) same
repeated_split (suc i) zero xs le = absurd (omega arith)
repeated_split (suc i) (suc n) xs le =
    let same : n - i ≡ suc n - suc i = omega arith in
    ap (λ (ys : List ℕ). xs ++ ys) (repeated_split i n xs (omega arith))
    ∙ sym (append_assoc xs (repeated i xs) (repeated (n - i) xs))
    ∙ ap (λ (m : ℕ). (xs ++ repeated i xs) ++ repeated m xs) same

repeated_length : (i : ℕ) (xs : List ℕ) → 4 * length (repeated i xs) ≡ i * (4 * length xs)
repeated_length zero xs = let none : 0 * (4 * length xs) ≡ 0 = omega arith in omega arith
repeated_length (suc i) xs = omega (arith, length-append xs (repeated i xs), repeated_length i xs, suc-mul i (4 * length xs))

first_periods : (plan : Plan) (schedule : List ℕ) (i periods : ℕ) (moves : List Move) → i ≤ periods → ArePeriods plan schedule periods moves
    → ArePeriods plan schedule i (take (i * (4 * length schedule)) moves)
first_periods plan schedule i periods moves le are =
    subst (λ (k : ℕ). AreFirings plan (none_finished plan) (repeated i schedule) (take k moves)) (repeated_length i schedule)
    (first_firings plan (none_finished plan) (repeated i schedule) (repeated (periods - i) schedule) moves
    (subst (λ (xs : List ℕ). AreFirings plan (none_finished plan) xs moves) (repeated_split i periods schedule le) are))

-- ---- the cells

ample_rows : (gs : List graph.Channel) (caps : List ℕ) → length caps ≡ length gs
    → sum_by (λ (c : Channel). c.capacity) (map with_capacity (zip gs caps)) ≡ sum caps
ample_rows [] [] len = refl
ample_rows [] (b ∷ caps) len = absurd (omega arith)
ample_rows (g ∷ gs) [] len = absurd (omega arith)
ample_rows (g ∷ gs) (b ∷ caps) len =
    omega (
      arith,
      sum_by-cons (λ (c : Channel). c.capacity) (with_capacity (g, b)) (map with_capacity (zip gs caps)),
      sum_by-cons (λ (k : ℕ). k) b caps,
      ample_rows gs caps (omega arith),
    )

pub ample_by_default : AmpleByDefault
ample_by_default a limits supplies firings ok none =
    let all = ample_rows a.graph.channels a.capacities ok.least.completes.each_channel in
    let cells : cells_of a ≡ sum a.capacities = ap (λ (o : Option ℕ). unwrap_or o (sum a.capacities)) none in
    let le : sum_by (λ (c : Channel). c.capacity) (map with_capacity (zip a.graph.channels a.capacities)) ≤ cells_of a = omega arith in
    le

-- ---- the first state, whatever the limits

reached_first : (a : Accepted) (limits supplies : List ℕ) (firings : Option ℕ) → IsAccepted a
    → IsReached (plan_for a limits supplies firings) (opening (plan_for a limits supplies firings))
reached_first a limits supplies firings ok =
    let none : List ℕ = replicate (length a.graph.actors) 0 in
    let small : All (λ (n : ℕ). n ≤ 16384000) none =
    All-from_get_or (λ (n : ℕ). n ≤ 16384000) none 0 (λ i lt. (let z = none_at (length a.graph.actors) i in omega arith)) in
    let r = reached_opening (plan_for a none supplies firings) (playable_made a none supplies firings ok (length-replicate (length a.graph.actors) 0) small) in
    let plan : Plan = plan_for a limits supplies firings in
    record {
      fit = record {
        counted = r.fit.counted;
        staged = r.fit.staged;
        opened = r.fit.opened;
        queued = r.fit.queued;
        below = λ b busy. absurd (busy (alike (length plan.sources) b Idle));
        ready = r.fit.ready;
        closed = r.fit.closed;
        room = r.fit.room;
      };
      lawful = r.lawful;
    }

-- ---- the walk

module _ (a : Accepted) (limits supplies : List ℕ) (firings : Option ℕ) (periods : ℕ) (ok : IsAccepted a)
    (ample : HasAmpleCells (plan_for a limits supplies firings)) (allows : Allows (plan_for a limits supplies firings) a.q periods) where
  abbrev plan : Plan
  plan = plan_for a limits supplies firings

  -- an actor that is able to fire by the counts of the schedule can go in the core
  can_go : (s : State) (j x : ℕ) (n : List ℕ) → IsBetween plan a.q s j n → j < periods → length n ≡ length a.graph.actors → IsFed a.graph.channels n
      → CanFire a.graph.channels a.capacities n x → suc (get_or n x 0) ≤ get_or a.q x 0
      → CanGo plan (present s) x
  can_go s j x n b few len fed can left =
      let k : ℕ = at_period a.q j n x in
      let whole : suc j * get_or a.q x 0 ≤ periods * get_or a.q x 0 = mul-le-mul few (let same : get_or a.q x 0 ≤ get_or a.q x 0 = omega arith in same) in
      let next : suc j * get_or a.q x 0 ≡ j * get_or a.q x 0 + get_or a.q x 0 = omega (arith, suc-mul j (get_or a.q x 0)) in
      let limit = allows.limits x in
      let less : suc k ≤ periods * get_or a.q x 0 = omega arith in
      let able : IsAble plan (at_period a.q j n) (at_period a.q j n) x k = record {
        exists = subst (λ m. x < m) (len ∙ sym (length-map a.graph.actors (λ (actor : graph.Actor). is_source_kernel actor.kernel))) can.exists;
        below = lt-leb _ _ (let below2 : k < get_or plan.limits x 0 = omega arith in below2);
        wet = wet_at (is_source plan x) (slice_index plan.supplies x) (given plan x (suc k)) (λ source.
            (let enough = allows.supplies x source in
            let grows : given plan x (suc k) ≤ given plan x (periods * get_or a.q x 0) = given_mono plan x (suc k) (periods * get_or a.q x 0) less in
            omega arith));
        rows = able_rows (IsAbleAt (at_period a.q j n) (at_period a.q j n) x k) a.graph.channels a.capacities ok.least.completes.each_channel
            (λ i c is. able_row a.graph.channels a.q a.capacities n j x i c (get_or a.capacities i 0) can.exists (each_periodic a ok i c is) refl is fed can);
      } in
      let puts : (d : ℕ) → at_period a.q j n d ≤ put s.counts s.stages d =
      λ d. (let i = idle_count put_at s b.idle (λ m. refl) d in let h = b.counts d in omega arith) in
      let gots : (d : ℕ) → at_period a.q j n d ≤ got s.counts s.stages d =
      λ d. (let i = idle_count got_at s b.idle (λ m. refl) d in let h = b.counts d in omega arith) in
      let still = able_later plan (at_period a.q j n) (at_period a.q j n) (put s.counts s.stages) (got s.counts s.stages) x k puts gots able in
      can_of plan s x b.booked (b.idle x) (subst (λ m. IsAble plan (put s.counts s.stages) (got s.counts s.stages) x m) (sym (b.counts x)) still)

  -- the limit on all firings isn't reached
  not_stopped : (s : State) (j : ℕ) (n : List ℕ) → IsBetween plan a.q s j n → j < periods → suc (sum n) ≤ sum a.q → is_stopped plan (present s) ≡ false
  not_stopped s j n b few left =
      let none : count_by (λ (x : Stage). not (is_stage x Idle)) s.stages ≡ 0 = none_busy s.stages b.idle in
      let whole : suc j * sum a.q ≤ periods * sum a.q = mul-le-mul few (let same : sum a.q ≤ sum a.q = omega arith in same) in
      let next : suc j * sum a.q ≡ j * sum a.q + sum a.q = omega (arith, suc-mul j (sum a.q)) in
      let total = b.total in
      below_limit firings (periods * sum a.q) (begun_count (present s)) (let less : begun_count (present s) < periods * sum a.q = omega arith in less)
      allows.firings

  -- a whole firing
  fires : (s : State) (j x : ℕ) (n : List ℕ) (v : List ℤ) (ms : List Move) (e : ℕ) → IsBetween plan a.q s j n → j < periods → suc (sum n) ≤ sum a.q
      → x < length n → CanGo plan (present s) x → length v ≡ gift x (get_or s.counts x 0) plan.channels
      → (IsBetween plan a.q (fired_with plan s x v) j (fired_counts n x) → Goes plan a.q (fired_with plan s x v) ms e)
      → Goes plan a.q s (Begin x ∷ Read x ∷ Write x v ∷ Finish x ∷ ms) e
  fires s j x n v ms e b few left ltn can len go =
      let there : x < length plan.sources = can.exists in
      let s1 : State = accepted plan s (Begin x) in
      let s2 : State = accepted plan s1 (Read x) in
      let s3 : State = accepted plan s2 (Write x v) in
      let s4 : State = accepted plan s3 (Finish x) in
      let lt : x < length s.stages = (let staged = b.booked.staged in omega arith) in
      let ltc : x < length s.counts = (let counted = b.booked.counted in omega arith) in
      let k1 = booked_begun plan s x b.booked can in
      let at1 : stage (present s1) x ≡ Begun = get_or-set_same s.stages x Begun Idle lt in
      let k2 = booked_read plan s1 x k1 there at1 in
      let at2 : stage (present s2) x ≡ Fetched = get_or-set_same s1.stages x Fetched Idle (let staged = k1.staged in omega arith) in
      let k3 = booked_written plan s2 x v k2 there at2 len in
      let at3 : stage (present s3) x ≡ Written = get_or-set_same s2.stages x Written Idle (let staged = k2.staged in omega arith) in
      let k4 = booked_finished plan s3 x k3 there at3 in
      let n1 : refusal plan (present s) (Begin x) ≡ None = begins_free plan (present s) x (all_open plan s x b.opens) (not_stopped s j n b few left) ample
      b.reached.fit can in
      let n2 : refusal plan (present s1) (Read x) ≡ None = reads_free plan (present s1) x there at1 in
      let n3 : refusal plan (present s2) (Write x v) ≡ None = writes_free plan (present s2) x v there at2 len in
      let n4 : refusal plan (present s3) (Finish x) ≡ None = finishes_free plan (present s3) x there at3 in
      let r1 = reached_accepted plan s (Begin x) b.reached n1 in
      let r2 = reached_accepted plan s1 (Read x) r1 n2 in
      let r3 = reached_accepted plan s2 (Write x v) r2 n3 in
      let r4 = reached_accepted plan s3 (Finish x) r3 n4 in
      let after_it : IsBetween plan a.q s4 j (fired_counts n x) = record {
        booked = k4;
        reached = r4;
        idle = idle_again plan s x v b.idle;
        opens = b.opens;
        counts = λ d. elim (eqb_tells d x) [
          | inl is ↦ subst (λ (y : ℕ). get_or (fired_counts s.counts x) y 0 ≡ at_period a.q j (fired_counts n x) y) (sym is.1)
              (let one = fired_same s.counts x ltc in let two = fired_same n x ltn in let h = b.counts x in omega arith)
          | inr is ↦ let one = fired_other s.counts x d is.1 in let two = fired_other n x d is.1 in let h = b.counts d in omega arith
        ];
        total = (let one = fired_sum s.counts x ltc in let two = fired_sum n x ltn in let h = b.total in omega arith);
      } in
      goes_cons plan a.q s (Begin x) (Read x ∷ Write x v ∷ Finish x ∷ ms) e n1
      (goes_cons plan a.q s1 (Read x) (Write x v ∷ Finish x ∷ ms) e n2
      (goes_cons plan a.q s2 (Write x v) (Finish x ∷ ms) e n3
      (goes_cons plan a.q s3 (Finish x) ms e n4 (go after_it))))

  -- the rest of a period, and what comes after it
  walk : (j e : ℕ) (more : List ℕ) (s : State) (n actors : List ℕ) (moves : List Move) → j < periods
      → ((t : State) (ms : List Move) → IsBetween plan a.q t j a.q → AreFirings plan t.counts more ms → Goes plan a.q t ms e)
      → length n ≡ length a.graph.actors → IsFed a.graph.channels n → IsSchedule a.graph.channels a.capacities n actors → counts_after n actors ≡ a.q
      → IsBetween plan a.q s j n → AreFirings plan s.counts (actors ++ more) moves → Goes plan a.q s moves e
  walk j e more s n [] moves few on len fed able leads b are = on s moves (subst (IsBetween plan a.q s j) leads b) are
  walk j e more s n (x ∷ actors) moves few on len fed able leads b are =
      let can = able.0 in
      let rest : List Move = are.0 in
      let v : List ℤ = are.1.tokens in
      let next : List ℕ = fired_counts n x in
      let lenq : length a.q ≡ length a.graph.actors = ok.repetition.firings.each_actor in
      let len2 : length next ≡ length a.graph.actors = fired_length n x ∙ len in
      let grows : (d : ℕ) → get_or next d 0 ≤ get_or a.q d 0 =
      λ d. subst (λ (m : List ℕ). get_or next d 0 ≤ get_or m d 0) leads (after_more a.graph.channels a.capacities next actors d able.1) in
      let below : sum next ≤ sum a.q = sum_within next a.q (len2 ∙ sym lenq) grows in
      let one = fired_same n x can.exists in
      let up = grows x in
      let sums = fired_sum n x can.exists in
      let go = can_go s j x n b few len fed can (omega arith) in
      subst (λ (ms : List Move). Goes plan a.q s ms e) (sym are.1.four)
      (fires s j x n v rest e b few (omega arith) can.exists go are.1.whole (λ after_it.
      walk j e more (fired_with plan s x v) next actors rest few on len2
      (fed_fired a.graph.channels a.capacities n x fed (able_of a.graph.channels a.capacities n x fed can)) able.1 leads after_it are.2))

  no_sum : (q : List ℕ) → sum (no_firings q) ≡ 0
  no_sum [] = refl
  no_sum (x ∷ q) = omega (arith, sum_by-cons (λ (k : ℕ). k) 0 (no_firings q), no_sum q)

  -- a period more
  turned : (t : State) (j : ℕ) → IsBetween plan a.q t j a.q → IsBetween plan a.q t (suc j) (no_firings a.q)
  turned t j b = record {
    booked = b.booked;
    reached = b.reached;
    idle = b.idle;
    opens = b.opens;
    counts = λ d. (let h = b.counts d in let z = none_at (length a.q) d in omega (arith, suc-mul j (get_or a.q d 0)));
    total = (let h = b.total in let z = no_sum a.q in omega (arith, suc-mul j (sum a.q)));
  }

  over : (schedule : List ℕ) → IsSchedule a.graph.channels a.capacities (no_firings a.q) schedule → counts_after (no_firings a.q) schedule ≡ a.q
      → (left j : ℕ) (s : State) (moves : List Move) → j + left ≤ periods → IsBetween plan a.q s j (no_firings a.q)
      → AreFirings plan s.counts (repeated left schedule) moves → Goes plan a.q s moves (j + left)
  over schedule able leads zero j s moves le b are =
      let none : Goes plan a.q s [] j = record { accepted = tt; ends = b } in
      let same : j ≡ j + 0 = omega arith in
      subst (λ (e : ℕ). Goes plan a.q s moves e) same (subst (λ (ms : List Move). Goes plan a.q s ms j) (sym are) none)
  over schedule able leads (suc left) j s moves le b are =
      let same : suc j + left ≡ j + suc left = omega arith in
      subst (λ (e : ℕ). Goes plan a.q s moves e) same
      (walk j (suc j + left) (repeated left schedule) s (no_firings a.q) schedule moves (omega arith)
      (λ t ms c more. over schedule able leads left (suc j) t ms (omega arith) (turned t j c) more)
      (length-replicate (length a.q) 0 ∙ ok.repetition.firings.each_actor) (fed_first a.graph.channels (length a.q)) able leads b are)

  at_first : IsBetween plan a.q (opening plan) 0 (no_firings a.q)
  at_first = record {
    booked = booked_opening plan;
    reached = reached_first a limits supplies firings ok;
    idle = λ d. alike (length plan.sources) d Idle;
    opens = refl;
    counts = λ d. (let none = none_at (length plan.sources) d in let z = none_at (length a.q) d in let m : 0 * get_or a.q d 0 ≡ 0 = omega arith in omega arith);
    total = (let none : sum (replicate (length plan.sources) 0) ≡ length plan.sources * 0 = sum_by-replicate (λ (k : ℕ). k) (length plan.sources) 0 in
        let z = no_sum a.q in let m : 0 * sum a.q ≡ 0 = omega arith in omega arith);
  }

  -- the end of so many periods
  ended : (m : ℕ) (t : State) → IsBetween plan a.q t m (no_firings a.q) → IsPeriodEnd plan a.q m t
  ended m t b =
      let counts : (d : ℕ) → count (present t) d ≡ m * get_or a.q d 0 = λ d. (let h = b.counts d in let z = none_at (length a.q) d in omega arith) in
      record {
        held = λ c. held_first (put t.counts t.stages) (got t.counts t.stages) (begun t.counts t.stages) plan.channels t.streams c b.booked.streamed
            b.booked.tallied
            (able_rows (λ (d : Channel). total d.produce (put t.counts t.stages d.from) ≡ total d.consume (got t.counts t.stages d.to)) a.graph.channels
            a.capacities ok.least.completes.each_channel
            (λ i d is.
            (let p = each_periodic a ok i d is in
            let z1 : m * get_or a.q d.from 0 + 0 ≡ m * get_or a.q d.from 0 = omega arith in
            let z2 : m * get_or a.q d.to 0 + 0 ≡ m * get_or a.q d.to 0 = omega arith in
            let made : produced d (put t.counts t.stages d.from) ≡ p.moved m + produced d 0 =
            ap (produced d) (idle_count put_at t b.idle (λ k. refl) d.from ∙ counts d.from ∙ sym z1) ∙ p.put m 0 in
            let gone : consumed d (got t.counts t.stages d.to) ≡ p.moved m + consumed d 0 =
            ap (consumed d) (idle_count got_at t b.idle (λ k. refl) d.to ∙ counts d.to ∙ sym z2) ∙ p.taken m 0 in
            made ∙ sym gone)));
        counts = counts;
        idle = b.idle;
      }

pub runs_for_ever : RunsForEver
runs_for_ever a schedule ok is limits supplies firings periods moves ample allows are =
    let plan : Plan = plan_for a limits supplies firings in
    let begins = at_first a limits supplies firings periods ok ample allows in
    let goes : (i : ℕ) (ms : List Move) → i ≤ periods → ArePeriods plan schedule i ms → Goes plan a.q (opening plan) ms i = λ i ms le fit.
    (let zeros : 0 + i ≡ i = omega arith in
    subst (λ (m : ℕ). Goes plan a.q (opening plan) ms m) zeros
    (over a limits supplies firings periods ok ample allows schedule is.able is.leads i 0 (opening plan) ms (omega arith) begins fit)) in
    let all = goes periods moves (omega arith) are in
    record {
      accepted = all.accepted;
      within = λ k. within_all plan (opening plan) (take k moves) begins.reached;
      each = λ i le.
          ended a limits supplies firings periods ok ample allows i (state_after plan (opening plan) (take (i * (4 * length schedule)) moves))
          (goes i (take (i * (4 * length schedule)) moves) le (first_periods plan schedule i periods moves le are)).ends;
      ends = ended a limits supplies firings periods ok ample allows periods (state_after plan (opening plan) moves) all.ends;
    }

pub phases_return : PhasesReturn
phases_return a periods b ok lt =
    let p : ℕ = phases_of a.graph.actors b in
    let r : ℕ = get_or a.r b 0 in
    let is : periods * get_or a.q b 0 ≡ p * (r * periods) = ap (λ (k : ℕ). periods * k) (ok.repetition.firings.firings b lt) ∙ mul_comm periods (p * r)
    ∙ mul_assoc p r periods in
    ap (λ (k : ℕ). k % p) is ∙ mul-mod_right p (r * periods)
